use Rattle.std.proofs.Common.{◌∙◌, sym}
use Rattle.std.specs.List.{refill}
use Rattle.part_raw.proofs.Rows.{length-put_run}
use Rattle.part_raw.proofs.block.Block.run_mut.Goals as goal

pub invariant_of-self-lent : goal.invariant_of-self-lent
invariant_of-self-lent g c w = record {
  count = c.self.invariant.count ∙ sym (length-put_run c.self.inside.slots.held c.args.from (refill c.args.count c.run_mut.result.now w));
  at = c.self.invariant.at;
  by = c.self.invariant.by;
}
