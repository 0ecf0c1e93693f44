use Rattle.std.proofs.Common.{ap, false, refl, ◌∙◌}
use Rattle.std.specs.FinMap.{empty}
use Rattle.part_raw.specs.Store.{store}
use Rattle.part_raw.specs.Counted.{seen}
use Rattle.part_raw.specs.Layout.{tuples_of}
use Rattle.part_raw.specs.Open.{tables}
use Rattle.part_raw.proofs.Filled.{stocked_empty}
use Rattle.part_raw.proofs.Mapped.{mapped-empty}
use Rattle.part_raw.proofs.Parts.{tuples_of-none}
use Rattle.part_raw.proofs.store.Partitions.new.Goals as goal

pub invariant_of-result : goal.invariant_of-result
invariant_of-result g c = rw (c.new.ensures.items, c.new-2.ensures.items, c.new-3.ensures.items) (stocked_empty c.args.width c.requires.0 c.requires.1, refl)

pub returns : goal.returns
returns g c =
    ap (λ blocks. seen c.args.width (tuples_of (tables c.args.width blocks)) c.new-2.result.items 0 false) c.new.ensures.items
    ∙ ap (λ tuples. seen c.args.width tuples c.new-2.result.items 0 false) tuples_of-none ∙ ap (λ counts. store c.args.width empty counts 0 false) (mapped-empty _)
