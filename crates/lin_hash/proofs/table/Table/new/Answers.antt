use Rattle.std.proofs.Common.{◌≡◌, ◌∙◌, ap, replicate, arith}
use Rattle.lin_hash.specs.Nodes.{no_link}
use Rattle.lin_hash.proofs.Taken.{AreHung-new}
use Rattle.lin_hash.proofs.table.Table.new.Goals as goal

pub invariant_of-result : goal.invariant_of-result
invariant_of-result c =
    let four : c.loop.counter ≡ 4 = omega arith in
    let heads : c.loop.heads.items ≡ replicate 4 no_link = c.loop.invariant ∙ ap (λ n. replicate n no_link) four in
    record {
      hung = rw (heads, c.new.ensures.items) AreHung-new;
      few = rw c.new.ensures.items (omega arith);
    }
