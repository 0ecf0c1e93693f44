use Rattle.std.proofs.Common.{◌≡◌, ◌∙◌, [], ap, replicate, refl, arith}
use Rattle.lin_hash.specs.Nodes.{no_link}
use Rattle.lin_hash.specs.RowChains.{IsRowChain}
use Rattle.lin_hash.proofs.Hanging.{AreHungBy-empty}
use Rattle.lin_hash.proofs.Levels.{IsAddressed-new}
use Rattle.lin_hash.proofs.row_table.RowTable.new.Goals as goal

pub invariant_of-result : goal.invariant_of-result
invariant_of-result c =
    let four : c.loop.counter ≡ 4 = omega arith in
    let heads : c.loop.heads.items ≡ replicate 4 no_link = c.loop.invariant ∙ ap (λ n. replicate n no_link) four in
    record {
      hung = rw (heads, c.new.ensures.items) (AreHungBy-empty (IsRowChain []) 0 0 (replicate 4 []) no_link 4 IsAddressed-new refl refl);
      few = rw c.new.ensures.items (omega arith);
    }
