use Rattle.mm_index.proofs.Halving.{above_passed}
use Rattle.mm_index.proofs.search.first_not_equal.Goals as goal

pub returns-else-is_eq-clause-above : goal.returns-else-is_eq-clause-above
returns-else-is_eq-clause-above g c =
    above_passed _ _ _ _ c.loop-end.invariant.0 (record { number = 0 }) c.requires.in_order c.requires.not_below cc
