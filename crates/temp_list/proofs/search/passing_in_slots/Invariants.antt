use Rattle.std.proofs.Common.{◌≡◌, ◌&&◌, filter, is_some}
use Rattle.std.specs.FinMap as finite
use Rattle.temp_list.specs.Reading.{row_passes}
use Rattle.temp_list.specs.Slots.{AreHeldFrom}
use Rattle.temp_list.proofs.Slots.{refs_below}
use Rattle.temp_list.proofs.search.passing_in_slots.Given as goal

-- those of the slots so far, and what is known of the next
abbrev pub invariant-loop-number : goal.invariant-loop-number
invariant-loop-number g l = record {
  rows : l.rows.items ≡ filter (λ r. is_some (finite.get l.relation.rows r) && row_passes (g.R.Relations.tables l.tables) l.relation l.tests r) (refs_below l.number);
  held : AreHeldFrom l.relation.rows l.number l.held_end;
}
