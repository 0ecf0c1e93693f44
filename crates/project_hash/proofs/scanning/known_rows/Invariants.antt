use Rattle.std.proofs.Common.{◌≤◌, vec_len}
use Rattle.std.specs.List.{All}
use Rattle.temp_list.specs.Reading.{passing}
use Rattle.temp_list.specs.Slots.{AreHeldFrom}
use Rattle.project_hash.specs.Known.{AreKnown, row_states}
use Rattle.project_hash.specs.Shown.{IsShown}
use Rattle.project_hash.specs.Table.{list_of_table}
use Rattle.project_hash.proofs.Scans.{IsShownBy, found_below}
use Rattle.project_hash.proofs.scanning.known_rows.Given as goal

-- what those of the slots so far show is shown by the rows that are known, and what is known of the next slots
abbrev pub invariant-loop-number : goal.invariant-loop-number
invariant-loop-number g l = record {
  known : AreKnown l.table l.known.rows.items l.known.by_hash.entries;
  some : All (IsShown l.table.relations (list_of_table l.table.table (passing l.table.relations l.table.relation l.tests) l.table.places)) (row_states l.table l.known.rows.items);
  all : All (IsShownBy l.table l.tests l.known.rows.items) (found_below l.table l.tests l.number);
  few : vec_len l.known.rows ≤ l.number;
  held : AreHeldFrom l.table.relation.rows l.number l.held_end;
}
