use Rattle.std.proofs.Common.{◌≡◌, ◌<◌, ◌≤◌, ℕ, List, [], Some, length, map, take}
use Rattle.std.specs.Io.KnownBytes.{Appends}
use Rattle.std.specs.List.{flat_map}
use Rattle.plain_tables.specs.Csv.{row_record}
use Rattle.mm_catalog.specs.Picked.{seen_values}
use Rattle.mm_session.proofs.execute.saved_rows.push_fitting.Given as goal

abbrev pub invariant-loop-number : goal.invariant-loop-number
invariant-loop-number l = record {
  made : Appends l.fn.records.bytes l.records.bytes (flat_map row_record (take l.number (map (seen_values l.catalog l.relation) l.rows)));
  ended : l.records.part ≡ [];
  ends : (now : List ℕ) → l.records.bytes ≡ Some now → l.end ≡ length now;
  within : 0 < l.number → l.end ≤ l.limit;
}
