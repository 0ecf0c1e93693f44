use Rattle.std.proofs.Common.{◌≡◌, ◌≤◌, ◌*◌, length, take}
use Rattle.std.specs.List.{sum_by}
use Rattle.plain_tables.specs.Tables.{Table}
use Rattle.mm_catalog.specs.Seen.{database_of}
use Rattle.mm_session.proofs.execute.saving.all_rows.Given as goal

abbrev pub invariant-loop-number : goal.invariant-loop-number
invariant-loop-number l = record {
  counted : l.rows ≡ sum_by (λ (t : Table). length t.rows) (take l.number (database_of l.catalog));
  few : l.rows ≤ l.number * 16777216;
}
