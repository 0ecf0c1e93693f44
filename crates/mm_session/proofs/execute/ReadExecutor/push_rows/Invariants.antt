use Rattle.std.proofs.Common.{◌≡◌, ◌++◌, [], map}
use Rattle.std.specs.List.{flat_map}
use Rattle.ttree.specs.Held.{rest_of}
use Rattle.plain_tables.specs.Csv.{row_record}
use Rattle.mm_catalog.specs.Picked.{seen_values}
use Rattle.mm_session.specs.Dumps.{GoesOnWithin}
use Rattle.mm_session.proofs.execute.ReadExecutor.push_rows.Given as goal
use Rattle.mm_relation.specs.State.{tree_list}

abbrev pub invariant-loop-r : goal.invariant-loop-r
invariant-loop-r l = record {
  split : (tree_list l.relation.by_key) ≡ l.yielded ++ rest_of l.r-iterator;
  written : GoesOnWithin l.limit l.fn.records.bytes l.records.bytes (flat_map row_record (map (seen_values l.catalog l.relation) l.yielded));
  ended : l.records.part ≡ [];
}
