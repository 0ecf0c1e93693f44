use Rattle.std.proofs.Common.{◌≡◌, map, take}
use Rattle.std.specs.List.{flat_map}
use Rattle.mm_catalog.specs.Seen.{database_of}
use Rattle.mm_cells.specs.Values.{values_of}
use Rattle.mm_session.specs.Columns.{column_told}
use Rattle.mm_session.specs.Members.{tables_at}
use Rattle.mm_session.proofs.execute.ReadExecutor.columns.Given as goal

abbrev pub invariant-loop-place : goal.invariant-loop-place
invariant-loop-place l =
    values_of l.cells ≡ flat_map (column_told (database_of l.catalog) (tables_at l.catalog (map (λ t. t.0) l.sources.items))) (take l.place-index l.place-items)
