use Rattle.std.proofs.Common.{◌≡◌, ◌++◌, map, take}
use Rattle.std.specs.List.{All, flat_map}
use Rattle.part_raw.specs.declared.tuple_ref.TupleRef.{TupleRef}
use Rattle.mm_catalog.specs.Picked.{seen_values}
use Rattle.mm_session.specs.Listing.{command_lines}
use Rattle.mm_session.specs.Saving.{IsUnspellable, emptyings}
use Rattle.mm_session.proofs.execute.emptied.push_all_emptied.Given as goal

abbrev pub invariant-loop-r : goal.invariant-loop-r
invariant-loop-r l = record {
  put : l.answer ≡ l.fn.answer ++ command_lines (flat_map (emptyings l.table l.relation.schema.columns) (map (seen_values l.catalog l.relation) (take l.r-index l.rows)));
  spelled : All (λ (r : TupleRef). ¬ (IsUnspellable l.table l.relation.schema.columns (seen_values l.catalog l.relation r))) (take l.r-index l.rows);
}
