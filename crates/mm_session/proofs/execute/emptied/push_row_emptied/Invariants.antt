use Rattle.std.proofs.Common.{◌≡◌, ◌<◌, ◌++◌, length, take}
use Rattle.std.specs.List.{flat_map, zip}
use Rattle.mm_catalog.specs.Picked.{seen_values}
use Rattle.mm_session.specs.Listing.{command_lines}
use Rattle.mm_session.specs.Saving.{HasLineFeed, emptying_at}
use Rattle.mm_session.proofs.execute.emptied.push_row_emptied.Given as goal

abbrev pub invariant-loop-number : goal.invariant-loop-number
invariant-loop-number l = record {
  put : l.answer ≡ l.fn.answer ++ command_lines (flat_map (emptying_at l.table l.name l.key) (take l.number (zip l.relation.schema.columns (seen_values l.catalog l.relation l.fn.r))));
  spelled : 0 < length (flat_map (emptying_at l.table l.name l.key) (take l.number (zip l.relation.schema.columns (seen_values l.catalog l.relation l.fn.r)))) → ¬ (HasLineFeed l.key);
}
