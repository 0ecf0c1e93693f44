use Rattle.std.proofs.Common.{◌≡◌, ◌++◌, map, take}
use Rattle.mm_catalog.specs.Assigned.{row_links_at}
use Rattle.mm_catalog.specs.Counted.{linked_of}
use Rattle.mm_catalog.proofs.updating.push_links.Given as goal

abbrev pub invariant-loop-column : goal.invariant-loop-column
invariant-loop-column l =
    map linked_of l.links.items ≡ map linked_of l.initial.links.items ++ row_links_at l.relation.targets (take l.column-index l.sets) l.row.row
