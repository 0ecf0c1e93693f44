use Rattle.std.proofs.Common.{◌≡◌, map, take}
use Rattle.mm_catalog.specs.Counted.{linked_of}
use Rattle.mm_catalog.specs.Assigned.{links_at}
use Rattle.mm_catalog.proofs.updating.list_links.Given as goal

abbrev pub invariant-loop-r : goal.invariant-loop-r
invariant-loop-r l = map linked_of l.links.items ≡ links_at l.relation l.sets (take l.r-index l.rows)
