use Rattle.std.proofs.Common.{◌≡◌, map, take}
use Rattle.mm_resolver.specs.Slots.{untested_slots}
use Rattle.mm_resolver.proofs.selected.untested_sources.Given as goal

abbrev pub invariant-loop-table : goal.invariant-loop-table
invariant-loop-table g l = map g.C.AsCondition.as_source l.sources.items ≡ map untested_slots (take l.table-index l.tables)
