use Rattle.std.proofs.Common.{◌≡◌, ◌<◌, length, take}
use Rattle.std.specs.Option.{IfSome, option_map, option_to_list}
use Rattle.mm_resolver.specs.Naming.{columns_of_all, written, as_found}
use Rattle.mm_resolver.proofs.Columns.{fitted}
use Rattle.mm_resolver.proofs.names.column.Given as goal

abbrev pub invariant-loop-source : goal.invariant-loop-source
invariant-loop-source l = record {
  fitted : fitted (written l.name) (columns_of_all (take l.source l.tables)) ≡ option_to_list (option_map as_found l.found);
  within : IfSome l.found (λ named. named.place.source < length l.tables);
}
