use Rattle.std.proofs.Common.{◌≡◌, ◌++◌, drop}
use Rattle.mm_session.proofs.Places.{places_behind}
use Rattle.mm_session.proofs.execute.ReadExecutor.all_places.Given as goal

abbrev pub invariant-loop-source : goal.invariant-loop-source
invariant-loop-source l = l.places.items ++ places_behind l.catalog l.source (drop l.source l.sources) ≡ places_behind l.catalog 0 l.sources
