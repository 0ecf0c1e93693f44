use Rattle.std.proofs.Common.{◌≡◌, ◌++◌, map}
use Rattle.std.specs.List.{range_with_len}
use Rattle.mm_session.proofs.Places.{place_at}
use Rattle.mm_session.proofs.execute.select.push_places.Given as goal

abbrev pub invariant-loop-column : goal.invariant-loop-column
invariant-loop-column l = l.places.items ≡ l.fn.places.items ++ map (place_at l.source) (range_with_len 0 l.column)
