use Rattle.std.proofs.Common.{◌≡◌, ◌+◌, ℕ, List, false, length}
use Rattle.std.specs.Io.KnownBytes.{Appends}
use Rattle.mm_session.specs.Responding.{waits}
use Rattle.mm_batch.proofs.Watches.{Begun}
use Rattle.mm_batch.proofs.watched.Watched.take_piece.Given as goal

-- what was done of the piece stands behind the stream, and what is left follows it
abbrev pub invariant-loop-others : goal.invariant-loop-others
invariant-loop-others g l =
    let stops = g.T.Watch.stops l.fn.watch in
    (gained : List ℕ) × Appends (g.O.Outlet.contents l.fn.outlet) (g.O.Outlet.contents l.outlet) gained
    × Begun stops l.fn.self.session l.self.session l.piece l.rest gained × (l.self.session.ended ≡ false) × (g.T.Watch.stops l.watch ≡ stops)

abbrev pub decreases-loop-others : goal.decreases-loop-others
decreases-loop-others g l = length l.rest + waits l.self.session.kept
