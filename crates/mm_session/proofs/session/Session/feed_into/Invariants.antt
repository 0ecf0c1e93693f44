use Rattle.std.proofs.Common.{◌≡◌, ◌+◌, ◌++◌, ℕ, List, length}
use Rattle.std.specs.Io.KnownBytes.{Appends}
use Rattle.mm_catalog.specs.Seen.{database_of}
use Rattle.mm_transactions.specs.State.{saved_of}
use Rattle.mm_session.specs.Responding.{waits}
use Rattle.mm_session.specs.Sessions.{State, Feeds}
use Rattle.mm_session.proofs.session.Session.feed_into.Given as goal

-- what was done of the piece was fed to the session, and what is left follows it
abbrev pub invariant-loop-others : goal.invariant-loop-others
invariant-loop-others g l =
    let r = l.self-inside.responder in
    let now : State = record { limits = r.executor.tables.catalog.limits; database = database_of r.executor.tables.catalog; saved = saved_of r.executor.tables; catalog = r.executor.tables.catalog; ended = l.self-inside.ended; kept = r.kept } in
    (done : List ℕ) × (gained : List ℕ) × Appends (g.O.Outlet.contents l.fn.outlet) (g.O.Outlet.contents l.outlet) gained
    × Feeds l.fn.self now done gained × (l.piece ≡ done ++ l.rest) × (g.O.Outlet.name l.outlet ≡ g.O.Outlet.name l.fn.outlet)

abbrev pub decreases-loop-others : goal.decreases-loop-others
decreases-loop-others g l = length l.rest + waits l.self-inside.responder.kept
