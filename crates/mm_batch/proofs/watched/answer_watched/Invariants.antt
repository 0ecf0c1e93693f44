use Rattle.std.proofs.Common.{◌≡◌, ℕ, List}
use Rattle.std.specs.Io.KnownBytes.{Appends, Consumes}
use Rattle.mm_session.specs.Turns.{IsPrompt}
use Rattle.mm_session.proofs.Turns.{HasCome}
use Rattle.mm_batch.specs.Watching.{Stands}
use Rattle.mm_batch.proofs.watched.answer_watched.Given as goal

-- what was read so far has what was written so far as its answers, and the stream was not to stop at any
abbrev pub invariant-loop : goal.invariant-loop
invariant-loop g l =
    let stops = g.T.Watch.stops l.fn.watch in
    (stream : List ℕ) × (gained : List ℕ) × Consumes (g.R.PromptRead.to_come l.fn.r) (g.R.PromptRead.to_come l.r) stream
    × Appends (g.O.Outlet.contents l.fn.outlet) (g.O.Outlet.contents l.outlet) gained
    × Stands stops l.watched.session stream gained × (g.T.Watch.stops l.watch ≡ stops) × g.O.Outlet.is_flushed l.outlet
    × HasCome (g.R.PromptRead.turns l.fn.r) (g.R.PromptRead.turns l.r) stream
    × IsPrompt (g.R.PromptRead.turns l.fn.r) (g.R.PromptRead.turns l.r) (g.O.Outlet.contents l.fn.outlet)
