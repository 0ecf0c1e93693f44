use Rattle.std.proofs.Common.{◌≡◌, ℕ, List, [], false}
use Rattle.std.specs.Io.KnownBytes.{Appends, Consumes}
use Rattle.plain_tables.specs.declared.command.TheConstants.Limits.{STANDARD}
use Rattle.mm_session.specs.Sessions.{StandsIn}
use Rattle.mm_session.specs.Turns.{IsPrompt}
use Rattle.mm_session.proofs.Turns.{HasCome}
use Rattle.mm_session.proofs.stream.whole_run.run_promptly.Given as goal

-- what was read so far has what was written so far as its answers
abbrev pub invariant-loop : goal.invariant-loop
invariant-loop g l =
    (stream : List ℕ) × (gained : List ℕ) × Consumes (g.R.PromptRead.to_come l.fn.r) (g.R.PromptRead.to_come l.r) stream
    × Appends (g.O.Outlet.contents l.fn.outlet) (g.O.Outlet.contents l.outlet) gained × (l.session.ended ≡ false)
    × (l.session.limits ≡ STANDARD) × StandsIn l.session [] stream gained
    × (g.O.Outlet.name l.outlet ≡ g.O.Outlet.name l.fn.outlet) × g.O.Outlet.is_flushed l.outlet
    × HasCome (g.R.PromptRead.turns l.fn.r) (g.R.PromptRead.turns l.r) stream
    × IsPrompt (g.R.PromptRead.turns l.fn.r) (g.R.PromptRead.turns l.r) (g.O.Outlet.contents l.fn.outlet)
