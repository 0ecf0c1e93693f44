use Rattle.std.proofs.Common.{◌≡◌, ◌+◌, ◌++◌, ℕ, List, length}
use Rattle.mm_session.specs.Responding.{waits}
use Rattle.mm_session.specs.Restoring.{TakesIn}
use Rattle.mm_session.proofs.restore.Restore.do_requests.Given as goal

-- what was done of the bytes was taken in, and what is left follows it
abbrev pub invariant-loop-others : goal.invariant-loop-others
invariant-loop-others l = (done : List ℕ) × TakesIn l.fn.self.session l.self.session done × (l.bytes ≡ done ++ l.rest) × (l.self.begun ≡ l.fn.self.begun)

abbrev pub decreases-loop-others : goal.decreases-loop-others
decreases-loop-others l = length l.rest + waits l.self.session.kept
