use Rattle.std.proofs.Common.{◌≡◌, ◌++◌, ℕ, List, length}
use Rattle.std.specs.Io.KnownBytes.{Appends}
use Rattle.mm_session.proofs.stream.writing.write_whole.Given as goal

-- what is out and what is left are all the bytes
abbrev pub invariant-loop-rest : goal.invariant-loop-rest
invariant-loop-rest g l =
    (sent : List ℕ) × Appends (g.W.Write.contents l.fn.w) (g.W.Write.contents l.w) sent × (l.bytes ≡ sent ++ l.rest)

abbrev pub decreases-loop-rest : goal.decreases-loop-rest
decreases-loop-rest g l = length l.rest
