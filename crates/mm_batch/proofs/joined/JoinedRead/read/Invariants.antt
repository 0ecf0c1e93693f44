use Rattle.std.proofs.Common.{◌≡◌, ◌<◌, [], length, vec_len}
use Rattle.std.specs.Io.KnownBytes.{Consumes}
use Rattle.mm_batch.specs.Joining.{left}
use Rattle.mm_batch.proofs.joined.JoinedRead.read.Given as goal

-- the readers that have ended had nothing left
abbrev pub invariant-loop : goal.invariant-loop
invariant-loop g l = Consumes (left g.R.Read.remaining l.fn.self) (left g.R.Read.remaining l.self) []
    × (l.self.place ≡ l.counter) × (l.end ≡ vec_len l.self.readers) × (0 < length l.buf)
