use Rattle.std.proofs.Common.{◌≡◌, drop}
use Rattle.plain_streams.specs.Requests.{is_silent}
use Rattle.mm_session.proofs.stream.lines.is_silent.Given as goal

-- what has been read was blank
abbrev pub invariant-loop-c : goal.invariant-loop-c
invariant-loop-c l = is_silent (drop l.c-index l.line) ≡ is_silent l.fn.line
