use Rattle.std.proofs.Common.{◌≡◌, drop}
use Rattle.mm_prepared.specs.Declaring.{behind_blanks}
use Rattle.mm_prepared.proofs.declaring.trim_blanks.Given as goal

-- what has been read was blank
abbrev pub invariant-loop-i : goal.invariant-loop-i
invariant-loop-i l = behind_blanks (drop l.i l.line) ≡ behind_blanks l.fn.line
