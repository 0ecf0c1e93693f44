use Rattle.std.proofs.Common.{◌≡◌, ◌+◌, ◌≤◌, drop}
use Rattle.plain_statements.specs.StatementSpelling.{marks, marks_within}
use Rattle.mm_statements.proofs.reading.count_marks.Given as goal

-- with those that are still to be read, the marks are those of the line
abbrev pub invariant-loop-c : goal.invariant-loop-c
invariant-loop-c l = record {
  counted : l.count + marks_within l.quoted (drop l.c-index l.line) ≡ marks l.fn.line;
  within : l.count ≤ l.c-index;
}
