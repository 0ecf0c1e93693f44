use Rattle.std.proofs.Common.{◌≡◌, ◌++◌, take}
use Rattle.plain_tables.specs.AnswerText.{declaration_lines}
use Rattle.mm_catalog.specs.Seen.{database_of}
use Rattle.mm_session.proofs.execute.ReadExecutor.list_tables.Given as goal

abbrev pub invariant-loop-number : goal.invariant-loop-number
invariant-loop-number l = l.answer ≡ l.fn.answer ++ declaration_lines (take l.number (database_of l.catalog))
