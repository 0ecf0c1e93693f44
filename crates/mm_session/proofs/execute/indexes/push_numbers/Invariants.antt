use Rattle.std.proofs.Common.{◌≡◌, ◌++◌, take}
use Rattle.std.specs.List.{flat_map}
use Rattle.mm_session.specs.IndexAnswers.{number_field}
use Rattle.mm_session.proofs.execute.indexes.push_numbers.Given as goal

abbrev pub invariant-loop-number : goal.invariant-loop-number
invariant-loop-number l = l.answer ≡ l.fn.answer ++ flat_map number_field (take l.number-index l.numbers)
