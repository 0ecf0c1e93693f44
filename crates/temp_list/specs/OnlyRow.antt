-- Tests that ask for one value.
use Rattle.std.specs.Prelude.{◌≡◌, ◌==◌, ◌&&◌, ℕ, ◌<◌, Bool, IsSome, List, length, position}
use Rattle.std.specs.List.{HoldsAt}
use Rattle.plain_tables.specs.declared.condition.Op.TheVariants as operator
use Rattle.plain_tables.specs.declared.resolved.Test.{Test}
use Rattle.plan_chooser.specs.Plans.{is_equality}

-- the test of this number asks for one value of its column
abbrev pub AsksForValue : List Test → ℕ → Type 0
AsksForValue tests n = HoldsAt (λ test. test.op ≡ operator.Eq) tests n

-- the test of this number asks for the row of one key
abbrev pub AsksForKey : List Test → ℕ → Type 0
AsksForKey tests n = (n < length tests) × HoldsAt (λ test. (test.column.0 ≡ 0) × (test.op ≡ operator.Eq)) tests n

-- whether a test asks for the row of one key
abbrev pub is_for_key : Test → Bool
is_for_key test = is_equality test.op && (test.column.0 == 0)

-- one of the tests does, so one row passes them all at most
abbrev pub AskForOneRow : List Test → Type 0
AskForOneRow tests = IsSome (position is_for_key tests)
