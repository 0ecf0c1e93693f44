-- Where values stand beside those that stand so to a value. In the order of values the places never fall, so a tree's list is
-- searched by them.
use Rattle.std.specs.Prelude.{ℕ, List, [], ◌∷◌, if◌then◌else◌}
use Rattle.std.specs.Ordering.{ordering_then}
use Rattle.std.specs.declared.cmp.Ordering.{Ordering}
use Rattle.std.specs.declared.cmp.Ordering.TheVariants.{Less, Equal, Greater}
use Rattle.plain_tables.specs.declared.condition.Op.{Op}
use Rattle.plain_tables.specs.declared.condition.Op.TheVariants as op
use Rattle.plain_tables.specs.declared.resolved.Test.{Test}
use Rattle.plain_tables.specs.declared.value.Value.{Value}
use Rattle.plain_tables.specs.Values.{is_null, value_cmp}
use Rattle.plain_tables.specs.Queries.{stands}
use Rattle.temp_list.specs.Reading.{bounds}

-- Equal where the value stands so; a null that does not stands below; every other value stands above what a value is below, and
-- below what it is above
abbrev pub place_of : Op → Value → Value → Ordering
place_of op.Eq v w = value_cmp v w
place_of op.Ne v w = value_cmp v w
place_of op.Lt v w = if stands op.Lt v w then Equal else if is_null v then Less else Greater
place_of op.Le v w = if stands op.Le v w then Equal else if is_null v then Less else Greater
place_of op.Gt v w = if stands op.Gt v w then Equal else Less
place_of op.Ge v w = if stands op.Ge v w then Equal else Less

-- the place beside the values of a column that pass a test; Equal for each value where the test does not bound the column
abbrev pub place_beside : ℕ → Test → Value → Ordering
place_beside column test v = if bounds column test then place_of test.op v test.value else Equal

-- the place beside the values of a column that pass each test that bounds it: the first that is not Equal
abbrev pub place_between : ℕ → List Test → Value → Ordering
place_between column [] v = Equal
place_between column (test ∷ tests) v = ordering_then (place_beside column test v) (place_between column tests v)
