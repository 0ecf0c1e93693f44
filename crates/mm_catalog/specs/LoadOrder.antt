-- The order in which the rows of a load go in.
use Rattle.std.specs.Prelude.{ℕ, ℤ, List, [], get_or}
use Rattle.plain_tables.specs.Tables.{Row}

-- a number, and the place of a row
abbrev pub KeyPlace : Type 0
KeyPlace = ℤ × ℕ

-- the row at the place, or one without values where there is none
abbrev pub row_at : List Row → KeyPlace → Row
row_at rows k = get_or rows k.1 []

-- the first of rows, or one without values where there is none
abbrev pub first_row : List Row → Row
first_row rows = get_or rows 0 []
