-- The text of a full name.
use Rattle.std.specs.Prelude.{ℕ, List, ◌∷◌, ◌++◌}
use Rattle.mm_csv.specs.declared.full_name.FullName.{FullName}

-- the table's name, a dot and the column's name
abbrev pub full_name_text : FullName → List ℕ
full_name_text name = name.table.now ++ 46 ∷ name.column.now
