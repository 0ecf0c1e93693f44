-- Tables whose keys are integers.
use Rattle.std.specs.Prelude.{Bool, true, false, List, [], ◌∷◌}
use Rattle.plain_tables.specs.declared.schema.Column.{Column}
use Rattle.plain_tables.specs.declared.schema.ColKind.{ColKind}
use Rattle.plain_tables.specs.declared.schema.ColKind.TheVariants.{Int, Text, Ref, RefOrNull}

-- whether a column of this kind has integers of its own
abbrev pub has_integers : ColKind → Bool
has_integers Int = true
has_integers Text = false
has_integers (Ref table) = false
has_integers (RefOrNull table) = false

-- whether the first of the columns does, which has the keys
abbrev pub has_integer_keys : List Column → Bool
has_integer_keys [] = false
has_integer_keys (key ∷ others) = has_integers key.kind
