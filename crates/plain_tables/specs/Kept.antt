-- The bytes of a text, wherever they lie.
use Rattle.std.specs.Prelude.{ℕ, List}
use Rattle.std.specs.String.{string_bytes}
use Rattle.plain_tables.specs.declared.text.Kept.{Kept}
use Rattle.plain_tables.specs.declared.text.Kept.TheVariants.{Short, Long}

-- the bytes of a short text are what contracts see of it
abbrev pub kept_bytes : Kept → List ℕ
kept_bytes (Short bytes) = bytes
kept_bytes (Long text) = string_bytes text.value
