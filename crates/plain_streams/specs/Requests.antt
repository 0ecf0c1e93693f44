-- Requests: a command line, and the block behind it if it asks for one.
use Rattle.std.specs.Prelude.{ℕ, ◌≤◌, List, true, ◌==◌, ◌-◌, not, length, Bool, if◌then◌else◌, slice_index, take}
use Rattle.std.specs.Str.{IsUtf8}
use Rattle.std.specs.List.{find}
use Rattle.std.specs.Option.{option_map_or}
use Rattle.plain_tables.specs.Spelling.{Spells, is_blank}
use Rattle.plain_tables.specs.declared.command.Command.TheVariants.{Load}

-- the bytes of a line without the line feed that ends it, and those of the block behind it
pub record Request : Type 0 where
  pub line : List ℕ
  pub block : List ℕ

-- a line with a carriage return at its end without that one, and any other line as it is
abbrev pub without_return : List ℕ → List ℕ
without_return line = let last = length line - 1 in if slice_index line last == 13 then take last line else line

-- Blanks alone, or a comment: if a character is no blank, the first such is #.
abbrev pub is_silent : List ℕ → Bool
is_silent line = option_map_or (λ c. c == 35) (find (λ c. not (is_blank c)) line) true

-- a line of at most 8,192 bytes that is UTF-8
pub record IsReadable (line : List ℕ) : Type 0 where
  pub short : length line ≤ 8192
  pub utf8 : IsUtf8 line

-- The line spells a load of a block of this many bytes. A line that is too long or isn't UTF-8 asks for none.
abbrev pub Asks : List ℕ → ℕ → Type 0
Asks line n = IsReadable (without_return line) × ((table : List ℕ) × Spells (without_return line) (Load table n))

-- how many bytes of a block stand behind a line: as many as it asks for, or none if it asks for no block
pub data Takes (line : List ℕ) : ℕ → Type 0 where
  asked : (n : ℕ) → Asks line n → Takes line n
  unasked : ((n : ℕ) → ¬ (Asks line n)) → Takes line 0
