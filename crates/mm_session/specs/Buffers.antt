-- What buffers hold of a line and of a block that have not ended.
use Rattle.std.specs.Prelude.{ℕ, List, [], ◌∷◌, ◌++◌, Bool, true, false, length, nat_le, if◌then◌else◌}

-- of a line its bytes, or only that it is too long
pub data KeptLine : Type 0 where
  PartOfLine : List ℕ → KeptLine
  LongLine : KeptLine

-- A line of 8,192 bytes may have a carriage return behind it, so no more than 8,193 bytes are kept.
abbrev pub kept_of : List ℕ → KeptLine
kept_of line = if nat_le (length line) 8193 then PartOfLine line else LongLine

-- what is kept once more bytes of the line have come
abbrev pub grown : KeptLine → List ℕ → KeptLine
grown (PartOfLine line) more = kept_of (line ++ more)
grown LongLine more = LongLine

-- whether nothing of the line has come
abbrev pub is_start : KeptLine → Bool
is_start (PartOfLine []) = true
is_start (PartOfLine (b ∷ line)) = false
is_start LongLine = false

-- of a block its bytes so far, and how many are to come
pub record PartOfBlock : Type 0 where
  pub bytes : List ℕ
  pub to_come : ℕ
