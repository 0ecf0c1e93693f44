-- Hashes: one number for each value, by the FNV-1a hash of 64 bits.
use Rattle.std.specs.Prelude.{ℕ, ◌*◌, ◌%◌, ◌^◌, List, [], ◌∷◌, bit_xor}
use Rattle.std.specs.Int.{w64, to_be_bytes, cast_unsigned}
use Rattle.std.specs.List.{fold}
use Rattle.plain_tables.specs.declared.value.Value.{Value}
use Rattle.plain_tables.specs.declared.value.Value.TheVariants.{Null, Int, Text}

-- The bytes of a value: first the number of its kind, then the eight bytes of an integer, the highest first, or the bytes
-- of a text.
abbrev pub hashed_bytes : Value → List ℕ
hashed_bytes (Int z) = 0 ∷ to_be_bytes w64 (cast_unsigned w64 z)
hashed_bytes (Text text) = 1 ∷ text
hashed_bytes Null = 2 ∷ []

-- a hash with one byte more
abbrev pub with_byte : ℕ → ℕ → ℕ
with_byte hash byte = (bit_xor hash byte * 1099511628211) % 2 ^ 64

-- the hash of a value: that of its bytes, one after another
unfoldable pub hash_of : Value → ℕ
hash_of v = fold with_byte 14695981039346656037 (hashed_bytes v)

-- the low 32 bits of a value's hash, under which an index has it
abbrev pub low_hash : Value → ℕ
low_hash v = hash_of v % 2 ^ 32
