-- Hashes of what rows show: one number for each list of values. Equal lists have equal hashes, and that is all that is asked of them.
use Rattle.std.specs.Prelude.{ℕ, ◌*◌, ◌+◌, ◌/◌, ◌%◌, ◌^◌, List, bit_xor, drop, length}
use Rattle.std.specs.Int.{w64, cast_unsigned, from_le_bytes}
use Rattle.std.specs.List.{fold}
use Rattle.std.specs.Simd.{first_chunks}
use Rattle.plain_tables.specs.declared.value.Value.{Value}
use Rattle.plain_tables.specs.declared.value.Value.TheVariants.{Null, Int, Text}

-- the number that eight bytes spell
unfoldable pub word : List ℕ → ℕ
word bytes = from_le_bytes w64 bytes

-- the number that fewer bytes spell
abbrev pub spelled : List ℕ → ℕ
spelled bytes = fold (λ n byte. ((n * 256) % 2 ^ 64 + byte) % 2 ^ 64) 0 bytes

-- a number of 64 bits, of which the upper half is brought down to the lower
abbrev pub mixed : ℕ → ℕ
mixed n = bit_xor n (n / 2 ^ 32)

-- a hash with a number more
unfoldable pub with_number : ℕ → ℕ → ℕ
with_number hash n = mixed ((bit_xor hash n * 11400714819323198485) % 2 ^ 64)

-- a hash with the bytes of a text more: eight by eight, and then the fewer than eight behind these
unfoldable pub with_text : ℕ → List ℕ → ℕ
with_text hash text =
    with_number (fold (λ h bytes. with_number h (word bytes)) hash (first_chunks 8 (length text / 8) text)) (spelled (drop (length text / 8 * 8) text))

-- a hash with a value more
unfoldable pub with_value : ℕ → Value → ℕ
with_value hash Null = with_number hash 0
with_value hash (Int z) = with_number hash (cast_unsigned w64 z)
with_value hash (Text text) = with_text hash text

-- the hash of values, in 32 bits: of one after another
abbrev pub hash_of_values : List Value → ℕ
hash_of_values values = (fold with_value 0 values * 11400714819323198485) % 2 ^ 64 / 2 ^ 32
