-- How short the parts of an answer are.
use Rattle.std.proofs.Common.{ℕ, ◌+◌, ◌≤◌, ◌<◌, ◌^◌, length, length-append, arith}
use Rattle.std.specs.Fmt.{decimal, digits}
use Rattle.std.proofs.lemmas.Fmt.{length-decimal-le}
use Rattle.plain_tables.specs.Refusals.{number_of, text_of}
use Rattle.plain_tables.specs.declared.refusal.Refusal.{Refusal}
use Rattle.plain_tables.specs.declared.refusal.Refusal.TheVariants as refusal

-- a number of 64 bits has at most 20 digits
pub length-decimal : (n : ℕ) → n < 2 ^ 64 → length (decimal n) ≤ 20
length-decimal n small = length-decimal-le 20 n (omega arith) (omega arith) small

-- the number of a refusal has two digits, and its words at most 22 bytes
pub length-words : (r : Refusal) → length (decimal (number_of r)) + length (text_of r) ≤ 24
unfolding digits
length-words refusal.LineTooLong = omega arith
length-words other = omega arith

-- the lengths of the parts of a short answer
pub ruleset short_texts = (length-decimal, length-append)
