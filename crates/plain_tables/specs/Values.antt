-- Values: null, integers and texts, in one order.
use Rattle.std.specs.Prelude.{◌≡◌, Bool, true, false, Option, None, Some}
use Rattle.std.proofs.Common.{refl}
use Rattle.std.specs.declared.cmp.Ordering.{Ordering}
use Rattle.std.specs.declared.cmp.Ordering.TheVariants.{Less, Equal, Greater}
use Rattle.std.specs.Ordering.{int_cmp, nat_cmp, ordering_reverse}
use Rattle.std.specs.Cmp.{IsTotalOrder}
use Rattle.std.specs.Cmp.Lexicographic.{slice_cmp, nat_list_cmp_total}
use Rattle.std.proofs.lemmas.Cmp.{int_cmp_total}
use Rattle.plain_tables.specs.declared.value.Value.{Value}
use Rattle.plain_tables.specs.declared.value.Value.TheVariants.{Null, Int, Text}

abbrev pub is_null : Value → Bool
is_null Null = true
is_null v = false

-- the value that is read, or null where there is none to read
abbrev pub or_null : Option Value → Value
or_null None = Null
or_null (Some value) = value

-- Integers are ordered by size and texts by their bytes. Null stands before every integer, and every integer before every text.
abbrev pub value_cmp : Value → Value → Ordering
value_cmp Null Null = Equal
value_cmp Null w = Less
value_cmp v Null = Greater
value_cmp (Int a) (Int b) = int_cmp a b
value_cmp (Int a) (Text t) = Less
value_cmp (Text s) (Int b) = Greater
value_cmp (Text s) (Text t) = slice_cmp nat_cmp s t

value_cmp-reversed : (x y : Value) → value_cmp x y ≡ ordering_reverse (value_cmp y x)
value_cmp-reversed Null Null = refl
value_cmp-reversed Null (Int b) = refl
value_cmp-reversed Null (Text t) = refl
value_cmp-reversed (Int a) Null = refl
value_cmp-reversed (Text s) Null = refl
value_cmp-reversed (Int a) (Int b) = int_cmp_total.antisymm a b
value_cmp-reversed (Int a) (Text t) = refl
value_cmp-reversed (Text s) (Int b) = refl
value_cmp-reversed (Text s) (Text t) = nat_list_cmp_total.antisymm s t

value_cmp-transitive : (x y z : Value) → value_cmp x y ≡ Less → value_cmp y z ≡ Less → value_cmp x z ≡ Less
value_cmp-transitive Null y (Int c) p q = refl
value_cmp-transitive Null y (Text u) p q = refl
value_cmp-transitive x Null Null p q = cc
value_cmp-transitive x (Int b) Null p q = cc
value_cmp-transitive x (Text t) Null p q = cc
value_cmp-transitive (Int a) Null z p q = cc
value_cmp-transitive (Text s) Null z p q = cc
value_cmp-transitive (Int a) (Int b) (Int c) p q = int_cmp_total.trans a b c p q
value_cmp-transitive (Int a) (Int b) (Text u) p q = refl
value_cmp-transitive (Int a) (Text t) (Int c) p q = cc
value_cmp-transitive (Int a) (Text t) (Text u) p q = refl
value_cmp-transitive (Text s) (Int b) z p q = cc
value_cmp-transitive (Text s) (Text t) (Int c) p q = cc
value_cmp-transitive (Text s) (Text t) (Text u) p q = nat_list_cmp_total.trans s t u p q

value_cmp-alike : (x y z : Value) → value_cmp x y ≡ Equal → value_cmp x z ≡ value_cmp y z
value_cmp-alike Null Null z p = refl
value_cmp-alike Null (Int b) z p = cc
value_cmp-alike Null (Text t) z p = cc
value_cmp-alike (Int a) Null z p = cc
value_cmp-alike (Text s) Null z p = cc
value_cmp-alike (Int a) (Int b) Null p = refl
value_cmp-alike (Text s) (Text t) Null p = refl
value_cmp-alike (Int a) (Int b) (Int c) p = int_cmp_total.congr a b c p
value_cmp-alike (Int a) (Int b) (Text u) p = refl
value_cmp-alike (Int a) (Text t) z p = cc
value_cmp-alike (Text s) (Int b) z p = cc
value_cmp-alike (Text s) (Text t) (Int c) p = refl
value_cmp-alike (Text s) (Text t) (Text u) p = nat_list_cmp_total.congr s t u p

-- Law: the order is total.
pub value_cmp_total : IsTotalOrder value_cmp
value_cmp_total = record { antisymm = value_cmp-reversed; trans = value_cmp-transitive; congr = value_cmp-alike }
