-- Values that compare alike are one.
use Rattle.std.proofs.Common.{◌≡◌, ◌↔◌, refl, ap, subst}
use Rattle.std.specs.FinSet.{int_cmp-IsAntisymmetric, nat_cmp-IsAntisymmetric, slice_cmp-IsAntisymmetric}
use Rattle.std.specs.declared.cmp.Ordering.TheVariants.{Equal}
use Rattle.std.proofs.lemmas.Cmp.{tied_itself}
use Rattle.plain_tables.specs.Values.{value_cmp, value_cmp_total}
use Rattle.plain_tables.specs.declared.value.Value.{Value}
use Rattle.plain_tables.specs.declared.value.Value.TheVariants.{Null, Int, Text}

same_from_tied : (x y : Value) → value_cmp x y ≡ Equal → x ≡ y
same_from_tied Null Null p = refl
same_from_tied (Int a) (Int b) p = ap Int (int_cmp-IsAntisymmetric a b p)
same_from_tied (Text s) (Text t) p = ap Text (slice_cmp-IsAntisymmetric nat_cmp-IsAntisymmetric s t p)
same_from_tied x y p = cc

pub value_cmp-exact : (x y : Value) → (value_cmp x y ≡ Equal) ↔ (x ≡ y)
value_cmp-exact x y = (same_from_tied x y, λ e. subst (λ (z : Value). value_cmp x z ≡ Equal) e (tied_itself value_cmp_total x))
