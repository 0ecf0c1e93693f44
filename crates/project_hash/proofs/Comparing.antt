-- Lists of values compared value by value.
use Rattle.std.proofs.Common.{true, false, ◌≡◌, ℕ, ◌+◌, zero, suc, List, [], ◌∷◌, ◌++◌, Some, length, get_or, drop, min, take, ap, ◌∙◌, sym, refl, arith}
use Rattle.std.specs.Prelude.{slice_get}
use Rattle.std.specs.Ordering.{ordering_then, nat_cmp, is_ne}
use Rattle.std.specs.declared.cmp.Ordering.{Ordering}
use Rattle.std.specs.declared.cmp.Ordering.TheVariants.{Less, Equal, Greater}
use Rattle.std.specs.Cmp.{nat_cmp_is}
use Rattle.std.proofs.lemmas.Bool.Decides.{nat_tests}
use Rattle.std.proofs.lemmas.List.{drop_more, take_more}
use Rattle.std.proofs.lemmas.Option.{slice_get_within, get_or_from_slice_get}
use Rattle.plain_tables.specs.declared.value.Value.{Value}
use Rattle.std.specs.List.{fold}
use Rattle.std.proofs.lemmas.List.Sums.{fold_more}
use Rattle.plain_tables.specs.Values.{value_cmp}
use Rattle.project_hash.specs.Distinct.{values_cmp}
use Rattle.project_hash.specs.Hashes.{with_value}

-- a list from a place on is the value there and the list behind it
from_place : (values : List Value) (i : ℕ) (v : Value) → slice_get values i ≡ Some v → drop i values ≡ v ∷ drop (i + 1) values
from_place values i v at =
    drop_more values i v (slice_get_within values i v at) ∙ ap (λ (w : Value). w ∷ drop (i + 1) values) (get_or_from_slice_get values i v v at)

-- two lists from a place on compare as the values there, and then as the lists behind them
compared_at : (values others : List Value) (i : ℕ) (v w : Value) → slice_get values i ≡ Some v → slice_get others i ≡ Some w
    → values_cmp (drop i values) (drop i others) ≡ ordering_then (value_cmp v w) (values_cmp (drop (i + 1) values) (drop (i + 1) others))
compared_at values others i v w at other_at =
    let one = from_place values i v at in
    let other = from_place others i w other_at in
    rw (one, other) refl

compared_more : (a b : ℕ) → nat_cmp a b ≡ nat_cmp (suc a) (suc b)
compared_more a b = grind (arith, nat_tests)

-- two lists of which one has ended compare as their lengths
pub compared_at_end : (values others : List Value) (end : ℕ) → end ≡ min (length values) (length others)
    → values_cmp (drop end values) (drop end others) ≡ nat_cmp (length values) (length others)
compared_at_end [] [] zero e = refl
compared_at_end [] (w ∷ others) zero e = nat_cmp_is 0 (suc (length others)) Less (omega arith)
compared_at_end (v ∷ values) [] zero e = nat_cmp_is (suc (length values)) 0 Greater (omega arith)
compared_at_end (v ∷ values) (w ∷ others) (suc end) e =
    compared_at_end values others end (omega arith) ∙ compared_more (length values) (length others)
compared_at_end values others end e = absurd (omega arith)

decided : (o p : Ordering) → is_ne o ≡ true → ordering_then o p ≡ o
decided Equal p e = cc
decided o p e = refl

undecided : (o p : Ordering) → is_ne o ≡ false → ordering_then o p ≡ p
undecided Equal p e = refl
undecided o p e = cc

-- where all values before a place are equal: those at the place decide, or, where they are equal too, those behind it
module _ (values others : List Value) (i : ℕ) (v w : Value) (at : slice_get values i ≡ Some v) (other_at : slice_get others i ≡ Some w) (so_far : values_cmp (drop i values) (drop i others) ≡ values_cmp values others) (o : Ordering) (is : o ≡ value_cmp v w) where
  here : values_cmp values others ≡ ordering_then o (values_cmp (drop (i + 1) values) (drop (i + 1) others))
  here = sym so_far ∙ compared_at values others i v w at other_at ∙ ap (λ (p : Ordering). ordering_then p (values_cmp (drop (i + 1) values) (drop (i + 1) others))) (sym is)

  pub decided_at : is_ne o ≡ true → o ≡ values_cmp values others
  decided_at differ = sym (here ∙ decided o (values_cmp (drop (i + 1) values) (drop (i + 1) others)) differ)

  pub undecided_at : is_ne o ≡ false → values_cmp (drop (i + 1) values) (drop (i + 1) others) ≡ values_cmp values others
  undecided_at same = sym (here ∙ undecided o (values_cmp (drop (i + 1) values) (drop (i + 1) others)) same)

-- the hash of one value more
pub hashed_more : (values : List Value) (i hash next : ℕ) (v : Value) → slice_get values i ≡ Some v → hash ≡ fold with_value 0 (take i values) → next ≡ with_value hash v
    → next ≡ fold with_value 0 (take (i + 1) values)
hashed_more values i hash next v at so_far is =
    let more = fold_more with_value 0 values i v (slice_get_within values i v at) in
    let same : get_or values i v ≡ v = get_or_from_slice_get values i v v at in
    rw (more, same) (is ∙ ap (λ h. with_value h v) so_far)

-- a list up to a place is the list before it and the value there
from_front : (values : List Value) (i : ℕ) (v : Value) → slice_get values i ≡ Some v → take (i + 1) values ≡ take i values ++ v ∷ []
from_front values i v at =
    take_more values i v (slice_get_within values i v at) ∙ ap (λ (w : Value). take i values ++ w ∷ []) (get_or_from_slice_get values i v v at)

-- two lists of values that are equal so far
module _ (values others : List Value) (i : ℕ) (v w : Value) (at : slice_get values i ≡ Some v) (other_at : slice_get others i ≡ Some w) where
  pub same_more : take i values ≡ take i others → v ≡ w → take (i + 1) values ≡ take (i + 1) others
  same_more so_far same =
      let one = from_front values i v at in
      let other = from_front others i w other_at in
      one ∙ ap (λ (xs : List Value). xs ++ v ∷ []) so_far ∙ ap (λ (x : Value). take i others ++ x ∷ []) same ∙ sym other
