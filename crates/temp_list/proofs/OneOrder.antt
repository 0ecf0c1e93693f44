-- Two lists of one bag that rise are one list.
use Rattle.std.proofs.Common.{◌≡◌, ℕ, suc, ◌+◌, ◌<◌, Bool, true, false, List, [], ◌∷◌, Some, IsSome, length, get_or, refl, sym, ap, ◌∙◌, subst, arith, add-one, Ordering}
use Rattle.std.specs.Prelude.{slice_get}
use Rattle.std.specs.Bool.{Decides}
use Rattle.std.specs.List.{All, Contains}
use Rattle.std.specs.List.Sorted.{IsSorted}
use Rattle.std.specs.Cmp.{IsTotalOrder}
use Rattle.std.specs.Cmp.Lexicographic.{pointwise, pointwise_decides}
use Rattle.std.specs.FinSet.{slice_cmp-IsAntisymmetric}
use Rattle.std.specs.FinMap as finite
use Rattle.std.specs.Option.{option_and_then}
use Rattle.std.specs.Ordering.{is_lt, ordering_reverse}
use Rattle.std.specs.declared.cmp.Ordering.TheVariants.{Less, Equal, Greater}
use Rattle.common_lemmas.proofs.Places.{slice_get-inside}
use Rattle.std.proofs.lemmas.List.Elements.{All-head, All-tail, All-contains, All-contains_itself}
use Rattle.std.proofs.lemmas.List.Sorted.{sorted_far, ranks_by}
use Rattle.part_raw.specs.declared.tuple_ref.TupleRef.{TupleRef}
use Rattle.plain_tables.specs.declared.numbers.Place.{Place}
use Rattle.mm_index.specs.Bag.{IsSameBag}
use Rattle.mm_index.proofs.Bags.{IsSameBag-sym, Contains-same_bag, length-same_bag}
use Rattle.mm_index.proofs.Refs.{same_ref, Decides-same_ref}
use Rattle.mm_relation.proofs.Serving.{same_behind}
use Rattle.mm_relation.specs.Order.{option_exact}
use Rattle.mm_relation.specs.Reading.{key_at}
use Rattle.mm_relation.specs.State.{RelationState}
use Rattle.temp_list.specs.Reading.{AreSound}
use Rattle.temp_list.specs.Lists.{IsRowOver, HasPlace, keys_cmp, row_keys, key_in}
use Rattle.temp_list.specs.ListLaws.{SortedAreOne, SameAreOver}
use Rattle.temp_list.proofs.Reading.{sound_at}
use Rattle.temp_list.proofs.Sorts.{keys_total}

-- ---- lists that rise by an order

module _ {A : Type 0} (cmp : A → A → Ordering) (total : IsTotalOrder cmp) where
  least : (x : A) (xs : List A) → IsSorted cmp (x ∷ xs) → (y : A) → Contains (x ∷ xs) y → is_lt (cmp y x) ≡ false
  least x xs up y (k, l, e) = subst (λ (z : A). is_lt (cmp z x) ≡ false) e (sorted_far (λ a b. is_lt (cmp a b)) (ranks_by total (λ (z : A). z)) (x ∷ xs) up 0 k y (omega arith) l)

  behind : (x : A) (xs : List A) → IsSorted cmp (x ∷ xs) → IsSorted cmp xs
  behind x xs up = λ k d z l.
      let shift : get_or (x ∷ xs) (suc k + 1) d ≡ get_or xs (k + 1) d = rw (add-one, add-one) refl in
      ap (λ (a : A). is_lt (cmp a (get_or xs k d))) (sym shift) ∙ up (suc k) d (omega arith) (omega (arith, l))

  level : (x y : A) → is_lt (cmp x y) ≡ false → is_lt (cmp y x) ≡ false → cmp x y ≡ Equal
  level x y p q = told (cmp x y) (cmp y x) (total.antisymm y x) p q
    where
      told : (o r : Ordering) → r ≡ ordering_reverse o → is_lt o ≡ false → is_lt r ≡ false → o ≡ Equal
      told Less r e p q = cc
      told Equal r e p q = refl
      told Greater r e p q = absurd (let f : is_lt r ≡ true = ap is_lt e in cc)

  module _ (P : A → Type 0) (exact : (x y : A) → P x → P y → cmp x y ≡ Equal → x ≡ y) (same : A → A → Bool) (decides : (x y : A) → Decides (same x y) (x ≡ y)) where
    pub one_order : (xs ys : List A) → All P xs → All P ys → IsSameBag xs ys → IsSorted cmp xs → IsSorted cmp ys → xs ≡ ys
    one_order [] [] px py bag up vp = refl
    one_order (x ∷ xs) (y ∷ ys) px py bag up vp =
        let in_ys : Contains (y ∷ ys) x = Contains-same_bag same decides (x ∷ xs) (y ∷ ys) x bag (0, omega arith, refl) in
        let in_xs : Contains (x ∷ xs) y = Contains-same_bag same decides (y ∷ ys) (x ∷ xs) y (IsSameBag-sym bag) (0, omega arith, refl) in
        let one : x ≡ y = exact x y (All-head P x xs px) (All-head P y ys py) (level x y (least y ys vp x in_ys) (least x xs up y in_xs)) in
        let rest : xs ≡ ys =
        one_order xs ys (All-tail P x xs px) (All-tail P y ys py) (same_behind x xs ys (subst (λ (z : A). IsSameBag (x ∷ xs) (z ∷ ys)) (sym one) bag)) (behind x xs up) (behind y ys vp)
        in
        λ i. one i ∷ rest i
    one_order xs ys px py bag up vp = absurd (omega (arith, length-same_bag xs ys bag))

-- ---- rows with the same keys

module _ (relations : List RelationState) (sound : AreSound relations) where
  key_exact : (n : ℕ) (s : RelationState) (q r : TupleRef) → slice_get relations n ≡ Some s → IsSome (finite.get s.rows q) → IsSome (finite.get s.rows r) → key_in relations n q ≡ key_in relations n r → q ≡ r
  key_exact n s q r at hq hr e =
      (sound_at relations sound n s at).0.keyed.keys_differ.apart q r hq hr
      (sym (ap (option_and_then (λ (t : RelationState). key_at t.rows q)) at) ∙ e ∙ ap (option_and_then (λ (t : RelationState). key_at t.rows r)) at)

  rows_one : (sources : List ℕ) (a b : List TupleRef) → All (λ n. n < length relations) sources → IsRowOver relations sources a → IsRowOver relations sources b → row_keys relations sources a ≡ row_keys relations sources b → a ≡ b
  rows_one [] [] [] there oa ob e = refl
  rows_one (n ∷ ns) (q ∷ a) (r ∷ b) there oa ob e =
      let within : n < length relations = there 0 0 (omega arith) in
      let lent = slice_get-inside relations n within in
      let head : key_in relations n q ≡ key_in relations n r = cc in
      let tail : row_keys relations ns a ≡ row_keys relations ns b = cc in
      let one : q ≡ r = key_exact n lent.0 q r lent.1 (oa.held 0 lent.0 q lent.1 refl) (ob.held 0 lent.0 r lent.1 refl) head in
      let rest : a ≡ b =
      rows_one ns a b (All-tail (λ m. m < length relations) n ns there)
      (record { width = omega (arith, oa.width); held = λ k s x from at. oa.held (suc k) s x from at })
      (record { width = omega (arith, ob.width); held = λ k s x from at. ob.held (suc k) s x from at }) tail
      in
      λ i. one i ∷ rest i
  rows_one ns a b there oa ob e = absurd (omega (arith, oa.width, ob.width))

pub sorted_are_one : SortedAreOne
sorted_are_one relations one other over bag up vp =
    one_order (keys_cmp relations one.sources) (keys_total relations one.sources) (IsRowOver relations one.sources)
    (λ a b pa pb e. rows_one relations over.sound one.sources a b over.first.sources pa pb (slice_cmp-IsAntisymmetric option_exact (row_keys relations one.sources a) (row_keys relations one.sources b) e))
    (pointwise same_ref) (pointwise_decides Decides-same_ref)
    one.rows other.rows over.first.rows (subst (λ (ns : List ℕ). All (IsRowOver relations ns) other.rows) over.sources over.second.rows) bag up vp

pub same_are_over : SameAreOver
same_are_over relations one other over sources columns bag = record {
  sources = subst (λ (ns : List ℕ). All (λ n. n < length relations) ns) (sym sources) over.sources;
  rows = λ k d l.
      subst (λ (ns : List ℕ). IsRowOver relations ns (get_or other.rows k d)) (sym sources)
      (All-contains (IsRowOver relations one.sources) one.rows (get_or other.rows k d) over.rows
      (Contains-same_bag (pointwise same_ref) (pointwise_decides Decides-same_ref) other.rows one.rows (get_or other.rows k d) bag (All-contains_itself other.rows k d l)));
  columns = λ k d l. subst (λ (ns : List ℕ). HasPlace relations ns (get_or other.columns k d)) (sym sources) (subst (λ (ps : List Place). All (HasPlace relations one.sources) ps) (sym columns) over.columns k d l);
}
