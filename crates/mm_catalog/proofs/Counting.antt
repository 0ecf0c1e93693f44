-- How many links there are, where a row comes in.
use Rattle.std.proofs.Common.{◌≡◌, ◌≢◌, ℕ, suc, ◌+◌, Bool, true, false, not, cond, List, [], ◌∷◌, ◌++◌, refl, ap, ◌∙◌, arith, filter, get_or}
use Rattle.std.specs.List.{All, count_by, flat_map}
use Rattle.std.specs.Option.{option_map_or}
use Rattle.std.specs.Ordering.{is_lt, is_gt}
use Rattle.std.specs.declared.cmp.Ordering.{Ordering}
use Rattle.std.specs.declared.cmp.Ordering.TheVariants.{Less, Equal, Greater}
use Rattle.std.specs.FinMap.{get}
use Rattle.std.proofs.lemmas.Grind.{flat_map-append}
use Rattle.std.proofs.lemmas.List.Elements.{All-contains_itself}
use Rattle.std.proofs.lemmas.List.Sums.{sum_by-append}
use Rattle.part_raw.proofs.Tuples.{get-insert_same}
use Rattle.part_raw.specs.declared.tuple_ref.TupleRef.{TupleRef}
use Rattle.mm_index.specs.Order.{insert_placed}
use Rattle.mm_relation.specs.Rows.{Row}
use Rattle.mm_relation.specs.State.{tree_list, RelationState, IsKept, HasKey}
use Rattle.mm_relation.proofs.KeyOrder.{same_elsewhere}
use Rattle.mm_catalog.specs.Hidden.{IsMore}
use Rattle.mm_catalog.specs.Linked.{Linked, row_links, relation_links}
use Rattle.mm_catalog.proofs.Keyed.{place_beside, none_equal, keys_inserted}

abbrev counted : {A B : Type 0} → (B → Bool) → (A → List B) → List A → ℕ
counted test f xs = count_by test (flat_map f xs)

counted-append : {A B : Type 0} (test : B → Bool) (f : A → List B) (xs ys : List A) → counted test f (xs ++ ys) ≡ counted test f xs + counted test f ys
counted-append test f xs ys = ap (count_by test) (flat_map-append f xs ys) ∙ sum_by-append (λ y. cond (test y) 1 0) (flat_map f xs) (flat_map f ys)

counted-cons : {A B : Type 0} (test : B → Bool) (f : A → List B) (x : A) (xs : List A) → counted test f (x ∷ xs) ≡ count_by test (f x) + counted test f xs
counted-cons test f x xs = sum_by-append (λ y. cond (test y) 1 0) (f x) (flat_map f xs)

-- what passes and what does not, together
counted-split : {A B : Type 0} (test : B → Bool) (f : A → List B) (p q : A → Bool) (xs : List A) → All (λ x. p x ≡ not (q x)) xs → counted test f xs ≡ counted test f (filter p xs) + counted test f (filter q xs)
counted-split test f p q [] h = refl
counted-split test f p q (x ∷ xs) h =
    let rest = counted-split test f p q xs (λ k d l. h (suc k) d (omega arith)) in
    let one = counted-cons test f x xs in
    elim (q x) as (λ b. p x ≡ not b → counted test f (x ∷ xs) ≡ counted test f (cond (p x) (x ∷ filter p xs) (filter p xs)) + counted test f (cond b (x ∷ filter q xs) (filter q xs))) [
      | true ↦ λ e.
          let left : counted test f (cond (p x) (x ∷ filter p xs) (filter p xs)) ≡ counted test f (filter p xs) = ap (λ c. counted test f (cond c (x ∷ filter p xs) (filter p xs))) e in
          let right = counted-cons test f x (filter q xs) in
          omega (arith, rest, one, left, right)
      | false ↦ λ e.
          let left : counted test f (cond (p x) (x ∷ filter p xs) (filter p xs)) ≡ counted test f (x ∷ filter p xs) = ap (λ c. counted test f (cond c (x ∷ filter p xs) (filter p xs))) e in
          let right = counted-cons test f x (filter p xs) in
          omega (arith, rest, one, left, right)
    ] (h 0 x (omega arith))

flat_alike : {A B : Type 0} (f g : A → List B) (p : A → Bool) (xs : List A) → All (λ x. f x ≡ g x) xs → flat_map f (filter p xs) ≡ flat_map g (filter p xs)
flat_alike f g p [] same = refl
flat_alike f g p (x ∷ xs) same =
    let rest = flat_alike f g p xs (λ k d l. same (suc k) d (omega arith)) in
    elim (p x) as (λ b. flat_map f (cond b (x ∷ filter p xs) (filter p xs)) ≡ flat_map g (cond b (x ∷ filter p xs) (filter p xs))) [
      | true ↦ ap (λ y. y ++ flat_map f (filter p xs)) (same 0 x (omega arith)) ∙ ap (λ ys. g x ++ ys) rest
      | false ↦ rest
    ]

one_side : (o : Ordering) → o ≢ Equal → is_lt o ≡ not (is_gt o)
one_side Less h = refl
one_side Equal h = absurd (h refl)
one_side Greater h = refl

module _ (old new : RelationState) (kept : IsKept old) (now : IsKept new) (r : TupleRef) (row : Row) (inserted : IsMore old new r row) (absent : HasKey old.rows row.key → ⊥) (test : Linked → Bool) where
  abbrev before : TupleRef → List Linked
  before q = option_map_or (row_links old.targets) (get old.rows q) []

  abbrev after : TupleRef → List Linked
  after q = option_map_or (row_links new.targets) (get new.rows q) []

  abbrev below : TupleRef → Bool
  below q = is_lt (place_beside old.rows r row q)

  abbrev above : TupleRef → Bool
  above q = is_gt (place_beside old.rows r row q)

  same_links : All (λ q. after q ≡ before q) (tree_list old.by_key)
  same_links = λ k d l.
      ap (λ targets. option_map_or (row_links targets) (get new.rows (get_or (tree_list old.by_key) k d)) []) inserted.keeps.targets
      ∙ ap (λ o. option_map_or (row_links old.targets) o [])
      (ap (λ rows. get rows (get_or (tree_list old.by_key) k d)) inserted.rows
      ∙ same_elsewhere old.rows (tree_list old.by_key) r row kept.keyed inserted.free (get_or (tree_list old.by_key) k d) (All-contains_itself (tree_list old.by_key) k d l))

  links_of_row : after r ≡ row_links old.targets row
  links_of_row =
      ap (λ targets. option_map_or (row_links targets) (get new.rows r) []) inserted.keeps.targets
      ∙ ap (λ o. option_map_or (row_links old.targets) o []) (ap (λ rows. get rows r) inserted.rows ∙ get-insert_same old.rows r row)

  -- the links are those before, and the row's
  pub links_inserted : count_by test (relation_links new) ≡ count_by test (row_links old.targets row) + count_by test (relation_links old)
  unfolding relation_links insert_placed
  links_inserted =
      let listed : counted test after (tree_list new.by_key) ≡ counted test after (filter below (tree_list old.by_key) ++ r ∷ filter above (tree_list old.by_key)) =
      ap (counted test after) (keys_inserted old new kept now r row inserted absent) in
      let parts = counted-append test after (filter below (tree_list old.by_key)) (r ∷ filter above (tree_list old.by_key)) in
      let one = counted-cons test after r (filter above (tree_list old.by_key)) in
      let itself : count_by test (after r) ≡ count_by test (row_links old.targets row) = ap (count_by test) links_of_row in
      let left : counted test after (filter below (tree_list old.by_key)) ≡ counted test before (filter below (tree_list old.by_key)) = ap (count_by test) (flat_alike after before below (tree_list old.by_key) same_links) in
      let right : counted test after (filter above (tree_list old.by_key)) ≡ counted test before (filter above (tree_list old.by_key)) = ap (count_by test) (flat_alike after before above (tree_list old.by_key) same_links) in
      let whole = counted-split test before below above (tree_list old.by_key) (λ k d l. one_side _ (none_equal old new kept now r row inserted absent k d l)) in
      omega (arith, listed, parts, one, itself, left, right, whole)
