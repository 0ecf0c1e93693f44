-- The rows that a tree's range and a hash's chain give are those whose values stand so.
use Rattle.std.proofs.Common.{◌≡◌, ◌≢◌, ◌≤◌, ℕ, suc, ◌<◌, Bool, true, false, cond, ◌==◌, ◌&&◌, inl, inr, List, [], ◌∷◌, Option, Some, IsSome, IsTrue, length, map, refl, sym, ap, ◌∙◌, subst, arith, get_or, Ordering}
use Rattle.std.specs.List.{All, Contains, filter, count_by}
use Rattle.std.specs.declared.cmp.Ordering.TheVariants.{Less}
use Rattle.std.specs.Ordering.{is_eq, ordering_index, ordering_then}
use Rattle.std.specs.Option.{option_cmp, option_and_then}
use Rattle.std.specs.FinMap as finite
use Rattle.std.proofs.lemmas.Bool.{cases_Bool, eqb-true, eq-eqb}
use Rattle.std.proofs.lemmas.List.Sums.{length-filter}
use Rattle.common_lemmas.proofs.Filters.{filter-filter, filter_agree_on}
use Rattle.std.proofs.lemmas.List.Elements.{All-contains, All-contains_itself, filter_agree}
use Rattle.common_lemmas.proofs.Elements.{Contains-from_filter}
use Rattle.common_lemmas.proofs.Orders.{is_eq-Equal, then_first}
use Rattle.part_raw.specs.Store.{Tuples}
use Rattle.part_raw.specs.declared.tuple_ref.TupleRef.{TupleRef}
use Rattle.part_raw.proofs.Tuples.{held_tuple}
use Rattle.mm_index.specs.Bag.{IsSameBag, with_hash}
use Rattle.mm_index.specs.Range.{NeverFalls, in_range}
use Rattle.mm_index.specs.Order.{IsRising}
use Rattle.mm_index.proofs.Bags.{IsSameBag-refl, IsSameBag-trans, IsSameBag-from_same, IsSameBag-with_hash}
use Rattle.mm_index.proofs.Refs.{Contains-same_refs}
use Rattle.mm_index.proofs.Listed.{NeverFalls-from_rising}
use Rattle.plain_tables.specs.declared.condition.Op.{Op}
use Rattle.plain_tables.specs.declared.condition.Op.TheVariants as op
use Rattle.plain_tables.specs.declared.resolved.Test.{Test}
use Rattle.plain_tables.specs.declared.value.Value.{Value}
use Rattle.plain_tables.specs.Values.{value_cmp}
use Rattle.plain_tables.specs.Hashes.{low_hash}
use Rattle.plain_tables.specs.Queries.{stands}
use Rattle.plain_tables.proofs.Values.{value_cmp-exact}
use Rattle.plan_chooser.specs.Plans.{is_range}
use Rattle.mm_relation.specs.Rows.{Row}
use Rattle.mm_relation.specs.Reading.{Keys, value_at, key_at, hash_of_value, hash_at, row_value}
use Rattle.mm_relation.specs.Order.{column_cmp}
use Rattle.mm_relation.specs.Changes.{HasTree, HasHash, tree_on, list_of, entries_of}
use Rattle.mm_relation.specs.State.{RowTree, tree_list, RelationState, IsKept, IsCurrent, TreeServes, HashServes, HasColumn, HasHashColumn, tree_of, entries_on, linked_keys}
use Rattle.mm_relation.proofs.Searches.{declared_tree}
use Rattle.temp_list.specs.Reading.{value_in, or_null, standing, between, is_between}
use Rattle.temp_list.specs.Ranges.{place_of, place_between}
use Rattle.temp_list.proofs.Ranges.{Rises, places_rise, range_stands, between_rises, between_stands}

-- ---- bags

count_by-filter : {A : Type 0} (test p : A → Bool) (xs : List A) → count_by test (filter p xs) ≡ count_by (λ x. p x && test x) xs
count_by-filter test p xs = sym (length-filter test (filter p xs)) ∙ ap length (filter-filter test p xs) ∙ length-filter (λ x. p x && test x) xs

-- what passes a test, of the same bag
pub IsSameBag-filter : {A : Type 0} (p : A → Bool) (xs ys : List A) → IsSameBag xs ys → IsSameBag (filter p xs) (filter p ys)
IsSameBag-filter p xs ys h = record {
  count = λ test. count_by-filter test p xs ∙ h.count (λ x. p x && test x) ∙ sym (count_by-filter test p ys);
}

-- a test that only those pass which pass another
pub filter_inner : {A : Type 0} (p q : A → Bool) (xs : List A) → All (λ x. p x ≡ true → q x ≡ true) xs → filter p (filter q xs) ≡ filter p xs
filter_inner p q xs h = filter-filter p q xs ∙ filter_agree_on (λ x. q x && p x) p xs (λ k d l. both (q (get_or xs k d)) (p (get_or xs k d)) (h k d l))
  where
    both : (a b : Bool) → (b ≡ true → a ≡ true) → (a && b) ≡ b
    both true b h = refl
    both false false h = refl
    both false true h = h refl

-- ---- what is found under a hash

pub with_hash-map : {A : Type 0} (f : A → ℕ) (hash : ℕ) (xs : List A) → with_hash hash (map (λ r. (f r, r)) xs) ≡ filter (λ r. f r == hash) xs
with_hash-map f hash [] = refl
with_hash-map {A} f hash (x ∷ xs) =
    elim (f x == hash) as (λ b. map (λ (e : ℕ × A). e.1) (cond b ((f x, x) ∷ filter (λ e. e.0 == hash) (map (λ r. (f r, r)) xs)) (filter (λ e. e.0 == hash) (map (λ r. (f r, r)) xs))) ≡ cond b (x ∷ filter (λ r. f r == hash) xs) (filter (λ r. f r == hash) xs)) [
      | true ↦ ap (λ ys. x ∷ ys) (with_hash-map f hash xs)
      | false ↦ with_hash-map f hash xs
    ]

-- what equals a value is that value
pub equal_one : (v w : Value) → stands op.Eq v w ≡ true → v ≡ w
equal_one v w e = (value_cmp-exact v w).0 (is_eq-Equal (value_cmp v w) (range_stands op.Eq (λ f. cc) v w ∙ e))

-- ---- the indexes of a relation

tree_found : (keys : Keys) (rows : Tuples Row) (refs : List TupleRef) (column : ℕ) (trees : List (ℕ × RowTree)) → HasColumn column trees → All (TreeServes keys rows refs) trees → TreeServes keys rows refs (column, tree_of column trees)
tree_found keys rows refs column [] has serve = cc
tree_found keys rows refs column (t ∷ trees) has serve =
    elim (cases_Bool (t.0 == column)) [
      | inl e ↦ rw e (let first : TreeServes keys rows refs t = serve 0 t (omega arith) in
          record { bag = first.bag; rising = subst (λ c. IsRising (column_cmp keys c rows) (tree_list t.1)) (eqb-true t.0 column e) first.rising })
      | inr f ↦ rw f (tree_found keys rows refs column trees (rw f at has) (λ k d l. serve (suc k) d (omega (arith, l))))
    ]

hash_found : (keys : Keys) (rows : Tuples Row) (refs : List TupleRef) (column : ℕ) (hashes : List (ℕ × List (ℕ × TupleRef))) → HasHashColumn column hashes → All (HashServes keys rows refs) hashes → HashServes keys rows refs (column, entries_on column hashes)
hash_found keys rows refs column [] has serve = cc
hash_found keys rows refs column (h ∷ hashes) has serve =
    elim (cases_Bool (h.0 == column)) [
      | inl e ↦ rw e (subst (λ c. IsSameBag h.1 (map (λ r. (hash_at keys c rows r, r)) refs)) (eqb-true h.0 column e) (serve 0 h (omega arith)))
      | inr f ↦ rw f (hash_found keys rows refs column hashes (rw f at has) (λ k d l. serve (suc k) d (omega (arith, l))))
    ]

pub some_read : (o : Option Value) → IsSome o → o ≡ Some (or_null o)
some_read Option.None h = cc
some_read (Some v) h = refl

pub not_ne : (operator : Op) → IsTrue (is_range operator) → operator ≢ op.Ne
not_ne operator h e = let f : false ≡ true = sym (ap is_range e) ∙ h in cc

module _ (relations : List RelationState) (s : RelationState) (column : ℕ) (kept : IsKept s) (current : IsCurrent (linked_keys s.targets relations) s) (within : column < length s.schema.columns) where
  abbrev keys : Keys
  keys = linked_keys s.targets relations

  -- a row that is listed is held
  pub listed_held : (r : TupleRef) → Contains (tree_list s.by_key) r → IsSome (finite.get s.rows r)
  listed_held r h = All-contains (λ q. IsSome (finite.get s.rows q)) (tree_list s.by_key) r kept.keyed.lists.held h

  -- and has a value
  has_value : (r : TupleRef) → IsSome (finite.get s.rows r) → value_at keys column s.rows r ≡ Some (value_in relations s column r)
  has_value r held =
      let row = held_tuple s.rows r held in
      some_read (value_at keys column s.rows r)
      (subst (λ o. IsSome (option_and_then (row_value keys column) o)) (sym row.1) (current.readable r row.0 row.1 column (omega (arith, kept.width))))

  pub serves_tree : HasTree s column → TreeServes keys s.rows (tree_list s.by_key) (column, tree_on s column)
  serves_tree has =
      elim (cases_Bool (column == 0)) [
        | inl e ↦ rw e (record { bag = IsSameBag-refl (tree_list s.by_key); rising = subst (λ c. IsRising (column_cmp keys c s.rows) (tree_list s.by_key)) (sym (eqb-true column 0 e)) kept.keyed.rising })
        | inr f ↦ rw f (tree_found keys s.rows (tree_list s.by_key) column s.trees (declared_tree s column (λ e. let g : (column == 0) ≡ true = eq-eqb column 0 e in cc) has) current.trees)
      ]

  module _ (has : HasTree s column) where
    listed_tree : (r : TupleRef) → Contains (list_of s column) r → Contains (tree_list s.by_key) r
    listed_tree r h = Contains-same_refs (list_of s column) (tree_list s.by_key) r (serves_tree has).bag h

    pub tree_held : All (λ r. IsSome (finite.get s.rows r)) (list_of s column)
    tree_held = λ k d l. listed_held (get_or (list_of s column) k d) (listed_tree (get_or (list_of s column) k d) (All-contains_itself (list_of s column) k d l))

    rises : (p q : TupleRef) → Contains (list_of s column) p → Contains (list_of s column) q → column_cmp keys column s.rows p q ≡ Less → Rises (value_in relations s column p) (value_in relations s column q)
    rises p q hp hq less =
        let ep = has_value p (listed_held p (listed_tree p hp)) in
        let eq = has_value q (listed_held q (listed_tree q hq)) in
        then_first (value_cmp (value_in relations s column p) (value_in relations s column q)) (option_cmp value_cmp (key_at s.rows p) (key_at s.rows q))
        (ap (λ o. ordering_then (option_cmp value_cmp o (Some (value_in relations s column q))) (option_cmp value_cmp (key_at s.rows p) (key_at s.rows q))) (sym ep)
        ∙ ap (λ o. ordering_then (option_cmp value_cmp (value_at keys column s.rows p) o) (option_cmp value_cmp (key_at s.rows p) (key_at s.rows q))) (sym eq) ∙ less)

    -- places that never fall in the order of values
    module _ (place : Value → Ordering) (up : (a b : Value) → Rises a b → ordering_index (place a) ≤ ordering_index (place b)) where
      -- never fall along the tree's list
      places_in_order : NeverFalls (λ r. place (value_in relations s column r)) (list_of s column)
      places_in_order =
          NeverFalls-from_rising (column_cmp keys column s.rows) (λ r. place (value_in relations s column r)) (list_of s column)
          (λ p q hp hq less. up (value_in relations s column p) (value_in relations s column q) (rises p q hp hq less))
          (serves_tree has).rising

      -- and their range is the rows whose values stand so
      places_range : (so : Value → Bool) → ((v : Value) → is_eq (place v) ≡ so v) → IsSameBag (in_range (λ r. place (value_in relations s column r)) (list_of s column)) (filter (λ r. so (value_in relations s column r)) (tree_list s.by_key))
      places_range so told =
          let passes : TupleRef → Bool = λ r. so (value_in relations s column r) in
          IsSameBag-trans
          (IsSameBag-from_same (in_range (λ r. place (value_in relations s column r)) (list_of s column)) (filter passes (list_of s column))
          (filter_agree (λ r. is_eq (place (value_in relations s column r))) passes (λ r. told (value_in relations s column r)) (list_of s column)))
          (IsSameBag-filter passes (list_of s column) (tree_list s.by_key) (serves_tree has).bag)

    -- those of one test
    module _ (operator : Op) (range : IsTrue (is_range operator)) (sought : Value) where
      pub tree_in_order : NeverFalls (λ r. place_of operator (value_in relations s column r) sought) (list_of s column)
      tree_in_order = places_in_order (λ v. place_of operator v sought) (λ a b. places_rise operator (not_ne operator range) a b sought)

      pub tree_range : IsSameBag (in_range (λ r. place_of operator (value_in relations s column r) sought) (list_of s column)) (standing relations s column operator sought)
      tree_range =
          places_range (λ v. place_of operator v sought) (λ a b. places_rise operator (not_ne operator range) a b sought)
          (λ v. stands operator v sought) (λ v. range_stands operator (not_ne operator range) v sought)

    -- those of all tests that bound the column
    module _ (tests : List Test) where
      pub between_in_order : NeverFalls (λ r. place_between column tests (value_in relations s column r)) (list_of s column)
      between_in_order = places_in_order (place_between column tests) (between_rises column tests)

      pub between_range : IsSameBag (in_range (λ r. place_between column tests (value_in relations s column r)) (list_of s column)) (between relations s column tests)
      between_range = places_range (place_between column tests) (between_rises column tests) (is_between column tests) (between_stands column tests)

  module _ (has : HasHash s column) (sought : Value) where
    pub hash_listed : IsSameBag (with_hash (low_hash sought) (entries_of s column)) (filter (λ r. hash_at keys column s.rows r == low_hash sought) (tree_list s.by_key))
    hash_listed =
        IsSameBag-trans (IsSameBag-with_hash (low_hash sought) (hash_found keys s.rows (tree_list s.by_key) column s.hashes has current.hashes))
        (IsSameBag-from_same _ _ (with_hash-map (hash_at keys column s.rows) (low_hash sought) (tree_list s.by_key)))

    same_hash : (r : TupleRef) → IsSome (finite.get s.rows r) → stands op.Eq (value_in relations s column r) sought ≡ true → (hash_at keys column s.rows r == low_hash sought) ≡ true
    same_hash r held e =
        eq-eqb (hash_at keys column s.rows r) (low_hash sought) (ap hash_of_value (has_value r held) ∙ ap low_hash (equal_one (value_in relations s column r) sought e))

    -- those of the chain that equal the value are the rows whose values do
    pub hash_range : (chain : List TupleRef) → IsSameBag chain (with_hash (low_hash sought) (entries_of s column)) → IsSameBag (filter (λ r. stands op.Eq (value_in relations s column r) sought) chain) (standing relations s column op.Eq sought)
    hash_range chain bag =
        let so : TupleRef → Bool = λ r. stands op.Eq (value_in relations s column r) sought in
        let hashed : TupleRef → Bool = λ r. hash_at keys column s.rows r == low_hash sought in
        IsSameBag-trans (IsSameBag-filter so chain (filter hashed (tree_list s.by_key)) (IsSameBag-trans bag hash_listed))
        (IsSameBag-from_same (filter so (filter hashed (tree_list s.by_key))) (filter so (tree_list s.by_key))
        (filter_inner so hashed (tree_list s.by_key) (λ k d l. same_hash (get_or (tree_list s.by_key) k d) (kept.keyed.lists.held k d l))))

    -- each of the chain is held
    pub hash_held : (chain : List TupleRef) → IsSameBag chain (with_hash (low_hash sought) (entries_of s column)) → (r : TupleRef) → Contains chain r → IsSome (finite.get s.rows r)
    hash_held chain bag r h =
        let hashed : TupleRef → Bool = λ q. hash_at keys column s.rows q == low_hash sought in
        listed_held r (Contains-from_filter hashed (tree_list s.by_key) r (Contains-same_refs chain (filter hashed (tree_list s.by_key)) r (IsSameBag-trans bag hash_listed) h)).0
