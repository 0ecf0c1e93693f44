-- Rows in the order of their keys.
use Rattle.std.proofs.Common.{◌≡◌, ℕ, ◌+◌, ◌<◌, Bool, true, false, IsTrue, List, [], ◌∷◌, length, map, get_or, refl, sym, ap, ◌∙◌, subst, arith, Ordering}
use Rattle.std.specs.Prelude.{IsPermutation}
use Rattle.std.specs.List.{All, IsAllAdjacentAnswer}
use Rattle.std.specs.List.Sorted.{IsSorted}
use Rattle.std.specs.Cmp.{IsTotalOrder, IsStrictWeakOrder}
use Rattle.std.specs.Cmp.Lexicographic.{options_total, lists_total}
use Rattle.std.specs.Option.{option_cmp}
use Rattle.std.specs.Ordering.{is_lt, is_ge}
use Rattle.std.specs.declared.cmp.Ordering.TheVariants.{Less, Equal}
use Rattle.std.proofs.lemmas.Cmp.{on_total, tied_itself}
use Rattle.std.proofs.lemmas.List.{get_or-map, length-map}
use Rattle.std.proofs.lemmas.List.Sorted.{ranks_by, All-permutation, sum_by-IsPermutation}
use Rattle.smallvec.specs.SmallVec.{SmallVec}
use Rattle.part_raw.specs.Store.{Tuples}
use Rattle.part_raw.specs.declared.tuple_ref.TupleRef.{TupleRef}
use Rattle.plain_tables.specs.declared.numbers.TableNumber.{TableNumber}
use Rattle.plain_tables.specs.declared.numbers.Place.{Place}
use Rattle.plain_tables.specs.Values.{value_cmp, value_cmp_total}
use Rattle.mm_index.specs.Bag.{IsSameBag}
use Rattle.mm_relation.specs.Reading.{key_at}
use Rattle.mm_relation.specs.Rows.{Row}
use Rattle.mm_relation.specs.State.{RelationState}
use Rattle.temp_list.specs.Lists.{keys_cmp, row_keys}
use Rattle.temp_list.specs.Seen.{lists, list_of, listed_cmp, IsEven, AreTables}

pub keys_total : (relations : List RelationState) (sources : List ℕ) → IsTotalOrder (keys_cmp relations sources)
keys_total relations sources = on_total (row_keys relations sources) (lists_total (options_total value_cmp_total))

pub listed_ranks : (relations : List RelationState) (sources : List TableNumber) → IsStrictWeakOrder (λ x y. is_lt (listed_cmp relations sources x y))
listed_ranks relations sources = ranks_by (keys_total relations (map (λ t. t.0) sources)) (λ (row : SmallVec TupleRef). row.items)

no_less : (o : Ordering) → true ≡ is_ge o → is_lt o ≡ false
no_less Less e = cc
no_less o e = refl

less_then : (o : Ordering) → false ≡ is_ge o → is_lt o ≡ true
less_then Less e = refl
less_then o e = cc

-- what a look at each pair of neighbours tells
pub rise_told : {A : Type 0} (cmp : A → A → Ordering) (xs : List A) (told : Bool) → IsAllAdjacentAnswer (λ x y b. b ≡ is_ge (cmp y x)) xs told → (IsTrue told → IsSorted cmp xs) × (IsSorted cmp xs → IsTrue told)
rise_told cmp xs true h = (λ e k d z l. no_less (cmp (get_or xs (k + 1) d) (get_or xs k d)) (h k d l), λ s. refl)
rise_told cmp [] false h = (λ e. cc, λ s. absurd (omega (arith, h.1)))
rise_told cmp (x ∷ xs) false h = (
  λ e. cc,
  λ s. let e : is_lt (cmp (get_or (x ∷ xs) (h.0 + 1) x) (get_or (x ∷ xs) h.0 x)) ≡ false = s h.0 x (omega arith) h.1 in let f = less_then (cmp (get_or (x ∷ xs) (h.0 + 1) x) (get_or (x ∷ xs) h.0 x)) (h.2 x) in cc,
)

module _ (relations : List RelationState) (sources : List TableNumber) (rows : List (SmallVec TupleRef)) where
  at : (k : ℕ) (d : SmallVec TupleRef) (e : List TupleRef) → k < length rows → get_or (lists rows) k e ≡ (get_or rows k d).items
  at k d e l = get_or-map (λ (row : SmallVec TupleRef). row.items) rows k d e l

  -- rows that rise as they are kept rise as they are seen
  pub sorted_seen : IsSorted (listed_cmp relations sources) rows → IsSorted (keys_cmp relations (map (λ t. t.0) sources)) (lists rows)
  sorted_seen s = λ k e z l.
      let d : SmallVec TupleRef = record { items = e; capacity = 0 } in
      let inside : k + 1 < length rows = omega (arith, l, length-map rows (λ (row : SmallVec TupleRef). row.items)) in
      rw (at (k + 1) d e inside, at k d e (omega (arith, inside))) (s k d z inside)

  pub seen_sorted : IsSorted (keys_cmp relations (map (λ t. t.0) sources)) (lists rows) → IsSorted (listed_cmp relations sources) rows
  seen_sorted s = λ k d z l.
      rw (← (at (k + 1) d d.items l), ← (at k d d.items (omega (arith, l)))) (s k d.items z (omega (arith, l, length-map rows (λ (row : SmallVec TupleRef). row.items))))

-- rows that only moved
module _ (rows moved : List (SmallVec TupleRef)) (h : IsPermutation (lists rows) (lists moved)) where
  pub bag_moved : IsSameBag (lists moved) (lists rows)
  bag_moved = record { count = λ test. sum_by-IsPermutation _ _ _ h }

  pub even_moved : (sources : List TableNumber) (columns : List Place) → IsEven (list_of sources rows columns) → IsEven (list_of sources moved columns)
  even_moved sources columns even = record { some = even.some; rows = All-permutation (λ (row : List TupleRef). length row ≡ length (map (λ (t : TableNumber). t.0) sources)) _ _ h even.rows }

-- the sources of a list, as they are read
pub tables_read : (relations : List RelationState) (read kept : List TableNumber) (sources : List ℕ) → read ≡ kept → map (λ t. t.0) kept ≡ sources → All (λ n. n < length relations) sources → AreTables relations read
tables_read relations read kept sources same seen each = λ k d l.
    let is : map (λ t. t.0) read ≡ sources = ap (map (λ t. t.0)) same ∙ seen in
    let inside : k < length sources = omega (arith, l, length-map read (λ (t : TableNumber). t.0), ap length is) in
    subst (λ (n : ℕ). n < length relations) (ap (λ (ns : List ℕ). get_or ns k d.0) (sym is) ∙ get_or-map (λ (t : TableNumber). t.0) read k d d.0 l) (each k d.0 inside)

-- one row has one key
pub key_itself : (rows : Tuples Row) (q r : TupleRef) → q.number ≡ r.number → Equal ≡ option_cmp value_cmp (key_at rows q) (key_at rows r)
key_itself rows q r e =
    let same : q ≡ r = ap (λ (n : ℕ). let t : TupleRef = record { number = n } in t) e in
    sym (ap (λ (t : TupleRef). option_cmp value_cmp (key_at rows q) (key_at rows t)) (sym same) ∙ tied_itself (options_total value_cmp_total) (key_at rows q))
