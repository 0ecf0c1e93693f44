-- The conditions of a select, each as a test of its table, whatever stands in them beside the names of columns.
use Rattle.std.proofs.Common.{◌≡◌, ◌≢◌, ℕ, zero, suc, ◌+◌, ◌≤◌, Bool, true, false, cond, List, [], ◌∷◌, ◌++◌, Some, refl, ap, ◌∙◌, map, set, slice_get, get_or, arith, append-nil, add-zero, length, zero-add, ◌<◌, sym}
use Rattle.std.specs.Prelude.{◌==◌, zip}
use Rattle.std.specs.List.{filter, filter_map, enumerate_from, remove}
use Rattle.std.specs.Option.{option_map, option_map_or}
use Rattle.std.proofs.lemmas.Bool.Decides.{nat_tests}
use Rattle.std.proofs.lemmas.List.Elements.{filter-append, filter_map-append}
use Rattle.std.proofs.lemmas.Option.{same_Some}
use Rattle.std.proofs.lemmas.List.{length-map}
use Rattle.std.proofs.lemmas.List.FromFn.{length-enumerate_from}
use Rattle.plain_tables.specs.Queries.{JoinedColumn, place_meant}
use Rattle.plain_tables.specs.declared.condition.ColName.{ColName}
use Rattle.plain_tables.specs.declared.numbers.TableNumber.{TableNumber}
use Rattle.plain_tables.specs.declared.numbers.Place.{Place}
use Rattle.mm_resolver.specs.declared.named_table.NamedTable.{NamedTable}
use Rattle.common_lemmas.proofs.Places.{slice_get-inside}

pub map-map : {X Y Z : Type 0} (g : Y → Z) (f : X → Y) (xs : List X) → map (λ x. g (f x)) xs ≡ map g (map f xs)
map-map g f [] = refl
map-map g f (x ∷ xs) = ap (λ ys. g (f x) ∷ ys) (map-map g f xs)

-- pairs of which the first is seen as another
pub zip-first : {A B C D : Type 0} (seen : A → C) (f : C → B → D) (xs : List A) (ys : List B)
    → map (λ p. f (seen p.0) p.1) (zip xs ys) ≡ map (λ p. f p.0 p.1) (zip (map seen xs) ys)
zip-first seen f [] ys = refl
zip-first seen f (x ∷ xs) [] = refl
zip-first seen f (x ∷ xs) (y ∷ ys) = ap (λ rest. f (seen x) y ∷ rest) (zip-first seen f xs ys)

-- the first of elements that are seen as others, and those behind it
pub first-seen : {A B : Type 0} (seen : A → B) (xs : List A) (x : A) → x ≡ get_or xs 0 x → seen x ≡ get_or (map seen xs) 0 (seen x)
first-seen seen [] x is = refl
first-seen seen (y ∷ ys) x is = ap seen is

pub behind-seen : {A B : Type 0} (seen : A → B) (xs : List A) → map seen (remove xs 0) ≡ remove (map seen xs) 0
behind-seen seen [] = refl
behind-seen seen (x ∷ xs) = refl

same_number : (m n : ℕ) → m ≡ n → (m == n) ≡ true
same_number m n h = grind (arith, nat_tests)

other_number : (m n : ℕ) → m ≢ n → (m == n) ≡ false
other_number m n h = grind (arith, nat_tests)

-- Conditions of a kind, by the columns that they name and the tests that they are, and sources of a kind, by their tables and tests.
module _ {C T S : Type 0} (name : C → ColName) (test : C → Place → T) (source : TableNumber → List T → S) (columns : List JoinedColumn) where
  abbrev is_on : ℕ → C → Bool
  is_on n c = option_map_or (λ place. place.source == n) (place_meant columns (name c)) false

  abbrev tests : List C → List T
  tests conditions = filter_map (λ c. option_map (test c) (place_meant columns (name c))) conditions

  -- the source of the table that is joined as the one of a number, with the conditions on it
  abbrev on : List C → ℕ × NamedTable → S
  on conditions s = source s.1.table (tests (filter (is_on s.0) conditions))

  pub untested_are : (k : ℕ) (named_tables : List NamedTable) → map (λ s. source s.table []) named_tables ≡ map (on []) (enumerate_from k named_tables)
  untested_are k [] = refl
  untested_are k (s ∷ ss) = ap (λ sources. source s.table [] ∷ sources) (untested_are (k + 1) ss)

  pub length-on : (given : List C) (named_tables : List NamedTable) → length (map (on given) (enumerate_from 0 named_tables)) ≡ length named_tables
  length-on given named_tables = length-map (enumerate_from 0 named_tables) (on given) ∙ length-enumerate_from 0 named_tables

  module _ (given : List C) (c : C) where
    -- the sources without the condition and with it
    abbrev before : ℕ → List NamedTable → List S
    before k named_tables = map (on given) (enumerate_from k named_tables)

    abbrev after : ℕ → List NamedTable → List S
    after k named_tables = map (on (given ++ c ∷ [])) (enumerate_from k named_tables)

    -- what the condition adds to the tests of a table
    tests_more : (n : ℕ) (b : Bool) → is_on n c ≡ b
        → tests (filter (is_on n) (given ++ c ∷ [])) ≡ tests (filter (is_on n) given) ++ tests (cond b (c ∷ []) [])
    tests_more n b h =
        ap tests (filter-append (is_on n) given (c ∷ []) ∙ ap (λ x. filter (is_on n) given ++ cond x (c ∷ []) []) h)
        ∙ filter_map-append (λ d. option_map (test d) (place_meant columns (name d))) (filter (is_on n) given) (cond b (c ∷ []) [])

    source_same : (n : ℕ) (s : NamedTable) → is_on n c ≡ false → on (given ++ c ∷ []) (n, s) ≡ on given (n, s)
    source_same n s h = ap (source s.table) (tests_more n false h ∙ append-nil (tests (filter (is_on n) given)))

    sources_same : (k : ℕ) (named_tables : List NamedTable) → ((n : ℕ) → k ≤ n → is_on n c ≡ false) → after k named_tables ≡ before k named_tables
    sources_same k [] h = refl
    sources_same k (s ∷ ss) h =
        ap (λ x. x ∷ after (k + 1) ss) (source_same k s (h k (omega arith)))
        ∙ ap (λ sources. on given (k, s) ∷ sources) (sources_same (k + 1) ss (λ n l. h n (omega arith)))

    -- a source with one test more
    module _ (more : S → T → S) (adds : (n : TableNumber) (ts : List T) (t : T) → source n (ts ++ t ∷ []) ≡ more (source n ts) t)
        (place : Place) (is : place_meant columns (name c) ≡ Some place) where
      on_place : (n : ℕ) → is_on n c ≡ (place.source == n)
      on_place n = ap (λ o. option_map_or (λ (p : Place). p.source == n) o false) is

      tests_of_one : tests (c ∷ []) ≡ test c place ∷ []
      tests_of_one = rw is refl

      source_more : (n : ℕ) (s : NamedTable) → place.source ≡ n → on (given ++ c ∷ []) (n, s) ≡ more (on given (n, s)) (test c place)
      source_more n s h =
          ap (source s.table) (tests_more n true (on_place n ∙ same_number place.source n h) ∙ ap (λ ts. tests (filter (is_on n) given) ++ ts) tests_of_one)
          ∙ adds s.table (tests (filter (is_on n) given)) (test c place)

      pub sources_more : (k i : ℕ) (named_tables : List NamedTable) (x : S) → place.source ≡ k + i → slice_get (before k named_tables) i ≡ Some x
          → after k named_tables ≡ set (before k named_tables) i (more x (test c place))
      sources_more k i [] x h at = cc
      sources_more k zero (s ∷ ss) x h at =
          let first : place.source ≡ k = h ∙ add-zero k in
          let same : on given (k, s) ≡ x = same_Some (on given (k, s)) x at in
          ap (λ rest. on (given ++ c ∷ []) (k, s) ∷ rest)
          (sources_same (k + 1) ss (λ n l. on_place n ∙ other_number place.source n (λ e. omega arith)))
          ∙ ap (λ y. y ∷ before (k + 1) ss) (source_more k s first ∙ ap (λ y. more y (test c place)) same)
      sources_more k (suc i) (s ∷ ss) x h at =
          let later : place.source ≡ (k + 1) + i = omega arith in
          ap (λ rest. on (given ++ c ∷ []) (k, s) ∷ rest) (sources_more (k + 1) i ss x later at)
          ∙ ap (λ y. y ∷ set (before (k + 1) ss) i (more x (test c place)))
          (source_same k s (on_place k ∙ other_number place.source k (λ e. omega arith)))

      -- the sources of lent ones with the test added to its own
      pub source_added : (named_tables : List NamedTable) (lent now : List S) (t : T) → lent ≡ before 0 named_tables → place.source < length named_tables → t ≡ test c place
          → ((x : S) → slice_get lent place.source ≡ Some x → now ≡ set lent place.source (more x t)) → now ≡ after 0 named_tables
      source_added named_tables lent now t are within made added =
          let (x, at) = slice_get-inside (before 0 named_tables) place.source (omega (arith, within, length-on given named_tables)) in
          added x (ap (λ xs. slice_get xs place.source) are ∙ at) ∙ (λ i. set (are i) place.source (more x (made i)))
          ∙ sym (sources_more 0 place.source named_tables x (sym (zero-add place.source)) at)
