-- The tables and joins of a select once they are found: names that stand twice, and what each join makes equal.
use Rattle.std.proofs.Common.{◌≡◌, ℕ, suc, ◌+◌, ◌<◌, ◌≤◌, Bool, true, false, cond, not, is_none, List, [], ◌∷◌, ◌++◌, Option, Some, None, refl, sym, ap, subst, ◌∙◌, map, length, get_or, arith, inl, inr}
use Rattle.std.specs.Prelude.{Result, Ok, Err, ◌||◌, nat_le, zip}
use Rattle.std.specs.List.{AllZip, filter, filter_map, list_any, enumerate_from, cons_option, remove}
use Rattle.std.specs.Option.{option_map, option_map_or}
use Rattle.std.specs.Str.{bytes_eq}
use Rattle.std.proofs.lemmas.Bool.{cases_Bool, false≢true}
use Rattle.std.proofs.lemmas.Bool.Decides.{nat_tests}
use Rattle.std.proofs.lemmas.List.{length-map, length-append}
use Rattle.std.proofs.lemmas.Map.Views.{any-filter_same}
use Rattle.std.proofs.lemmas.Slice.Eq.{bytes_eq-Decides}
use Rattle.std.proofs.lemmas.Slice.Zip.{AllZip-long}
use Rattle.common_lemmas.proofs.Options.{option_map_some}
use Rattle.common_lemmas.proofs.Tests.{list_any-map, any_agree}
use Rattle.plain_tables.specs.Databases.{Database}
use Rattle.plain_tables.specs.Queries.{JoinedColumn, same_place, places_meant, named_items}
use Rattle.plain_tables.specs.References.{same_type, type_of}
use Rattle.plain_tables.specs.Effects.{Check, repeats}
use Rattle.plain_tables.specs.Resolving.{once, select_names, behind, join_columns, differ_in_type, shown_of}
use Rattle.plain_tables.specs.declared.command.Items.{Items}
use Rattle.plain_tables.specs.declared.command.Join.{Join}
use Rattle.plain_tables.specs.declared.numbers.ColumnNumber.{ColumnNumber}
use Rattle.plain_tables.specs.declared.numbers.Place.{Place}
use Rattle.plain_tables.specs.declared.refusal.Refusal.{Refusal}
use Rattle.plain_tables.specs.declared.refusal.Refusal.TheVariants.{ColumnNamedTwice, TableNamedTwice, WrongType}
use Rattle.plain_tables.specs.declared.resolved.Shown.{Shown}
use Rattle.plain_tables.specs.declared.schema.Column.{Column}
use Rattle.mm_resolver.specs.declared.named_table.NamedTable.{NamedTable}
use Rattle.mm_resolver.specs.declared.scope.Scope.{Scope}
use Rattle.mm_resolver.specs.declared.scope.Sides.{Sides}
use Rattle.mm_resolver.specs.Naming.{IsNamedTableOf, columns_of_all, shown_places}
use Rattle.mm_resolver.specs.Checks.{verdict}
use Rattle.mm_resolver.specs.Select.{IsScopeOf, placed_sides, sides_found, sides_differ, joined_rest}
use Rattle.mm_resolver.proofs.Named.{option_map_or-map, shown_places-are}
use Rattle.mm_resolver.proofs.Sources.{map-map}
use Rattle.plain_tables.proofs.Selects.{once_apart}

-- ---- names that stand twice

without_no_more : {X : Type 0} (p : X → Bool) (xs : List X) → length (filter p xs) ≤ length xs
without_no_more p [] = omega arith
without_no_more p (x ∷ xs) =
    let rest = without_no_more p xs in
    elim (p x) as (λ b. length (cond b (x ∷ filter p xs) (filter p xs)) ≤ suc (length xs)) [ true ↦ omega arith | false ↦ omega arith ]

without_fewer : {X : Type 0} (p : X → Bool) (xs : List X) → list_any p xs ≡ true → length (filter (λ x. not (p x)) xs) < length xs
without_fewer p [] h = absurd (false≢true h)
without_fewer p (x ∷ xs) h =
    let rest = without_no_more (λ y. not (p y)) xs in
    elim (p x) as (λ b. (b || list_any p xs) ≡ true → length (cond (not b) (x ∷ filter (λ y. not (p y)) xs) (filter (λ y. not (p y)) xs)) < suc (length xs)) [
      | true ↦ λ e. omega arith
      | false ↦ λ e. let less = without_fewer p xs e in omega arith
    ] h

any_once : (m : List ℕ) (names : List (List ℕ)) → list_any (bytes_eq m) (once names) ≡ list_any (bytes_eq m) names
any_once m [] = refl
any_once m (n ∷ ns) = elim (cases_Bool (bytes_eq m n)) [
  | inl same ↦ rw same refl
  | inr differ ↦
      let apart : (k : List ℕ) → bytes_eq m k ≡ true → not (bytes_eq n k) ≡ true =
      λ k h. elim (cases_Bool (bytes_eq n k)) [
        | inl also ↦
            let same : m ≡ n = (bytes_eq-Decides m k).0 h ∙ sym ((bytes_eq-Decides n k).0 also) in
            absurd (false≢true (sym differ ∙ (bytes_eq-Decides m n).1 same))
        | inr not_also ↦ ap not not_also
      ] in
      ap (λ b. bytes_eq m n || b) (any-filter_same (bytes_eq m) (λ k. not (bytes_eq n k)) true apart (once ns) ∙ any_once m ns)
]

once_no_more : (names : List (List ℕ)) → length (once names) ≤ length names
once_no_more [] = omega arith
once_no_more (n ∷ ns) = omega (arith, without_no_more (λ k. not (bytes_eq n k)) (once ns), once_no_more ns)

once_fewer : (names : List (List ℕ)) → repeats bytes_eq names ≡ true → length (once names) < length names
once_fewer [] h = absurd (false≢true h)
once_fewer (n ∷ ns) h = elim (cases_Bool (list_any (bytes_eq n) ns)) [
  | inl again ↦ omega (arith, without_fewer (bytes_eq n) (once ns) (any_once n ns ∙ again), once_no_more ns)
  | inr alone ↦
      let later : repeats bytes_eq ns ≡ true = rw alone at h in
      omega (arith, without_no_more (λ k. not (bytes_eq n k)) (once ns), once_fewer ns later)
]

few_enough : (m n : ℕ) → m ≤ n → nat_le m n ≡ true
few_enough m n h = grind (arith, nat_tests)

too_many : (m n : ℕ) → n < m → nat_le m n ≡ false
too_many m n h = grind (arith, nat_tests)

repeats_once : (name : List ℕ) (names : List (List ℕ)) → repeats bytes_eq (name ∷ names) ≡ nat_le (length (once (name ∷ names))) (length names)
repeats_once name names = elim (cases_Bool (repeats bytes_eq (name ∷ names))) [
  | inl twice ↦
      let less = once_fewer (name ∷ names) twice in
      twice ∙ sym (few_enough (length (once (name ∷ names))) (length names) (omega arith))
  | inr differ ↦
      let many = ap length (once_apart (name ∷ names) differ) in
      differ ∙ sym (too_many (length (once (name ∷ names))) (length names) (omega arith))
]

-- ---- the joins

-- where none gives nothing, what all give is what each gives
all_given : {X Y Z : Type 0} (g : Y → Z) (f : X → Option Y) (xs : List X) → list_any is_none (map f xs) ≡ false
    → map (λ z. Some z) (filter_map (λ x. option_map g (f x)) xs) ≡ map (λ x. option_map g (f x)) xs
all_given g f [] none = refl
all_given g f (x ∷ xs) none =
    elim (f x) as (λ o. (is_none o || list_any is_none (map f xs)) ≡ false
    → map (λ z. Some z) (cons_option (option_map g o) (filter_map (λ y. option_map g (f y)) xs)) ≡ option_map g o ∷ map (λ y. option_map g (f y)) xs) [
      | None ↦ λ e. absurd (false≢true (sym e))
      | Some y ↦ λ e. ap (λ rest. Some (g y) ∷ rest) (all_given g f xs e)
    ] none

-- a test of the columns of joins, as they are meant and as they were found
module _ {X S F : Type 0} (f : X → F) (found : S → F) (xs : List (Option X)) (sides : List S) (are : map (λ s. Some (found s)) sides ≡ map (option_map f) xs) where
  any_found : (g : F → Bool) → list_any (λ o. option_map_or (λ x. g (f x)) o false) xs ≡ list_any (λ s. g (found s)) sides
  any_found g =
      any_agree (λ o. option_map_or (λ x. g (f x)) o false) (λ o. option_map_or g (option_map f o) false) (option_map_or-map g f) xs
      ∙ sym (list_any-map (λ o. option_map_or g o false) (option_map f) xs)
      ∙ ap (list_any (λ o. option_map_or g o false)) (sym are)
      ∙ list_any-map (λ o. option_map_or g o false) (λ s. Some (found s)) sides

length-behind : (names : List (List ℕ)) (joins : List Join) → length (behind names joins) ≡ length joins
length-behind names [] = refl
length-behind names (j ∷ js) = ap suc (length-behind (names ++ j.table ∷ []) js)

pub second_passes : (a b : Bool) (e f : Refusal) (r : Result (Unit {0}) Refusal) → cond a (Err e) (cond b (Err f) r) ≡ Ok tt → b ≡ false
second_passes true b e f r h = cc
second_passes false true e f r h = cc
second_passes false false e f r h = refl

-- ---- the tables and joins that are found

module _ (tables : Database) (name : List ℕ) (joins : List Join) (scope : Scope) (h : IsScopeOf tables name joins scope) where
  abbrev names : List (List ℕ)
  names = select_names name joins

  abbrev sides : List (Option (JoinedColumn × JoinedColumn))
  sides = map (join_columns tables) (behind (name ∷ []) joins)

  pub sides_are : map (λ (s : Sides). Some (sides_found s)) scope.sides.items ≡ map (λ j. option_map placed_sides (join_columns tables j)) (behind (name ∷ []) joins)
  sides_are =
      map-map (λ s. Some s) sides_found scope.sides.items ∙ ap (map (λ s. Some s)) h.sides
      ∙ all_given placed_sides (join_columns tables) (behind (name ∷ []) joins) (sym h.misses)

  found_sides : map (λ (s : Sides). Some (sides_found s)) scope.sides.items ≡ map (option_map placed_sides) sides
  found_sides = sides_are ∙ map-map (option_map placed_sides) (join_columns tables) (behind (name ∷ []) joins)

  abbrev differ_found : (Place × Column) × (Place × Column) → Bool
  differ_found s = not (same_type (type_of tables s.0.1.kind) (type_of tables s.1.1.kind))

  sides_differ_so : list_any (λ s. option_map_or (differ_in_type tables) s false) sides ≡ list_any (sides_differ tables) scope.sides.items
  sides_differ_so = any_found placed_sides sides_found sides scope.sides.items found_sides differ_found

  pub many_joins : length joins ≡ length scope.sides.items
  many_joins =
      sym (length-behind (name ∷ []) joins)
      ∙ sym (length-map (behind (name ∷ []) joins) (λ j. option_map placed_sides (join_columns tables j)))
      ∙ sym (ap length sides_are)
      ∙ length-map scope.sides.items (λ (s : Sides). Some (sides_found s))

  named_twice : repeats bytes_eq names ≡ nat_le (length scope.tables.items) (length scope.sides.items)
  named_twice =
      repeats_once name (map (λ j. j.table) joins)
      ∙ ap (λ n. nat_le n (length (map (λ (j : Join). j.table) joins))) (sym (AllZip-long (IsNamedTableOf tables) (once names) scope.tables.items h.named))
      ∙ ap (nat_le (length scope.tables.items)) (length-map joins (λ (j : Join). j.table) ∙ many_joins)

  -- ---- their checks

  -- no column is shown twice, no table named twice, and the columns of each join are of one type
  abbrev pub joined_checks : Items → List Check
  joined_checks its =
      record { refuses = repeats same_place (places_meant (columns_of_all scope.tables.items) (named_items its)); refusal = ColumnNamedTwice }
      ∷ record { refuses = repeats bytes_eq names; refusal = TableNamedTwice }
      ∷ record { refuses = list_any (λ s. option_map_or (differ_in_type tables) s false) sides; refusal = WrongType }
      ∷ []

  pub joined_checks-are : (its : Items) → joined_checks its ≡ joined_rest tables scope (shown_of (columns_of_all scope.tables.items) its)
  joined_checks-are its = rw (sym (shown_places-are (columns_of_all scope.tables.items) its), named_twice, sides_differ_so) refl

  -- where they pass, the tables are those of the names as they stand
  pub named_apart : (shown : Shown) (rest : List Check) → verdict (joined_rest tables scope shown ++ rest) ≡ Ok tt → AllZip (IsNamedTableOf tables) names scope.tables.items
  named_apart shown rest ok =
      let differ = second_passes (repeats same_place (shown_places shown)) (nat_le (length scope.tables.items) (length scope.sides.items)) _ _ _ ok in
      subst (λ ns. AllZip (IsNamedTableOf tables) ns scope.tables.items) (once_apart names (named_twice ∙ differ)) h.named

  -- ---- what the joins mean

  -- sources of a kind, by the number and the name of a table, and by its number and the table as it is named, and what is joined of them
  module _ {S J : Type 0} (source : ℕ → List ℕ → S) (made : ℕ × NamedTable → S) (same : (n : ℕ) (own : List ℕ) (s : NamedTable) → IsNamedTableOf tables own s → source n own ≡ made (n, s))
      (join : S → Place → ColumnNumber → J) where
    abbrev joined : List (List (List ℕ) × Join) → List J
    joined js = filter_map (λ j. option_map (λ x. join (source (length j.0) j.1.table) x.0.place x.1.place.column) (join_columns tables j)) js

    abbrev joined_so : List S → List Sides → List J
    joined_so sources ds = map (λ s. join s.0 s.1.outer.place s.1.inner.place.column) (zip sources ds)

    joins_are : (before : List (List ℕ)) (js : List Join) (named_tables : List NamedTable) (ds : List Sides) → AllZip (IsNamedTableOf tables) (map (λ j. j.table) js) named_tables
        → map (λ (s : Sides). Some (sides_found s)) ds ≡ map (λ j. option_map placed_sides (join_columns tables j)) (behind before js)
        → joined (behind before js) ≡ joined_so (map made (enumerate_from (length before) named_tables)) ds
    joins_are before [] [] ds all are = refl
    joins_are before (j ∷ js) (s ∷ ss) [] all are = cc
    joins_are before (j ∷ js) (s ∷ ss) (d ∷ ds) all are =
        let head : option_map placed_sides (join_columns tables (before, j)) ≡ Some (sides_found d) = cc in
        let tail : map (λ (x : Sides). Some (sides_found x)) ds ≡ map (λ k. option_map placed_sides (join_columns tables k)) (behind (before ++ j.table ∷ []) js) = cc in
        let meant = option_map_some placed_sides (join_columns tables (before, j)) (sides_found d) head in
        let outer : meant.0.0.place ≡ d.outer.place = ap (λ p. p.0.0) meant.2 in
        let inner : meant.0.1.place ≡ d.inner.place = ap (λ p. p.1.0) meant.2 in
        let rest = joins_are (before ++ j.table ∷ []) js ss ds all.1 tail in
        let more : length (before ++ j.table ∷ []) ≡ length before + 1 = length-append before (j.table ∷ []) in
        let of : Option (JoinedColumn × JoinedColumn) → Option J = option_map (λ x. join (source (length before) j.table) x.0.place x.1.place.column) in
        let others : List J = joined (behind (before ++ j.table ∷ []) js) in
        ap (λ o. cons_option (of o) others) meant.1
        ∙ ap (λ x. join x meant.0.0.place meant.0.1.place.column ∷ others) (same (length before) j.table s all.0)
        ∙ ap (λ p. join (made (length before, s)) p meant.0.1.place.column ∷ others) outer
        ∙ ap (λ (p : Place). join (made (length before, s)) d.outer.place p.column ∷ others) inner
        ∙ ap (λ js'. join (made (length before, s)) d.outer.place d.inner.place.column ∷ js')
        (rest ∙ ap (λ n. joined_so (map made (enumerate_from n ss)) ds) more)
    joins_are before js named_tables ds all are = absurd all

    -- the first source is that of the first table, and the others are joined as their joins say
    pub sources_are : (named_tables : List NamedTable) (x : S) (sources : List S) → AllZip (IsNamedTableOf tables) names named_tables
        → sources ≡ map made (enumerate_from 0 named_tables) → x ≡ get_or sources 0 x
        → (source 0 name ≡ x) × (joined (behind (name ∷ []) joins) ≡ joined_so (remove sources 0) scope.sides.items)
    sources_are [] x sources all are at = absurd all
    sources_are (s ∷ ss) x sources all are at =
        let first : x ≡ made (0, s) = at ∙ ap (λ xs. get_or xs 0 x) are in
        let others : remove sources 0 ≡ map made (enumerate_from 1 ss) = ap (λ xs. remove xs 0) are in
        (same 0 name s all.0 ∙ sym first, joins_are (name ∷ []) joins ss scope.sides.items all.1 sides_are ∙ ap (λ xs. joined_so xs scope.sides.items) (sym others))
