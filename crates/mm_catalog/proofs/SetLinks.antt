-- The links that cells are, and those that rows have where cells are set, one after another.
use Rattle.std.proofs.Common.{◌≡◌, ℕ, ◌+◌, ◌*◌, ◌<◌, ◌≤◌, Bool, List, [], ◌∷◌, ◌++◌, Option, Some, None, refl, sym, ap, ◌∙◌, subst, arith, length, map, take, get_or, drop, append-nil, append_assoc}
use Rattle.std.specs.List.{All, cons_option, count_by, filter_map, flat_map}
use Rattle.std.specs.Option.{option_and_then, option_map, option_map_or}
use Rattle.std.specs.FinMap as finite
use Rattle.std.proofs.Math.Nat.{mul-add, mul-le-mul_left}
use Rattle.std.proofs.lemmas.Grind.{flat_map-append}
use Rattle.std.proofs.lemmas.List.{length-map, length-take-le, map-append, take-append-drop, take_more}
use Rattle.std.proofs.lemmas.List.Elements.{All-map, filter_map-append, All-contains, Contains-get_or}
use Rattle.std.proofs.lemmas.List.Sums.{count_by-le-length}
use Rattle.common_lemmas.proofs.Elements.{All-from_map}
use Rattle.common_lemmas.proofs.Maps.{length-filter_map_within}
use Rattle.plain_statements.proofs.Fusion.{filter_map-map}
use Rattle.plain_tables.specs.declared.numbers.ColumnNumber.{ColumnNumber}
use Rattle.mm_relation.specs.Settings.{link_set}
use Rattle.part_raw.specs.declared.tuple_ref.TupleRef.{TupleRef}
use Rattle.mm_relation.specs.Rows.{Row}
use Rattle.mm_relation.specs.State.{RelationState}
use Rattle.mm_catalog.specs.declared.references.link.Link.{Link}
use Rattle.mm_catalog.specs.Linked.{Linked, is_link_to, link_at, target_at}
use Rattle.mm_catalog.specs.Counted.{AreCountedBy, HaveAtLeast, HaveRoom, linked_of, naming, none}
use Rattle.mm_catalog.specs.Assigned.{CellSet, links_at, row_links_at, set_link, set_links}
use Rattle.mm_catalog.proofs.Counted.{counted_as, down_then, enough_left, naming-append, room_left, up_then}
use Rattle.mm_catalog.proofs.LinksHeld.{Contains-filter_map}

-- ---- one element more

pub filter_map_more : {A B : Type 0} (f : A → Option B) (xs : List A) (i : ℕ) (d : A) → i < length xs → filter_map f (take (i + 1) xs) ≡ filter_map f (take i xs) ++ cons_option (f (get_or xs i d)) []
filter_map_more f xs i d l = ap (filter_map f) (take_more xs i d l) ∙ filter_map-append f (take i xs) (get_or xs i d ∷ [])

pub flat_map_more : {A B : Type 0} (f : A → List B) (xs : List A) (i : ℕ) (d : A) → i < length xs → flat_map f (take (i + 1) xs) ≡ flat_map f (take i xs) ++ f (get_or xs i d)
flat_map_more f xs i d l =
    ap (flat_map f) (take_more xs i d l) ∙ flat_map-append f (take i xs) (get_or xs i d ∷ []) ∙ ap (λ ys. flat_map f (take i xs) ++ ys) (append-nil (f (get_or xs i d)))

-- ---- the links of a row

-- where the next cell is set the row has this link, or none
pub row_links_more : (targets : List (Option ℕ)) (sets : List CellSet) (row : Row) (i : ℕ) (d : CellSet) (found : Option Link) → i < length sets → option_map linked_of found ≡ link_at targets row (get_or sets i d).0.0 → row_links_at targets (take (i + 1) sets) row ≡ row_links_at targets (take i sets) row ++ map linked_of (cons_option found [])
unfolding row_links_at
row_links_more targets sets row i d found l e =
    filter_map_more (λ (s : CellSet). link_at targets row s.0.0) sets i d l
    ∙ ap (λ (o : Option Linked). filter_map (λ (s : CellSet). link_at targets row s.0.0) (take i sets) ++ cons_option o []) (sym e)
    ∙ ap (λ ys. filter_map (λ (s : CellSet). link_at targets row s.0.0) (take i sets) ++ ys) (mapped found)
  where
    mapped : (o : Option Link) → cons_option (option_map linked_of o) [] ≡ map linked_of (cons_option o [])
    mapped None = refl
    mapped (Some link) = refl

pub links_pushed : (targets : List (Option ℕ)) (sets : List CellSet) (row : Row) (i : ℕ) (d : CellSet) (found : Option Link) → i < length sets → option_map linked_of found ≡ link_at targets row (get_or sets i d).0.0 → (start : List Linked) (items : List Link) → map linked_of items ≡ start ++ row_links_at targets (take i sets) row → map linked_of (items ++ cons_option found []) ≡ start ++ row_links_at targets (take (i + 1) sets) row
links_pushed targets sets row i d found l e start items h =
    map-append linked_of items (cons_option found []) ∙ ap (λ ls. ls ++ map linked_of (cons_option found [])) h
    ∙ append_assoc start (row_links_at targets (take i sets) row) (map linked_of (cons_option found []))
    ∙ ap (λ ls. start ++ ls) (sym (row_links_more targets sets row i d found l e))

pub no_row_links : (targets : List (Option ℕ)) (row : Row) → row_links_at targets [] row ≡ []
unfolding row_links_at
no_row_links targets row = refl

pub no_links : (s : RelationState) (sets : List CellSet) → links_at s sets [] ≡ []
unfolding links_at
no_links s sets = refl

pub links_more : (s : RelationState) (sets : List CellSet) (rs : List TupleRef) (i : ℕ) (d : TupleRef) (row : Row) → i < length rs → finite.get s.rows (get_or rs i d) ≡ Some row → links_at s sets (take (i + 1) rs) ≡ links_at s sets (take i rs) ++ row_links_at s.targets sets row
unfolding links_at
links_more s sets rs i d row l e =
    flat_map_more (λ r. option_map_or (row_links_at s.targets sets) (finite.get s.rows r) []) rs i d l
    ∙ ap (λ o. flat_map (λ r. option_map_or (row_links_at s.targets sets) (finite.get s.rows r) []) (take i rs) ++ option_map_or (row_links_at s.targets sets) o []) e

-- ---- the links that cells are

pub set_links_more : (targets : List (Option ℕ)) (sets : List CellSet) (i : ℕ) (d : CellSet) → i < length sets → (found : Option Linked) → set_link targets (get_or sets i d) ≡ found → (table : ℕ) (q : TupleRef) → naming (set_links targets (take (i + 1) sets)) table q ≡ naming (set_links targets (take i sets)) table q + naming (cons_option found []) table q
unfolding set_links
set_links_more targets sets i d l found e table q =
    ap (λ ls. naming ls table q) (filter_map_more (set_link targets) sets i d l ∙ ap (λ (o : Option Linked). filter_map (set_link targets) (take i sets) ++ cons_option o []) e)
    ∙ naming-append (filter_map (set_link targets) (take i sets)) (cons_option found []) table q

-- a link that one of the cells is
pub set_link_among : (targets : List (Option ℕ)) (sets : List CellSet) (P : Linked → Type 0) (i : ℕ) (d : CellSet) (link : Linked) → All P (set_links targets sets) → i < length sets → set_link targets (get_or sets i d) ≡ Some link → P link
unfolding set_links
set_link_among targets sets P i d link all l e =
    All-contains P (set_links targets sets) link all (Contains-filter_map (set_link targets) sets (get_or sets i d) link (Contains-get_or sets i d l) e)

count_set_links : (targets : List (Option ℕ)) (sets : List CellSet) (i : ℕ) (test : Linked → Bool) → i ≤ length sets → count_by test (set_links targets (take i sets)) ≤ i
unfolding set_links
count_set_links targets sets i test l =
    let few = count_by-le-length test (filter_map (set_link targets) (take i sets)) in
    let short = length-filter_map_within (set_link targets) (take i sets) in
    let taken = length-take-le i sets l in
    omega (arith, few, short, taken)

abbrev pub raising : List (Option ℕ) → List CellSet → ℕ → ℕ → ℕ → TupleRef → ℕ
raising targets sets n i table q = n * naming (set_links targets (take i sets)) table q

pub no_set_links : (targets : List (Option ℕ)) (sets : List CellSet) (n table : ℕ) (q : TupleRef) → 0 ≡ raising targets sets n 0 table q
unfolding set_links
no_set_links targets sets n table q = let none : n * 0 ≡ 0 = omega arith in sym none

module _ (old now : List RelationState) (targets : List (Option ℕ)) (sets : List CellSet) (n i : ℕ) (d : CellSet) (l : i < length sets) (so_far : AreCountedBy old now (raising targets sets n i) none) where
  -- there is room for the links of the next cell
  pub room_next : HaveRoom old (n * length sets) → HaveRoom now n
  room_next =
      room_left old now (raising targets sets n i) (n * length sets) n so_far
      (λ table q.
      let least = mul-le-mul_left n (count_set_links targets sets i (is_link_to table q) (omega arith)) in
      let next = mul-le-mul_left {m = i + 1} {n = length sets} n (omega arith) in
      let parts : n * (i + 1) ≡ n * i + n = mul-add n i 1 ∙ (let one : n * 1 ≡ n = omega arith in ap (λ m. n * i + m) one) in
      omega (arith, least, next, parts))

  pub raised_skip : set_link targets (get_or sets i d) ≡ None → AreCountedBy old now (raising targets sets n (i + 1)) none
  raised_skip no_link =
      counted_as old now (raising targets sets n i) none (raising targets sets n (i + 1)) none
      (λ table q. let more = set_links_more targets sets i d l None no_link table q in
      ap (λ m. n * m) (let same : naming (set_links targets (take i sets)) table q ≡ naming (set_links targets (take (i + 1) sets)) table q = omega (arith, more) in same)) (λ table q. refl) so_far

  pub raised_link : (next : List RelationState) (link : Linked) → set_link targets (get_or sets i d) ≡ Some link → AreCountedBy now next (λ table q. n * naming (link ∷ []) table q) none → AreCountedBy old next (raising targets sets n (i + 1)) none
  raised_link next link found =
      up_then old now next (raising targets sets n i) (λ table q. n * naming (link ∷ []) table q) (raising targets sets n (i + 1))
      (λ table q. ap (λ m. n * m) (set_links_more targets sets i d l (Some link) found table q) ∙ mul-add n (naming (set_links targets (take i sets)) table q) (naming (link ∷ []) table q)) so_far

-- ---- links that go one by one

module _ (links : List Link) where
  abbrev pub lowering : ℕ → ℕ → TupleRef → ℕ
  lowering i = naming (map linked_of (take i links))

  lowering_more : (i : ℕ) (d : Link) → i < length links → (table : ℕ) (q : TupleRef) → lowering (i + 1) table q ≡ lowering i table q + naming (linked_of (get_or links i d) ∷ []) table q
  lowering_more i d l table q =
      ap (λ ls. naming (map linked_of ls) table q) (take_more links i d l)
      ∙ ap (λ ls. naming ls table q) (map-append linked_of (take i links) (get_or links i d ∷ []))
      ∙ naming-append (map linked_of (take i links)) (linked_of (get_or links i d) ∷ []) table q

  lowering_within : (i table : ℕ) (q : TupleRef) → lowering i table q ≤ naming (map linked_of links) table q
  lowering_within i table q =
      let whole : naming (map linked_of (take i links ++ drop i links)) table q ≡ naming (map linked_of links) table q = ap (λ ls. naming (map linked_of ls) table q) (take-append-drop i links) in
      let parts = ap (λ ls. naming ls table q) (map-append linked_of (take i links) (drop i links)) ∙ naming-append (map linked_of (take i links)) (map linked_of (drop i links)) table q in
      omega (arith, whole, parts)

  module _ (old now : List RelationState) (i : ℕ) (d : Link) (l : i < length links) (so_far : AreCountedBy old now none (lowering i)) where
    -- the row that the next link names has a referrer
    pub enough_next : HaveAtLeast old (naming (map linked_of links)) → HaveAtLeast now (naming (linked_of (get_or links i d) ∷ []))
    enough_next =
        enough_left old now (lowering i) (naming (linked_of (get_or links i d) ∷ [])) (naming (map linked_of links)) so_far
        (λ table q. omega (arith, lowering_more i d l table q, lowering_within (i + 1) table q))

    pub lowered_next : (next : List RelationState) → AreCountedBy now next none (naming (linked_of (get_or links i d) ∷ [])) → AreCountedBy old next none (lowering (i + 1))
    lowered_next next = down_then old now next (lowering i) (naming (linked_of (get_or links i d) ∷ [])) (lowering (i + 1)) (lowering_more i d l) so_far

-- ---- what is left of cells that were moved

abbrev linked_by : List (Option ℕ) → ColumnNumber × Option TupleRef → Option Linked
linked_by targets named = option_and_then (λ table. option_map (λ to. (table, to)) named.1) (target_at targets named.0.0)

module _ (sets left : List CellSet) (same : map link_set left ≡ map link_set sets) where
  pub links_left : (targets : List (Option ℕ)) → set_links targets left ≡ set_links targets sets
  unfolding set_links
  links_left targets =
      sym (filter_map-map (linked_by targets) link_set left) ∙ ap (filter_map (linked_by targets)) same ∙ filter_map-map (linked_by targets) link_set sets

  pub as_many_left : length left ≡ length sets
  as_many_left = sym (length-map left link_set) ∙ ap length same ∙ length-map sets link_set

  pub columns_left : (n : ℕ) → All (λ (s : CellSet). s.0.0 < n) sets → All (λ (s : CellSet). s.0.0 < n) left
  columns_left n all =
      All-from_map (λ (named : ColumnNumber × Option TupleRef). named.0.0 < n) link_set left
      (subst (All (λ (named : ColumnNumber × Option TupleRef). named.0.0 < n)) (sym same) (All-map (λ (named : ColumnNumber × Option TupleRef). named.0.0 < n) link_set sets all))
