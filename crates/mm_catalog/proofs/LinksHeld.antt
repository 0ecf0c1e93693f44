-- The links of a catalog name rows that are held, and each is counted.
use Rattle.std.proofs.Common.{◌≡◌, ℕ, ◌-◌, ◌<◌, ◌==◌, true, false, cond, List, [], ◌∷◌, Option, Some, None, IsSome, is_some, refl, sym, ap, ◌∙◌, subst, arith, length, inl, inr}
use Rattle.std.specs.List.{Contains, cons_option, filter_map, flat_map, range_with_len, slice_get}
use Rattle.std.specs.Option.{option_and_then, option_map, option_map_or}
use Rattle.std.specs.FinMap.{get}
use Rattle.std.specs.Ordering.{is_eq}
use Rattle.std.proofs.lemmas.Bool.{and_from, eq-eqb, ne_eqb}
use Rattle.std.proofs.lemmas.List.FromFn.{length-range_with_len, get_or-range_with_len}
use Rattle.std.proofs.lemmas.Option.{none-some, same_Some, slice_get_within, get_or_from_slice_get, option_and_then_some}
use Rattle.std.proofs.lemmas.List.Elements.{Contains-append_left, Contains-append_right}
use Rattle.common_lemmas.proofs.Elements.{Contains-cons, Contains-cons_cases}
use Rattle.common_lemmas.proofs.Counts.{count_by-member}
use Rattle.common_lemmas.proofs.Options.{and_then-Some}
use Rattle.part_raw.proofs.Tuples.{same_ref_self}
use Rattle.part_raw.specs.TupleRefs.{ref_cmp}
use Rattle.part_raw.specs.declared.tuple_ref.TupleRef.{TupleRef}
use Rattle.mm_relation.specs.declared.row.Cell.TheVariants.{Held, Link}
use Rattle.mm_relation.specs.declared.row.Cell.{Cell}
use Rattle.mm_relation.specs.Rows.{Row}
use Rattle.mm_relation.specs.Reading.{Keys, cell_value, key_at, link_in, link_of, row_value}
use Rattle.mm_relation.specs.State.{tree_list, RelationState, IsKept, linked_keys}
use Rattle.mm_catalog.specs.State.{CatalogState}
use Rattle.mm_catalog.specs.Linked.{Linked, target_at, link_at, row_links, relation_links, links, is_link_to, links_to}
use Rattle.mm_catalog.specs.Consistent.{IsConsistent}
use Rattle.mm_catalog.proofs.Among.{among_at}

-- ---- what lists contain

pub Contains-flat_map : {A B : Type 0} (f : A → List B) (xs : List A) (x : A) (y : B) → Contains xs x → Contains (f x) y → Contains (flat_map f xs) y
Contains-flat_map f [] x y h g = absurd (omega (arith, h.1))
Contains-flat_map f (z ∷ xs) x y h g = elim (Contains-cons_cases z xs x h) [
  | inl e ↦ Contains-append_left (f z) (flat_map f xs) y (subst (λ w. Contains (f w) y) e g)
  | inr behind ↦ Contains-append_right (f z) (flat_map f xs) y (Contains-flat_map f xs x y behind g)
]

pub Contains-filter_map : {A B : Type 0} (f : A → Option B) (xs : List A) (x : A) (y : B) → Contains xs x → f x ≡ Some y → Contains (filter_map f xs) y
Contains-filter_map f [] x y h e = absurd (omega (arith, h.1))
Contains-filter_map {A} {B} f (z ∷ xs) x y h e = elim (Contains-cons_cases z xs x h) [
  | inl same ↦ subst (λ (o : Option B). Contains (cons_option o (filter_map f xs)) y) (sym e ∙ ap f same) (0, omega arith, refl)
  | inr behind ↦
      let rest : Contains (filter_map f xs) y = Contains-filter_map f xs x y behind e in
      elim (f z) as (λ o. Contains (cons_option o (filter_map f xs)) y) [
        | None ↦ rest
        | Some w ↦ Contains-cons w (filter_map f xs) y rest
      ]
]

pub Contains-range : (n k : ℕ) → k < n → Contains (range_with_len 0 n) k
Contains-range n k l =
    let at = get_or-range_with_len 0 n k k l in
    (k, omega (arith, l, length-range_with_len 0 n), omega (arith, at))

pub Contains-at : {A : Type 0} (xs : List A) (k : ℕ) (x : A) → slice_get xs k ≡ Some x → Contains xs x
Contains-at xs k x at = (k, slice_get_within xs k x at, get_or_from_slice_get xs k x x at)

-- ---- the links of rows

-- a column that has a target is one of the columns
pub target_within : (targets : List (Option ℕ)) (column table : ℕ) → target_at targets column ≡ Some table → column < length targets
target_within targets column table e =
    option_and_then_some (λ (t : Option ℕ). t) (slice_get targets column) table e (λ t at f. slice_get_within targets column t at)

-- a cell behind the key that links
pub link_there : (column : ℕ) (row : Row) (to : TupleRef) → 0 < column → slice_get row.cells (column - 1) ≡ Some (Link to) → link_in column row ≡ Some to
link_there column row to behind at =
    let not_key : (column == 0) ≡ false = ne_eqb column 0 (λ e. absurd (omega (arith, behind, e))) in
    ap (λ b. cond b None (option_and_then link_of (slice_get row.cells (column - 1)))) not_key ∙ ap (option_and_then link_of) at

-- a column with a link is read through it
pub linked_value : (keys : Keys) (column : ℕ) (row : Row) (to : TupleRef) → link_in column row ≡ Some to → row_value keys column row ≡ keys column to
linked_value keys column row to =
    elim (column == 0) as (λ b. cond b None (option_and_then link_of (slice_get row.cells (column - 1))) ≡ Some to → cond b (Some row.key) (option_and_then (cell_value keys column) (slice_get row.cells (column - 1))) ≡ keys column to) [
      | true ↦ λ e. absurd (none-some to e)
      | false ↦ through (slice_get row.cells (column - 1))
    ]
  where
    through : (o : Option Cell) → option_and_then link_of o ≡ Some to → option_and_then (cell_value keys column) o ≡ keys column to
    through None e = absurd (none-some to e)
    through (Some (Held value)) e = absurd (none-some to e)
    through (Some (Link other)) e = ap (keys column) (same_Some other to e)

pub row_has_link : (targets : List (Option ℕ)) (row : Row) (column table : ℕ) (to : TupleRef) → target_at targets column ≡ Some table → link_in column row ≡ Some to → Contains (row_links targets row) (table, to)
unfolding row_links
row_has_link targets row column table to e f =
    Contains-filter_map (link_at targets row) (range_with_len 0 (length targets)) column (table, to) (Contains-range (length targets) column (target_within targets column table e))
    (ap (option_and_then (λ (t : ℕ). option_map (λ (to : TupleRef). (t, to)) (link_in column row))) e ∙ ap (option_map (λ (to : TupleRef). (table, to))) f)

pub relation_has_link : (s : RelationState) → IsKept s → (r : TupleRef) (row : Row) (link : Linked) → get s.rows r ≡ Some row → Contains (row_links s.targets row) link → Contains (relation_links s) link
unfolding relation_links
relation_has_link s kept r row link at h =
    Contains-flat_map (λ q. option_map_or (row_links s.targets) (get s.rows q) []) (tree_list s.by_key) r link (kept.keyed.lists.listed r (ap is_some at))
    (subst (λ o. Contains (option_map_or (row_links s.targets) o []) link) (sym at) h)

pub catalog_has_link : (relations : List RelationState) (k : ℕ) (s : RelationState) (link : Linked) → slice_get relations k ≡ Some s → Contains (relation_links s) link → Contains (links relations) link
unfolding links
catalog_has_link relations k s link at h = Contains-flat_map relation_links relations s link (Contains-at relations k s at) h

is_link_itself : (table : ℕ) (to : TupleRef) → is_link_to table to (table, to) ≡ true
is_link_itself table to = and_from (table == table) (is_eq (ref_cmp to to)) (eq-eqb table table refl) (same_ref_self to)

-- ---- those of a consistent catalog

-- where a key is read there is a row
key_of_row : (found : Option RelationState) (to : TupleRef) → IsSome (option_and_then (λ (s : RelationState). key_at s.rows to) found) → (u : RelationState) × (named : Row) × (found ≡ Some u) × (get u.rows to ≡ Some named)
key_of_row found to h =
    let u = and_then-Some (λ (s : RelationState). key_at s.rows to) found h in
    let row = and_then-Some (λ (t : Row). Some t.key) (get u.0.rows to) (subst (λ o. IsSome (option_and_then (λ (s : RelationState). key_at s.rows to) o)) u.1 h) in
    (u.0, row.0, u.1, row.1)

module _ (c : CatalogState) (ok : IsConsistent c) where
  pub link_held : (k : ℕ) (s : RelationState) (r : TupleRef) (row : Row) (column table : ℕ) (to : TupleRef) → slice_get c.relations k ≡ Some s → get s.rows r ≡ Some row → target_at s.targets column ≡ Some table → link_in column row ≡ Some to → (u : RelationState) × (named : Row) × (slice_get c.relations table ≡ Some u) × (get u.rows to ≡ Some named)
  link_held k s r row column table to at held target link =
      let keys = linked_keys s.targets c.relations in
      let read : IsSome (row_value keys column row) = (among_at c ok k s at).current.readable r row held column (target_within s.targets column table target) in
      let key : row_value keys column row ≡ option_and_then (λ (u : RelationState). key_at u.rows to) (slice_get c.relations table) =
      linked_value keys column row to link ∙ ap (λ o. option_and_then (λ (u : RelationState). key_at u.rows to) (option_and_then (slice_get c.relations) o)) target in
      key_of_row (slice_get c.relations table) to (subst IsSome key read)

  pub link_counted : (k : ℕ) (s : RelationState) (r : TupleRef) (row : Row) (column table : ℕ) (to : TupleRef) → slice_get c.relations k ≡ Some s → get s.rows r ≡ Some row → target_at s.targets column ≡ Some table → link_in column row ≡ Some to → 0 < links_to c.relations table to
  unfolding links_to
  link_counted k s r row column table to at held target link =
      count_by-member (is_link_to table to) (links c.relations) (table, to)
      (catalog_has_link c.relations k s (table, to) at
      (relation_has_link s (among_at c ok k s at).kept r row (table, to) held (row_has_link s.targets row column table to target link)))
      (is_link_itself table to)
