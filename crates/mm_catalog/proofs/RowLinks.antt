-- What holds of each link of a row, and of each of rows.
use Rattle.std.proofs.Common.{◌≡◌, ℕ, suc, List, [], ◌∷◌, Option, Some, None, refl, ap, arith, get_or, length}
use Rattle.std.specs.List.{All, Contains, cons_option, filter_map, range_with_len}
use Rattle.std.specs.Option.{option_and_then, option_map, option_map_or}
use Rattle.std.proofs.lemmas.List.Elements.{All-cons, All-nil}
use Rattle.std.proofs.lemmas.Option.{none-some, same_Some}
use Rattle.std.specs.FinMap.{get}
use Rattle.part_raw.specs.declared.tuple_ref.TupleRef.{TupleRef}
use Rattle.mm_relation.specs.Rows.{Row}
use Rattle.mm_relation.specs.Reading.{link_in}
use Rattle.mm_relation.specs.State.{RelationState, tree_list}
use Rattle.mm_catalog.specs.Linked.{Linked, link_at, target_at, relation_links, row_links}
use Rattle.common_lemmas.proofs.Elements.{All-flat_map}

pub All-filter_map : {A B : Type 0} (P : B → Type 0) (f : A → Option B) (xs : List A) → ((x : A) (y : B) → Contains xs x → f x ≡ Some y → P y) → All P (filter_map f xs)
All-filter_map P f [] h = All-nil P
All-filter_map {A} {B} P f (x ∷ xs) h =
    let rest = All-filter_map P f xs (λ z y there. h z y (suc there.0, omega (arith, there.1), there.2)) in
    first (f x) (λ y. h x y (0, omega arith, refl)) rest
  where
    first : (o : Option B) → ((y : B) → o ≡ Some y → P y) → All P (filter_map f xs) → All P (cons_option o (filter_map f xs))
    first None g rest = rest
    first (Some y) g rest = All-cons P y (filter_map f xs) (g y refl) rest

-- the link in a column, by where it leads and the row that it names
pub link_parts : (targets : List (Option ℕ)) (row : Row) (column : ℕ) (link : Linked) → link_at targets row column ≡ Some link → (target_at targets column ≡ Some link.0) × (link_in column row ≡ Some link.1)
link_parts targets row column link e = parts (target_at targets column) (link_in column row) link e
  where
    parts : (o : Option ℕ) (p : Option TupleRef) (link : Linked) → option_and_then (λ table. option_map (λ to. (table, to)) p) o ≡ Some link → (o ≡ Some link.0) × (p ≡ Some link.1)
    parts None p link e = absurd (none-some link e)
    parts (Some table) None link e = absurd (none-some link e)
    parts (Some table) (Some to) link e =
        let same : (table, to) ≡ link = same_Some (table, to) link e in
        (ap (λ (l : Linked). Some l.0) same, ap (λ (l : Linked). Some l.1) same)

-- what holds of each link of each row of a relation
pub each_link : (P : Linked → Type 0) (s : RelationState) → ((q : TupleRef) (row : Row) (column : ℕ) (link : Linked) → get s.rows q ≡ Some row → link_at s.targets row column ≡ Some link → P link) → All P (relation_links s)
unfolding relation_links row_links
each_link P s each =
    All-flat_map P (λ q. option_map_or (row_links s.targets) (get s.rows q) []) (tree_list s.by_key)
    (λ k d l. of_row (get_or (tree_list s.by_key) k d) (get s.rows (get_or (tree_list s.by_key) k d)) refl)
  where
    of_row : (q : TupleRef) (o : Option Row) → get s.rows q ≡ o → All P (option_map_or (row_links s.targets) o [])
    of_row q None e = All-nil P
    of_row q (Some row) e = All-filter_map P (link_at s.targets row) (range_with_len 0 (length s.targets)) (λ column link _. each q row column link e)
