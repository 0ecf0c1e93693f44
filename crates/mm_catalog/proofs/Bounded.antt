-- How many links there can be.
use Rattle.std.proofs.Common.{◌≡◌, ℕ, suc, ◌*◌, ◌≤◌, List, [], ◌∷◌, Option, Some, None, arith, length, length-append, get_or}
use Rattle.std.specs.List.{All, slice_get, flat_map, range_with_len}
use Rattle.std.specs.Option.{option_map_or}
use Rattle.std.specs.FinMap as finite
use Rattle.std.proofs.lemmas.List.FromFn.{length-range_with_len}
use Rattle.std.proofs.lemmas.List.Sums.{count_by-le-length}
use Rattle.std.proofs.lemmas.Option.{slice_get_within, slice_get-get_or}
use Rattle.common_lemmas.proofs.Places.{slice_get-inside}
use Rattle.common_lemmas.proofs.Elements.{All-at}
use Rattle.common_lemmas.proofs.Maps.{length-filter_map_within}
use Rattle.part_raw.specs.declared.tuple_ref.TupleRef.{TupleRef}
use Rattle.plain_tables.specs.References.{IsSoundTable}
use Rattle.mm_relation.specs.Rows.{Row}
use Rattle.mm_relation.specs.State.{tree_list, RelationState}
use Rattle.mm_catalog.specs.State.{CatalogState}
use Rattle.mm_catalog.specs.Seen.{database_of, table_of}
use Rattle.mm_catalog.specs.Linked.{link_at, row_links, relation_links, links, links_to, is_link_to}
use Rattle.mm_catalog.specs.Consistent.{IsConsistent}
use Rattle.mm_catalog.proofs.Tables.{database-get, database-length}
use Rattle.mm_catalog.proofs.Among.{among_at}

length-flat_map : {A B : Type 0} (f : A → List B) (most : ℕ) (xs : List A) → All (λ x. length (f x) ≤ most) xs → length (flat_map f xs) ≤ length xs * most
length-flat_map f most [] few = omega arith
length-flat_map f most (x ∷ xs) few =
    let rest = length-flat_map f most xs (λ k d l. few (suc k) d (omega arith)) in
    omega (arith, rest, few 0 x (omega arith), length-append (f x) (flat_map f xs))

pub length-row_links : (targets : List (Option ℕ)) (row : Row) → length (row_links targets row) ≤ length targets
unfolding row_links
length-row_links targets row =
    omega (arith, length-filter_map_within (link_at targets row) (range_with_len 0 (length targets)), length-range_with_len 0 (length targets))

module _ (c : CatalogState) (ok : IsConsistent c) where
  -- a table has at most 16 columns
  pub few_columns : (n : ℕ) (s : RelationState) → slice_get c.relations n ≡ Some s → length s.targets ≤ 16
  unfolding table_of
  few_columns n s there =
      let name = slice_get-inside c.names n (omega (arith, ok.named, slice_get_within c.relations n s there)) in
      let sound : IsSoundTable c.limits (table_of c.relations name.0 s) = All-at (IsSoundTable c.limits) (database_of c) n (table_of c.relations name.0 s) ok.sound.each (database-get c ok.named n name.0 s name.1 there) in
      omega (arith, sound.few_columns, (among_at c ok n s there).kept.width)

  few_of_relation : (n : ℕ) (s : RelationState) → slice_get c.relations n ≡ Some s → length (relation_links s) ≤ 268435456
  unfolding relation_links
  few_of_relation n s there =
      let kept = (among_at c ok n s there).kept in
      let each : (o : Option Row) → length (option_map_or (row_links s.targets) o []) ≤ 16 = at_most s (few_columns n s there) in
      let all = length-flat_map (λ r. option_map_or (row_links s.targets) (finite.get s.rows r) []) 16 (tree_list s.by_key) (λ k d l. each (finite.get s.rows (get_or (tree_list s.by_key) k d))) in
      omega (arith, all, kept.keyed.lists.count, kept.few)
    where
      at_most : (s : RelationState) → length s.targets ≤ 16 → (o : Option Row) → length (option_map_or (row_links s.targets) o []) ≤ 16
      at_most s few None = omega arith
      at_most s few (Some row) = omega (arith, few, length-row_links s.targets row)

  -- no row is named by more links than there can be
  pub few_links : (table : ℕ) (r : TupleRef) → links_to c.relations table r ≤ 17179869184
  unfolding links links_to
  few_links table r =
      let all = length-flat_map relation_links 268435456 c.relations (λ k d l. few_of_relation k (get_or c.relations k d) (slice_get-get_or c.relations k d l)) in
      let counted = count_by-le-length (is_link_to table r) (flat_map relation_links c.relations) in
      omega (arith, all, counted, ok.sound.few, database-length c ok.named)
