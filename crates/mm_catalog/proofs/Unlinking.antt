-- All links of a relation's rows go, row after row.
use Rattle.std.proofs.Common.{◌≡◌, ℕ, ◌+◌, List, [], ◌∷◌, ◌++◌, Some, IsSome, refl, sym, ap, ◌∙◌, subst, arith, append-nil}
use Rattle.std.specs.List.{Contains, flat_map}
use Rattle.std.specs.Option.{option_map_or}
use Rattle.std.specs.FinMap as finite
use Rattle.std.proofs.lemmas.Grind.{flat_map-append}
use Rattle.std.proofs.lemmas.List.Elements.{All-contains, Contains-append_right}
use Rattle.part_raw.proofs.Tuples.{held_tuple}
use Rattle.part_raw.specs.declared.tuple_ref.TupleRef.{TupleRef}
use Rattle.mm_relation.specs.Rows.{Row}
use Rattle.mm_relation.specs.State.{tree_list, RelationState, IsKept}
use Rattle.mm_catalog.specs.Linked.{Linked, row_links, relation_links}
use Rattle.mm_catalog.specs.Counted as counted
use Rattle.mm_catalog.specs.Counted.{HaveAtLeast, AreCountedBy, none}
use Rattle.mm_catalog.proofs.Counted.{naming-append, down_then, counted_as, enough_left}

module _ (s : RelationState) where
  abbrev links_of : TupleRef → List Linked
  links_of q = option_map_or (row_links s.targets) (finite.get s.rows q) []

  -- how many links of these rows name a row
  abbrev pub naming : List TupleRef → ℕ → TupleRef → ℕ
  naming qs = counted.naming (flat_map links_of qs)

  naming_rows : (qs rest : List TupleRef) (table : ℕ) (r : TupleRef) → naming (qs ++ rest) table r ≡ naming qs table r + naming rest table r
  naming_rows qs rest table r = ap (λ ls. counted.naming ls table r) (flat_map-append links_of qs rest) ∙ naming-append (flat_map links_of qs) (flat_map links_of rest) table r

  naming_first : (q : TupleRef) (row : Row) (rest : List TupleRef) → finite.get s.rows q ≡ Some row → (table : ℕ) (r : TupleRef) → naming (q ∷ rest) table r ≡ counted.naming (row_links s.targets row) table r + naming rest table r
  naming_first q row rest at table r =
      naming-append (links_of q) (flat_map links_of rest) table r
      ∙ ap (λ o. counted.naming (option_map_or (row_links s.targets) o []) table r + naming rest table r) at

  pub naming_all : (table : ℕ) (r : TupleRef) → naming (tree_list s.by_key) table r ≡ counted.naming (relation_links s) table r
  unfolding relation_links
  naming_all table r = refl

  -- each row that the key's tree lists is held
  pub listed_row : IsKept s → (qs rest : List TupleRef) (q : TupleRef) → (tree_list s.by_key) ≡ qs ++ q ∷ rest → (row : Row) × (finite.get s.rows q ≡ Some row)
  listed_row kept qs rest q split =
      let listed : Contains (tree_list s.by_key) q = subst (λ all. Contains all q) (sym split) (Contains-append_right qs (q ∷ rest) q (0, omega arith, refl)) in
      held_tuple s.rows q (All-contains (λ r. IsSome (finite.get s.rows r)) (tree_list s.by_key) q kept.keyed.lists.held listed)

  module _ (old : List RelationState) where
    pub unlinked_next : (mid new : List RelationState) (qs : List TupleRef) (q : TupleRef) (row : Row) → finite.get s.rows q ≡ Some row → AreCountedBy old mid none (naming qs) → AreCountedBy mid new none (counted.naming (row_links s.targets row)) → AreCountedBy old new none (naming (qs ++ q ∷ []))
    unlinked_next mid new qs q row at =
        down_then old mid new (naming qs) (counted.naming (row_links s.targets row)) (naming (qs ++ q ∷ []))
        (λ table r. omega (arith, naming_rows qs (q ∷ []) table r, naming_first q row [] at table r))

    -- the rows that the next one names have referrers enough
    pub enough_next : (mid : List RelationState) (qs rest : List TupleRef) (q : TupleRef) (row : Row) → finite.get s.rows q ≡ Some row → (tree_list s.by_key) ≡ qs ++ q ∷ rest → HaveAtLeast old (counted.naming (relation_links s)) → AreCountedBy old mid none (naming qs) → HaveAtLeast mid (counted.naming (row_links s.targets row))
    enough_next mid qs rest q row at split enough so_far =
        enough_left old mid (naming qs) (counted.naming (row_links s.targets row)) (counted.naming (relation_links s)) so_far
        (λ table r. let whole : naming (tree_list s.by_key) table r ≡ naming (qs ++ q ∷ rest) table r = ap (λ all. naming all table r) split in
        omega (arith, whole, naming_all table r, naming_rows qs (q ∷ rest) table r, naming_first q row rest at table r)) enough

    pub unlinked_whole : (new : List RelationState) (qs : List TupleRef) → (tree_list s.by_key) ≡ qs ++ [] → AreCountedBy old new none (naming qs) → AreCountedBy old new none (counted.naming (relation_links s))
    unlinked_whole new qs split =
        counted_as old new none (naming qs) none (counted.naming (relation_links s)) (λ table r. refl)
        (λ table r. ap (λ all. naming all table r) (sym (split ∙ append-nil qs)) ∙ naming_all table r)
