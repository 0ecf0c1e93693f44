-- A relation without rows: it has no links, and it is current whatever links lead to.
use Rattle.std.proofs.Common.{◌≡◌, [], refl, sym, ap, ◌∙◌}
use Rattle.std.specs.FinMap as finite
use Rattle.std.specs.FinMap.{get-empty, len-empty}
use Rattle.std.proofs.lemmas.List.{nil_from_length}
use Rattle.std.proofs.lemmas.Option.{none-some}
use Rattle.part_raw.specs.TupleRefs.{ref_cmp}
use Rattle.mm_relation.specs.Agreement.{stays_current}
use Rattle.mm_relation.specs.Reading.{Keys}
use Rattle.mm_relation.specs.Rows.{Row}
use Rattle.mm_relation.specs.State.{IsCurrent, IsKept, RelationState, tree_list}
use Rattle.mm_catalog.specs.Linked.{relation_links}

module _ (s : RelationState) (empty : s.rows ≡ finite.empty) where
  pub no_links : IsKept s → relation_links s ≡ []
  unfolding relation_links
  no_links kept =
      let listed : tree_list s.by_key ≡ [] = nil_from_length (tree_list s.by_key) (kept.keyed.lists.count ∙ ap finite.len empty ∙ len-empty ref_cmp Row) in
      rw listed refl

  pub current_anywhere : (keys others : Keys) → IsCurrent keys s → IsCurrent others s
  current_anywhere keys others current =
      stays_current keys others s (λ column to held. absurd (none-some held.1 (sym (ap (λ rows. finite.get rows held.0) empty ∙ get-empty ref_cmp held.0) ∙ held.3))) current
