-- How a relation of a catalog stands beside those before it.
use Rattle.std.proofs.Common.{ℕ, ◌<◌, ◌≤◌, ◌⊎◌, Some, ◌≡◌, sym, ◌∙◌, arith, length, take, length-take, inl, inr}
use Rattle.std.specs.List.{slice_get}
use Rattle.std.proofs.lemmas.Bool.{cases_lt}
use Rattle.std.proofs.lemmas.List.Elements.{All-take}
use Rattle.std.proofs.lemmas.Option.{slice_get_within}
use Rattle.mm_relation.specs.State.{RelationState, IsKept}
use Rattle.mm_catalog.specs.State.{CatalogState}
use Rattle.mm_catalog.specs.Consistent.{IsConsistent}
use Rattle.mm_catalog.specs.Counted.{HaveRoom, HaveAtLeast, naming}
use Rattle.mm_catalog.specs.Linked.{is_link_to, links_to, relation_links}
use Rattle.mm_catalog.specs.Standing.{Stands}
use Rattle.mm_catalog.proofs.Back.{lead_back}
use Rattle.mm_catalog.proofs.Bounded.{few_links, few_columns}
use Rattle.mm_catalog.proofs.Among.{among_at, current_at}
use Rattle.mm_catalog.proofs.Lists.{get-take}
use Rattle.mm_catalog.proofs.Removing.{links_within}

module _ (c : CatalogState) (ok : IsConsistent c) where
  -- numbers of referrers are far below their limit
  room_for_links : (n : ℕ) (s : RelationState) → slice_get c.relations n ≡ Some s → HaveRoom (take n c.relations) (length s.targets)
  room_for_links n s there table t r at held =
      elim (cases_under table) [
        | inl below ↦
            let counted = ok.counted table t r (sym (get-take c.relations n table below) ∙ at) held in
            omega (arith, counted, few_links c ok table r, few_columns c ok n s there)
        | inr above ↦ absurd (omega (arith, above, slice_get_within (take n c.relations) table t at, length-take n c.relations, slice_get_within c.relations n s there))
      ]
    where
      cases_under : (k : ℕ) → (k < n) ⊎ (n ≤ k)
      cases_under k = cases_lt k n

  -- each row has at least as many referrers as links of one relation name it
  enough_before : (n : ℕ) (s : RelationState) → slice_get c.relations n ≡ Some s → HaveAtLeast (take n c.relations) (naming (relation_links s))
  unfolding links_to
  enough_before n s there table t q at held =
      let below : table < n = omega (arith, slice_get_within (take n c.relations) table t at, length-take n c.relations) in
      let counted = ok.counted table t q (sym (get-take c.relations n table below) ∙ at) held in
      omega (arith, counted, links_within (is_link_to table q) c.relations n s there)

  pub stands_at : (n : ℕ) → Stands c.relations n
  stands_at n s there = record {
    kept = All-take IsKept n c.relations (λ i d l. (ok.each i d l).kept);
    back = λ column table e. omega (arith, lead_back c ok n s there column table e, slice_get_within c.relations n s there, length-take n c.relations);
    current = current_at c ok n s there;
    counted = λ column table t e at.
        let below : table < n = omega (arith, slice_get_within (take n c.relations) table t at, length-take n c.relations) in
        (among_at c ok n s there).counted column table t e (sym (get-take c.relations n table below) ∙ at);
    enough = enough_before n s there;
    room = room_for_links n s there;
  }
