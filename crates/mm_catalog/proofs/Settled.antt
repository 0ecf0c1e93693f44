-- A catalog of which all hidden rows are dropped is otherwise as it was.
use Rattle.std.proofs.Common.{◌≡◌, ℕ, List, Some, refl, sym, ap, ◌∙◌, subst, arith, map}
use Rattle.std.specs.List.{slice_get}
use Rattle.std.specs.FinMap as finite
use Rattle.std.proofs.lemmas.List.{length-map}
use Rattle.std.specs.Option.{option_map}
use Rattle.std.proofs.lemmas.Option.{same_Some, slice_get-map, slice_get_within}
use Rattle.common_lemmas.proofs.Places.{slice_get-inside}
use Rattle.plain_tables.specs.References.{IsSound}
use Rattle.mm_relation.specs.State.{RelationState, IsCurrent, IsKept, linked_keys}
use Rattle.mm_catalog.specs.State.{CatalogState}
use Rattle.mm_catalog.specs.Seen.{database_of, plain_index, table_of}
use Rattle.mm_catalog.specs.Consistent.{IsConsistent}
use Rattle.mm_catalog.specs.Settled.{settled_catalog, settled_relation}
use Rattle.mm_catalog.proofs.Alike.{AreAlike, IsAlike, consistent_alike, table_alike}
use Rattle.mm_catalog.proofs.Among.{among_at}
use Rattle.mm_catalog.proofs.Lists.{map-zip-all}
use Rattle.mm_catalog.proofs.Owing.{current_aside, kept_aside}

module _ (c : CatalogState) (ok : IsConsistent c) where
  abbrev all : List RelationState
  all = map settled_relation c.relations

  -- each relation is that of the number before, settled
  settled_at : (k : ℕ) (s t : RelationState) → slice_get c.relations k ≡ Some s → slice_get all k ≡ Some t → t ≡ settled_relation s
  settled_at k s t was now = same_Some t (settled_relation s) (sym now ∙ slice_get-map settled_relation c.relations k ∙ ap (option_map settled_relation) was)

  alike_settled : (s : RelationState) → IsAlike s (settled_relation s)
  alike_settled s = record { schema = refl; outline = refl; referrers = refl; counted = λ counted. counted }

  alike : AreAlike c.relations all
  alike = record {
    count = length-map c.relations settled_relation;
    each = λ k s t was now. subst (IsAlike s) (sym (settled_at k s t was now)) (alike_settled s);
  }

  pub database_settled : database_of (settled_catalog c) ≡ database_of c
  unfolding database_of table_of
  database_settled =
      map-zip-all (λ (x : List ℕ × RelationState). table_of c.relations x.0 x.1) (λ (x : List ℕ × RelationState). table_of all x.0 x.1) c.names c.relations all alike.count
      (λ k name s t named was now. table_alike c ok all alike k name s t was now ∙ ap (λ (u : RelationState). record (table_of c.relations name s) { indexes = map plain_index u.declared }) (settled_at k s t was now))

  kept_settled : (k : ℕ) (t : RelationState) → slice_get all k ≡ Some t → IsKept t × IsCurrent (linked_keys t.targets c.relations) t
  kept_settled k t now =
      let s = slice_get-inside c.relations k (omega (arith, alike.count, slice_get_within all k t now)) in
      let among = among_at c ok k s.0 s.1 in
      subst (λ (u : RelationState). IsKept u × IsCurrent (linked_keys u.targets c.relations) u) (sym (settled_at k s.0 t s.1 now))
      (kept_aside s.0 finite.empty 0 among.kept, current_aside (linked_keys s.0.targets c.relations) s.0 finite.empty 0 among.current)

  pub consistent_settled : IsConsistent (settled_catalog c)
  consistent_settled = consistent_alike c ok all alike kept_settled (subst (IsSound c.limits) (sym database_settled) ok.sound)
