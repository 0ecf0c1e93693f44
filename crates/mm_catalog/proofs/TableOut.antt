-- A table without rows that is taken out of a catalog whole.
use Rattle.std.proofs.Common.{◌≡◌, ℕ, zero, suc, ◌≤◌, List, [], ◌∷◌, Option, Some, None, refl, sym, ap, ◌∙◌, subst, arith, length, map, take, drop, get_or, ◌+◌, ◌++◌}
use Rattle.std.specs.List.{insert, remove, slice_get}
use Rattle.std.specs.Option.{option_map}
use Rattle.std.specs.FinMap as finite
use Rattle.std.proofs.lemmas.List.{length-map, take-append-drop}
use Rattle.std.proofs.lemmas.List.Edits.{length-remove}
use Rattle.std.proofs.lemmas.List.Elements.{All-take}
use Rattle.std.proofs.lemmas.Option.{slice_get-get_or}
use Rattle.std.proofs.lemmas.Simd.{map-map}
use Rattle.indexmap.proofs.SetLemmas.{map-insert}
use Rattle.plain_tables.specs.ResolvedLaws.{IsMeant}
use Rattle.plain_tables.specs.declared.numbers.TableNumber.{TableNumber}
use Rattle.plain_tables.specs.declared.resolved.Resolved.TheVariants as resolved
use Rattle.mm_relation.specs.State.{IsKept, RelationState, linked_keys, no_keys}
use Rattle.mm_catalog.specs.State.{CatalogState}
use Rattle.mm_catalog.specs.Seen.{database_of}
use Rattle.mm_catalog.specs.Consistent.{IsAmong, IsConsistent}
use Rattle.mm_catalog.specs.Counted.{AreCountedBy, naming, none}
use Rattle.mm_catalog.specs.Dropped.{IsUnlinked, moved_down, moved_up, renumbered}
use Rattle.mm_catalog.specs.DroppedTables.{CanHaveTable, DroppedTableState, HasTableLess, outline_moved_down, with_table}
use Rattle.mm_catalog.specs.Outline.{RelationOutline, outline_of, relation_outline}
use Rattle.mm_catalog.proofs.Among.{among_at}
use Rattle.mm_catalog.proofs.Counted.{counted_none}
use Rattle.mm_catalog.proofs.Dropping.{IsDropped, all_kept, all_told, leads_elsewhere, table_dropped, within}
use Rattle.mm_catalog.proofs.Gone.{get-removed, insert-removed, moved_down-up}
use Rattle.mm_catalog.proofs.Lists.{map_agree_on}
use Rattle.mm_catalog.proofs.NoRows.{current_anywhere, no_links}
use Rattle.mm_catalog.proofs.Renumbered.{LeadElsewhere, less_one}

-- links that lead elsewhere lead where they led, once a table is gone and back
targets_again : (n : ℕ) (targets : List (Option ℕ)) → LeadElsewhere targets n → map (option_map (moved_down n)) (map (option_map (moved_up n)) targets) ≡ targets
targets_again n [] elsewhere = refl
targets_again n (None ∷ ts) elsewhere = ap (λ us. None ∷ us) (targets_again n ts (λ column. elsewhere (suc column)))
targets_again n (Some t ∷ ts) elsewhere =
    ap (λ m. Some m ∷ map (option_map (moved_down n)) (map (option_map (moved_up n)) ts)) (moved_down-up n t (elsewhere zero t refl))
    ∙ ap (λ us. Some t ∷ us) (targets_again n ts (λ column. elsewhere (suc column)))

module _ (c : CatalogState) (ok : IsConsistent c) (number : TableNumber) (meant : IsMeant c.limits (database_of c) (resolved.DropTable number)) (s : RelationState) (there : slice_get c.relations number.0 ≡ Some s) (empty : s.rows ≡ finite.empty) where
  abbrev n : ℕ
  n = number.0

  among : IsAmong c.names c.relations s
  among = among_at c ok n s there

  -- its rows have no links
  pub unlinked : IsUnlinked c.relations c.relations n
  unlinked = record {
    front = take n c.relations;
    relation = s;
    there = there;
    list = sym (take-append-drop n c.relations);
    counted = subst (λ links. AreCountedBy (take n c.relations) (take n c.relations) none (naming links)) (sym (no_links s empty among.kept))
        (counted_none (take n c.relations) (All-take IsKept n c.relations (all_kept c ok number meant)));
  }

  abbrev others : List RelationState
  others = remove c.relations n

  module _ (name : List ℕ) (called : slice_get c.names n ≡ Some name) (room : ℕ) (enough : length c.relations ≤ room) where
    abbrev d : DroppedTableState
    d = record { number = n; name = name; relation = s; places = room }

    abbrev left : CatalogState
    left = record c { names = remove c.names n; relations = less_one c.relations n }

    outline_again : (k : ℕ) (t : RelationState) → slice_get others k ≡ Some t → outline_moved_down n (relation_outline (renumbered (moved_up n) t)) ≡ relation_outline t
    outline_again k t at =
        ap (λ targets. record (relation_outline t) { targets = targets })
        (targets_again n t.targets (leads_elsewhere c ok number meant (moved_down n k) t (sym (get-removed c.relations n k) ∙ at)))

    outlines_again : map (outline_moved_down n) (map relation_outline (less_one c.relations n)) ≡ map relation_outline others
    outlines_again =
        map-map (outline_moved_down n) relation_outline (less_one c.relations n)
        ∙ map-map (λ (t : RelationState). outline_moved_down n (relation_outline t)) (renumbered (moved_up n)) others
        ∙ map_agree_on (λ t. outline_moved_down n (relation_outline (renumbered (moved_up n) t))) relation_outline others
        (λ k e l. outline_again k (get_or others k e) (slice_get-get_or others k e l))

    -- put back right away, the outline is as it was
    again : with_table d (outline_of left) ≡ outline_of c
    again =
        let names = insert-removed c.names n name called in
        let relations : insert (map (outline_moved_down n) (map relation_outline (less_one c.relations n))) n (relation_outline s) ≡ map relation_outline c.relations =
        ap (λ (os : List RelationOutline). insert os n (relation_outline s)) outlines_again
        ∙ sym (map-insert relation_outline others n s) ∙ ap (map relation_outline) (insert-removed c.relations n s there) in
        λ i. record { limits = c.limits; names = names i; relations = relations i }

    less_by_one : length (map relation_outline (less_one c.relations n)) + 1 ≡ length c.relations
    less_by_one =
        let below = within c ok number meant in
        omega (arith, below, length-map (less_one c.relations n) relation_outline, length-map others (renumbered (moved_up n)), length-remove c.relations n below)

    can : CanHaveTable (outline_of left) d
    can = record {
      place = omega (arith, within c ok number meant, less_by_one);
      places = omega (arith, enough, less_by_one);
      rows = empty;
      kept = among.kept;
      current = current_anywhere s empty (linked_keys s.targets c.relations) no_keys among.current;
    }

    -- it is dropped, and nothing else differs
    pub table_out : (names : List (List ℕ)) (relations : List RelationState) → names ≡ remove c.names n → relations ≡ take n others ++ map (renumbered (moved_up n)) (drop n others)
        → IsDropped c ok number meant c.relations unlinked (record c { names = names; relations = relations }) × HasTableLess (outline_of c) (outline_of (record c { names = names; relations = relations })) d
    table_out names relations less told = (
      table_dropped c ok number meant c.relations unlinked names relations less told,
      subst (λ new. HasTableLess (outline_of c) (outline_of new) d)
          (λ i. record c { names = sym less i; relations = sym (told ∙ all_told c ok number meant c.relations unlinked) i }) (record { can = can; others = again }),
    )
