use Rattle.std.proofs.Common.{◌≡◌, ◌+◌, ◌-◌, ◌<◌, ℕ, List, [], ◌∷◌, ◌++◌, get_or, sym, ap, ◌∙◌, subst, arith, drop, length, length-append, map}
use Rattle.std.specs.Option.{option_map, option_to_list}
use Rattle.std.specs.String.{string_bytes}
use Rattle.std.proofs.lemmas.List.{length-map, map-append}
use Rattle.std.proofs.lemmas.Option.{slice_get-get_or, slice_get-map, slice_get_within}
use Rattle.common_lemmas.proofs.Elements.{All-from_map}
use Rattle.common_lemmas.proofs.Options.{is_some-Some}
use Rattle.plain_tables.specs.declared.numbers.TableNumber.{TableNumber}
use Rattle.mm_relation.specs.State.{RelationState}
use Rattle.mm_catalog.specs.Consistent.{IsConsistent}
use Rattle.mm_catalog.specs.Created.{without_counts}
use Rattle.mm_catalog.specs.Declarations.{AreBeforeLast, EndsInEmpty, uncounted, without_last}
use Rattle.mm_catalog.specs.Outline.{IsOutline, Outline, changed_each, outline_of, relation_outline}
use Rattle.mm_catalog.specs.State.{CatalogState}
use Rattle.mm_catalog.proofs.LastTable.{consistent_less, outline_less}
use Rattle.mm_catalog.proofs.Lists.{whole}
use Rattle.mm_catalog.proofs.Uncounting.{consistent_silent, counting_again, no_referrers, outline_silent, silent}
use Rattle.mm_catalog.proofs.catalog.Catalog.take_back_table.Goals as goal
use Rattle.mm_catalog.proofs.catalog.Catalog.take_back_table.Goals.{After-pop-2}

abbrev seen : After-pop-2 → CatalogState
seen c = record { limits = c.self.inside.limits; names = map string_bytes c.self.inside.names.keys; relations = c.self.inside.relations.items }

abbrev left : After-pop-2 → CatalogState
left c = record (seen c) { names = map string_bytes c.pop-2.new.self.keys; relations = c.pop.new.self.items }

abbrev gained : After-pop-2 → List ℕ
gained c = map (λ (n : TableNumber). n.0) c.args.gained.now

-- what the outline of what is left becomes
abbrev silenced : After-pop-2 → Outline
silenced c = record (outline_of (left c)) { relations = changed_each uncounted (gained c) (map relation_outline (left c).relations) }

-- the last table is gone, and the catalog is consistent
taken : (c : After-pop-2) → IsConsistent (left c) × IsOutline (silenced c) × (without_last (gained c) (outline_of (seen c)) ≡ silenced c) × (length (seen c).relations ≡ length (left c).relations + 1)
taken c =
    let s = seen c in
    let empty : EndsInEmpty (outline_of s) = rw (← c.self.view_is) at c.requires.empty in
    let stands : IsOutline (without_last (gained c) (outline_of s)) = rw (← c.self.view_is) at c.requires.stands in
    let some : 0 < length s.relations =
    omega (arith, slice_get_within (map relation_outline s.relations) (length (map relation_outline s.relations) - 1) empty.last empty.there, length-map s.relations relation_outline) in
    let relation = is_some-Some c.pop.result (c.pop.ensures.variant.1 (omega (arith, some, c.self.inside.relations.ok.0))) in
    let name = is_some-Some c.pop-2.result (c.pop-2.ensures.found.1 (omega (arith, some, c.self.invariant.named, length-map c.self.inside.names.keys string_bytes))) in
    let list : s.relations ≡ (left c).relations ++ relation.0 ∷ [] = c.pop.ensures.items ∙ ap (λ o. (left c).relations ++ option_to_list o) relation.1 in
    let called : s.names ≡ (left c).names ++ string_bytes name.0 ∷ [] =
    ap (map string_bytes) (c.pop-2.ensures.keys ∙ ap (λ o. c.pop-2.new.self.keys ++ option_to_list o) name.1) ∙ map-append string_bytes c.pop-2.new.self.keys (name.0 ∷ []) in
    let outline = outline_less s (left c).names (string_bytes name.0) (left c).relations relation.0 called list (gained c) in
    let quiet : IsOutline (silenced c) = subst IsOutline outline stands in (
      consistent_less s (left c).names (string_bytes name.0) (left c).relations relation.0 called list c.self.invariant empty (counting_again (gained c) (outline_of (left c)) quiet),
      quiet,
      outline,
      ap length list ∙ length-append (left c).relations (relation.0 ∷ []),
    )

pub forget_each-requires : goal.forget_each-requires
forget_each-requires c =
    let at = (goal.at.forget_each-requires c).After-pop-2 in
    let these = c.args.gained.now in
    let all = taken at in
    let before : AreBeforeLast (gained at) (outline_of (seen at)) = rw (← c.self.view_is) at c.requires.before_last in
    rw c.as_mut_slice.ensures.value (record {
      within = λ k d l. omega (arith, All-from_map (λ n. n + 1 < length (map relation_outline (seen at).relations)) (λ (n : TableNumber). n.0) these before k d l, length-map (seen at).relations relation_outline, all.3);
      none = λ k d l s there.
          let listed = slice_get-map (λ (n : TableNumber). n.0) these k ∙ ap (option_map (λ (n : TableNumber). n.0)) (slice_get-get_or these k d l) in
          no_referrers (left at) all.0 (gained at) all.1 k (get_or these k d).0 s listed there;
    })

-- and the tables count no links any longer
forgot : (c : After-pop-2) (now : List RelationState) → now ≡ changed_each without_counts (gained c) (left c).relations
    → IsConsistent (record (left c) { relations = now }) × (outline_of (record (left c) { relations = now }) ≡ without_last (gained c) (outline_of (seen c)))
forgot c now is =
    let all = taken c in
    let same : record (left c) { relations = now } ≡ silent (left c) all.0 (gained c) all.1 = ap (λ (rs : List RelationState). record (left c) { relations = rs }) is in (
      subst IsConsistent (sym same) (consistent_silent (left c) all.0 (gained c) all.1),
      ap outline_of same ∙ outline_silent (left c) all.0 (gained c) all.1 ∙ sym all.2,
    )

pub invariant_of-self : goal.invariant_of-self
invariant_of-self c =
    let at = (goal.at.invariant_of-self c).After-pop-2 in
    let back = whole c.forget_each.new.relations (drop (length c.forget_each.new.relations) c.pop.new.self.items) c.pop.new.self.len (omega (arith, c.forget_each.auto.relations, ap length c.as_mut_slice.ensures.value, c.pop.new.self.ok.0)) in
    (forgot at _ (back ∙ c.forget_each.ensures ∙ ap (changed_each without_counts (gained at)) c.as_mut_slice.ensures.value)).0

pub returns : goal.returns
returns c =
    let at = (goal.at.returns c).After-pop-2 in
    let back = whole c.forget_each.new.relations (drop (length c.forget_each.new.relations) c.pop.new.self.items) c.pop.new.self.len (omega (arith, c.forget_each.auto.relations, ap length c.as_mut_slice.ensures.value, c.pop.new.self.ok.0)) in
    rw (← c.self.view_is) (forgot at _ (back ∙ c.forget_each.ensures ∙ ap (changed_each without_counts (gained at)) c.as_mut_slice.ensures.value)).1
