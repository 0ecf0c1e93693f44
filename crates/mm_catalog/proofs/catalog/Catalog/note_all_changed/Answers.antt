use Rattle.std.proofs.Common.{List, arith, drop, length, map, sym, ap, ◌∙◌, subst}
use Rattle.std.specs.String.{string_bytes}
use Rattle.mm_relation.specs.State.{RelationState}
use Rattle.mm_catalog.specs.State.{CatalogState}
use Rattle.mm_catalog.specs.Consistent.{IsConsistent}
use Rattle.mm_catalog.proofs.Lists.{whole}
use Rattle.mm_catalog.proofs.catalog.Catalog.note_all_changed.Goals as goal

pub invariant_of-self : goal.invariant_of-self
invariant_of-self c =
    let s : CatalogState = record { limits = c.self.inside.limits; names = map string_bytes c.self.inside.names.keys; relations = c.self.inside.relations.items } in
    let back = whole c.stamp_each.new.relations (drop (length c.stamp_each.new.relations) c.self.inside.relations.items) c.self.inside.relations.len (omega (arith, c.stamp_each.auto.relations, ap length c.as_mut_slice.ensures.value, c.self.inside.relations.ok.0)) in
    subst (λ (rs : List RelationState). IsConsistent (record s { relations = rs })) (sym (back ∙ c.stamp_each.ensures ∙ c.as_mut_slice.ensures.value)) c.self.invariant

pub returns : goal.returns
returns c =
    let s : CatalogState = record { limits = c.self.inside.limits; names = map string_bytes c.self.inside.names.keys; relations = c.self.inside.relations.items } in
    let back = whole c.stamp_each.new.relations (drop (length c.stamp_each.new.relations) c.self.inside.relations.items) c.self.inside.relations.len (omega (arith, c.stamp_each.auto.relations, ap length c.as_mut_slice.ensures.value, c.self.inside.relations.ok.0)) in
    rw (← c.self.view_is) (ap (λ (rs : List RelationState). record s { relations = rs }) (back ∙ c.stamp_each.ensures ∙ c.as_mut_slice.ensures.value))
