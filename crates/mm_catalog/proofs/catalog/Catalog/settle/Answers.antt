use Rattle.std.proofs.Common.{◌≡◌, List, arith, drop, length, map, refl, sym, ap, ◌∙◌, subst}
use Rattle.std.specs.String.{string_bytes}
use Rattle.mm_relation.specs.State.{RelationState}
use Rattle.mm_catalog.specs.State.{CatalogState}
use Rattle.mm_catalog.specs.Changes.{KeepsDatabase}
use Rattle.mm_catalog.specs.Consistent.{IsConsistent}
use Rattle.mm_catalog.specs.Settled.{settled_relation}
use Rattle.mm_catalog.proofs.Lists.{whole}
use Rattle.mm_catalog.proofs.Settled.{consistent_settled, database_settled}
use Rattle.mm_catalog.proofs.catalog.Catalog.settle.Goals as goal

pub invariant_of-self : goal.invariant_of-self
invariant_of-self c =
    let s : CatalogState = record { limits = c.self.inside.limits; names = map string_bytes c.self.inside.names.keys; relations = c.self.inside.relations.items } in
    let back = whole c.settle_each.new.relations (drop (length c.settle_each.new.relations) c.self.inside.relations.items) c.self.inside.relations.len (omega (arith, c.settle_each.auto.relations, ap length c.as_mut_slice.ensures.value, c.self.inside.relations.ok.0)) in
    let settled : c.settle_each.new.relations ≡ map settled_relation s.relations = c.settle_each.ensures ∙ ap (map settled_relation) c.as_mut_slice.ensures.value in
    subst (λ (rs : List RelationState). IsConsistent (record s { relations = rs })) (sym (back ∙ settled)) (consistent_settled s c.self.invariant)

pub returns-clause-settled : goal.returns-clause-settled
returns-clause-settled c =
    let s : CatalogState = record { limits = c.self.inside.limits; names = map string_bytes c.self.inside.names.keys; relations = c.self.inside.relations.items } in
    let back = whole c.settle_each.new.relations (drop (length c.settle_each.new.relations) c.self.inside.relations.items) c.self.inside.relations.len (omega (arith, c.settle_each.auto.relations, ap length c.as_mut_slice.ensures.value, c.self.inside.relations.ok.0)) in
    let settled : c.settle_each.new.relations ≡ map settled_relation s.relations = c.settle_each.ensures ∙ ap (map settled_relation) c.as_mut_slice.ensures.value in
    rw (← c.self.view_is) (ap (λ (rs : List RelationState). record s { relations = rs }) (back ∙ settled))

pub returns-clause-database : goal.returns-clause-database
returns-clause-database c =
    let s : CatalogState = record { limits = c.self.inside.limits; names = map string_bytes c.self.inside.names.keys; relations = c.self.inside.relations.items } in
    let back = whole c.settle_each.new.relations (drop (length c.settle_each.new.relations) c.self.inside.relations.items) c.self.inside.relations.len (omega (arith, c.settle_each.auto.relations, ap length c.as_mut_slice.ensures.value, c.self.inside.relations.ok.0)) in
    let settled : c.settle_each.new.relations ≡ map settled_relation s.relations = c.settle_each.ensures ∙ ap (map settled_relation) c.as_mut_slice.ensures.value in
    rw (← c.self.view_is)
    (subst (λ (rs : List RelationState). KeepsDatabase s (record s { relations = rs })) (sym (back ∙ settled))
    (record { database = database_settled s c.self.invariant; limits = refl }))
