use Rattle.std.proofs.Common.{◌≡◌, arith, drop, length, map, sym, ap, subst}
use Rattle.std.specs.String.{string_bytes}
use Rattle.mm_catalog.specs.Consistent.{IsConsistent}
use Rattle.mm_catalog.specs.Outline.{IsOutline, outline_of}
use Rattle.mm_catalog.specs.State.{CatalogState}
use Rattle.mm_catalog.specs.Unindexed.{CanHaveIndex, with_index_of}
use Rattle.mm_catalog.proofs.Among.{current_at}
use Rattle.mm_catalog.proofs.IndexBack.{has_place, is_served, put_consistent, put_outline, relation_there}
use Rattle.mm_catalog.proofs.Lists.{whole}
use Rattle.mm_catalog.proofs.catalog.Catalog.put_index_back.Goals as goal

pub put_index-requires : goal.put_index-requires
put_index-requires c =
    let s : CatalogState = record { limits = c.self.inside.limits; names = map string_bytes c.self.inside.names.keys; relations = c.self.inside.relations.items } in
    let can : CanHaveIndex (outline_of s) c.args.table.0 c.args.index = rw (← c.self.view_is) at c.requires.can in
    rw c.as_mut_slice.ensures.value (record {
      there = relation_there s c.self.invariant c.args.table.0 c.args.index can;
      place = has_place s c.self.invariant c.args.table.0 c.args.index can;
      served = is_served s c.self.invariant c.args.table.0 c.args.index can;
      current = current_at s c.self.invariant c.args.table.0;
    })

pub invariant_of-self : goal.invariant_of-self
invariant_of-self c =
    let s : CatalogState = record { limits = c.self.inside.limits; names = map string_bytes c.self.inside.names.keys; relations = c.self.inside.relations.items } in
    let can : CanHaveIndex (outline_of s) c.args.table.0 c.args.index = rw (← c.self.view_is) at c.requires.can in
    let stands : IsOutline (with_index_of c.args.table.0 c.args.index (outline_of s)) = rw (← c.self.view_is) at c.requires.stands in
    let back = whole c.put_index.new.relations (drop (length c.put_index.new.relations) c.self.inside.relations.items) c.self.inside.relations.len (omega (arith, c.put_index.auto.relations, ap length c.as_mut_slice.ensures.value, c.self.inside.relations.ok.0)) in
    subst (λ rs. IsConsistent (record s { relations = rs })) (sym back)
    (put_consistent s c.self.invariant c.args.table.0 c.args.index can stands c.put_index.new.relations (rw c.as_mut_slice.ensures.value at c.put_index.ensures))

pub returns : goal.returns
returns c =
    let s : CatalogState = record { limits = c.self.inside.limits; names = map string_bytes c.self.inside.names.keys; relations = c.self.inside.relations.items } in
    let can : CanHaveIndex (outline_of s) c.args.table.0 c.args.index = rw (← c.self.view_is) at c.requires.can in
    let stands : IsOutline (with_index_of c.args.table.0 c.args.index (outline_of s)) = rw (← c.self.view_is) at c.requires.stands in
    let back = whole c.put_index.new.relations (drop (length c.put_index.new.relations) c.self.inside.relations.items) c.self.inside.relations.len (omega (arith, c.put_index.auto.relations, ap length c.as_mut_slice.ensures.value, c.self.inside.relations.ok.0)) in
    rw (← c.self.view_is)
    (subst (λ rs. outline_of (record s { relations = rs }) ≡ with_index_of c.args.table.0 c.args.index (outline_of s)) (sym back)
    (put_outline s c.self.invariant c.args.table.0 c.args.index can stands c.put_index.new.relations (rw c.as_mut_slice.ensures.value at c.put_index.ensures)))
