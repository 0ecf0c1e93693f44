use Rattle.std.proofs.Common.{length, map, drop, sym, ap, subst, arith}
use Rattle.std.specs.Prelude.{OnOk}
use Rattle.std.specs.String.{string_bytes}
use Rattle.plain_tables.specs.declared.resolved.Resolved.TheVariants as resolved
use Rattle.mm_catalog.specs.State.{CatalogState}
use Rattle.mm_catalog.specs.Seen.{database_of}
use Rattle.plain_tables.specs.ResolvedLaws.{IsMeant}
use Rattle.mm_catalog.specs.Consistent.{IsConsistent}
use Rattle.mm_relation.specs.Declaring.{declaration}
use Rattle.mm_catalog.specs.Changes.{IsDone}
use Rattle.mm_catalog.specs.Declarations.{HasIndexMore}
use Rattle.mm_catalog.specs.Outline.{outline_of}
use Rattle.mm_catalog.proofs.Lists.{whole}
use Rattle.mm_catalog.proofs.Among.{there_at, column_at, current_at}
use Rattle.mm_catalog.proofs.Declared.{indexed_consistent, indexed_done}
use Rattle.mm_catalog.proofs.IndexMore.{indexed_outline}
use Rattle.mm_catalog.proofs.catalog.Catalog.add_index.Goals as goal

pub declare-requires : goal.declare-requires
declare-requires c =
    let s : CatalogState = record { limits = c.self.inside.limits; names = map string_bytes c.self.inside.names.keys; relations = c.self.inside.relations.items } in
    let meant : IsMeant s.limits (database_of s) (resolved.Index c.args.table c.args.column c.args.kind) = rw (← c.self.view_is) at c.requires in
    rw c.as_mut_slice.ensures.value (record {
      there = there_at s c.self.invariant c.args.table.0 meant.0 meant.1;
      column = column_at s c.self.invariant c.args.table.0 c.args.column.0 meant.0 meant.1 meant.2.on_column;
      current = current_at s c.self.invariant c.args.table.0;
    })

pub invariant_of-self : goal.invariant_of-self
invariant_of-self c =
    let s : CatalogState = record { limits = c.self.inside.limits; names = map string_bytes c.self.inside.names.keys; relations = c.self.inside.relations.items } in
    let meant : IsMeant s.limits (database_of s) (resolved.Index c.args.table c.args.column c.args.kind) = rw (← c.self.view_is) at c.requires in
    let back = whole c.declare.new.relations (drop (length c.declare.new.relations) c.self.inside.relations.items) c.self.inside.relations.len (omega (arith, c.declare.auto.relations, ap length c.as_mut_slice.ensures.value, c.self.inside.relations.ok.0)) in
    subst (λ rs. IsConsistent (record s { relations = rs })) (sym back)
    (indexed_consistent s c.self.invariant c.args.table c.args.column c.args.kind c.declare.new.relations c.declare.result meant
    (rw c.as_mut_slice.ensures.value at c.declare.ensures.declared) (rw c.as_mut_slice.ensures.value at c.declare.ensures.unchanged))

pub returns-clause-done : goal.returns-clause-done
returns-clause-done c =
    let s : CatalogState = record { limits = c.self.inside.limits; names = map string_bytes c.self.inside.names.keys; relations = c.self.inside.relations.items } in
    let meant : IsMeant s.limits (database_of s) (resolved.Index c.args.table c.args.column c.args.kind) = rw (← c.self.view_is) at c.requires in
    let back = whole c.declare.new.relations (drop (length c.declare.new.relations) c.self.inside.relations.items) c.self.inside.relations.len (omega (arith, c.declare.auto.relations, ap length c.as_mut_slice.ensures.value, c.self.inside.relations.ok.0)) in
    rw (← c.self.view_is)
    (subst (λ rs. OnOk c.declare.result (IsDone s (record s { relations = rs }) (resolved.Index c.args.table c.args.column c.args.kind))) (sym back)
    (indexed_done s c.self.invariant c.args.table c.args.column c.args.kind c.declare.new.relations c.declare.result meant
    (rw c.as_mut_slice.ensures.value at c.declare.ensures.declared)))

pub returns-clause-indexed : goal.returns-clause-indexed
returns-clause-indexed c =
    let s : CatalogState = record { limits = c.self.inside.limits; names = map string_bytes c.self.inside.names.keys; relations = c.self.inside.relations.items } in
    let meant : IsMeant s.limits (database_of s) (resolved.Index c.args.table c.args.column c.args.kind) = rw (← c.self.view_is) at c.requires in
    let back = whole c.declare.new.relations (drop (length c.declare.new.relations) c.self.inside.relations.items) c.self.inside.relations.len (omega (arith, c.declare.auto.relations, ap length c.as_mut_slice.ensures.value, c.self.inside.relations.ok.0)) in
    rw (← c.self.view_is)
    (subst (λ rs. OnOk c.declare.result (HasIndexMore (outline_of s) (outline_of (record s { relations = rs })) c.args.table.0 (declaration c.args.column c.args.kind))) (sym back)
    (indexed_outline s c.declare.new.relations c.args.table c.args.column c.args.kind c.self.invariant meant c.declare.result
    (rw c.as_mut_slice.ensures.value at c.declare.ensures.declared)))
