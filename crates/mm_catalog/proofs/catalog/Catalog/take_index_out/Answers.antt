use Rattle.std.proofs.Common.{IsTrue, length, map, drop, sym, ap, subst, arith}
use Rattle.std.specs.Prelude.{IfOk, OnOk}
use Rattle.std.specs.String.{string_bytes}
use Rattle.plain_tables.specs.ResolvedLaws.{IsMeant}
use Rattle.plain_tables.specs.declared.resolved.Resolved.TheVariants as resolved
use Rattle.mm_catalog.specs.Changes.{IsDone}
use Rattle.mm_catalog.specs.Consistent.{IsConsistent}
use Rattle.mm_catalog.specs.Outline.{outline_of}
use Rattle.mm_catalog.specs.Seen.{database_of}
use Rattle.mm_catalog.specs.State.{CatalogState}
use Rattle.mm_catalog.specs.Unindexed.{HasIndexLess, has_index}
use Rattle.mm_catalog.proofs.Among.{there_at, current_at}
use Rattle.mm_catalog.proofs.IndexBack.{index_stands, out_consistent, out_done, out_less}
use Rattle.mm_catalog.proofs.Lists.{whole}
use Rattle.mm_catalog.proofs.catalog.Catalog.take_index_out.Goals as goal

pub take_index-requires : goal.take_index-requires
take_index-requires c =
    let s : CatalogState = record { limits = c.self.inside.limits; names = map string_bytes c.self.inside.names.keys; relations = c.self.inside.relations.items } in
    let meant : IsMeant s.limits (database_of s) (resolved.DropIndex c.args.table c.args.column c.args.kind) = rw (← c.self.view_is) at c.requires.meant in
    let declared : IsTrue (has_index (database_of s) c.args.table.0 c.args.column c.args.kind) = rw (← c.self.view_is) at c.requires.declared in
    rw c.as_mut_slice.ensures.value (record {
      there = there_at s c.self.invariant c.args.table.0 meant.0 meant.1;
      declared = index_stands s c.self.invariant c.args.table c.args.column c.args.kind declared;
      current = current_at s c.self.invariant c.args.table.0;
    })

pub invariant_of-self : goal.invariant_of-self
invariant_of-self c =
    let s : CatalogState = record { limits = c.self.inside.limits; names = map string_bytes c.self.inside.names.keys; relations = c.self.inside.relations.items } in
    let meant : IsMeant s.limits (database_of s) (resolved.DropIndex c.args.table c.args.column c.args.kind) = rw (← c.self.view_is) at c.requires.meant in
    let back = whole c.take_index.new.relations (drop (length c.take_index.new.relations) c.self.inside.relations.items) c.self.inside.relations.len (omega (arith, c.take_index.auto.relations, ap length c.as_mut_slice.ensures.value, c.self.inside.relations.ok.0)) in
    subst (λ rs. IsConsistent (record s { relations = rs })) (sym back)
    (out_consistent s c.self.invariant c.args.table c.args.column c.args.kind meant c.take_index.new.relations c.take_index.result
    (rw c.as_mut_slice.ensures.value at c.take_index.ensures.taken) (rw c.as_mut_slice.ensures.value at c.take_index.ensures.unchanged))

pub returns-clause-done : goal.returns-clause-done
returns-clause-done c =
    let s : CatalogState = record { limits = c.self.inside.limits; names = map string_bytes c.self.inside.names.keys; relations = c.self.inside.relations.items } in
    let meant : IsMeant s.limits (database_of s) (resolved.DropIndex c.args.table c.args.column c.args.kind) = rw (← c.self.view_is) at c.requires.meant in
    let back = whole c.take_index.new.relations (drop (length c.take_index.new.relations) c.self.inside.relations.items) c.self.inside.relations.len (omega (arith, c.take_index.auto.relations, ap length c.as_mut_slice.ensures.value, c.self.inside.relations.ok.0)) in
    rw (← c.self.view_is)
    (subst (λ rs. OnOk c.take_index.result (IsDone s (record s { relations = rs }) (resolved.DropIndex c.args.table c.args.column c.args.kind))) (sym back)
    (out_done s c.self.invariant c.args.table c.args.column c.args.kind meant c.take_index.new.relations c.take_index.result
    (rw c.as_mut_slice.ensures.value at c.take_index.ensures.taken)))

pub returns-clause-taken : goal.returns-clause-taken
returns-clause-taken c =
    let s : CatalogState = record { limits = c.self.inside.limits; names = map string_bytes c.self.inside.names.keys; relations = c.self.inside.relations.items } in
    let meant : IsMeant s.limits (database_of s) (resolved.DropIndex c.args.table c.args.column c.args.kind) = rw (← c.self.view_is) at c.requires.meant in
    let back = whole c.take_index.new.relations (drop (length c.take_index.new.relations) c.self.inside.relations.items) c.self.inside.relations.len (omega (arith, c.take_index.auto.relations, ap length c.as_mut_slice.ensures.value, c.self.inside.relations.ok.0)) in
    rw (← c.self.view_is)
    (subst (λ rs. IfOk c.take_index.result (HasIndexLess (outline_of s) (outline_of (record s { relations = rs })) c.args.table.0)) (sym back)
    (out_less s c.self.invariant c.args.table c.args.column c.args.kind meant c.take_index.new.relations c.take_index.result
    (rw c.as_mut_slice.ensures.value at c.take_index.ensures.taken)))
