use Rattle.std.proofs.Common.{◌<◌, Bool, length, map, drop, sym, ap, subst, arith}
use Rattle.std.specs.Prelude.{OnOk}
use Rattle.std.specs.String.{string_bytes}
use Rattle.plain_tables.specs.Doing as doing
use Rattle.plain_tables.specs.Tables.{Row}
use Rattle.mm_catalog.specs.State.{CatalogState}
use Rattle.mm_catalog.specs.Seen.{database_of}
use Rattle.mm_catalog.specs.Consistent.{IsConsistent}
use Rattle.mm_catalog.specs.Changes.{HasEffect}
use Rattle.mm_catalog.specs.Picked.{ArePicked, HoldsRows}
use Rattle.mm_catalog.proofs.Lists.{whole}
use Rattle.mm_catalog.proofs.Tables.{database-length}
use Rattle.mm_catalog.proofs.Deleting.{deleted_consistent, deleted_effect, deleted_refused}
use Rattle.mm_catalog.proofs.catalog.Catalog.delete.Goals as goal
use Rattle.mm_catalog.proofs.Standing.{stands_at}

pub delete-requires : goal.delete-requires
delete-requires c =
    let s : CatalogState = record { limits = c.self.inside.limits; names = map string_bytes c.self.inside.names.keys; relations = c.self.inside.relations.items } in
    let there : c.args.table.0 < length (database_of s) = rw (← c.self.view_is) at c.requires.there in
    let held : HoldsRows s c.args.table.0 c.args.rows.now = rw (← c.self.view_is) at c.requires.held in
    rw c.as_mut_slice.ensures.value (record {
      there = omega (arith, there, database-length s c.self.invariant.named);
      stands = stands_at s c.self.invariant c.args.table.0;
      held = held;
      once = c.requires.once;
    })

pub invariant_of-self : goal.invariant_of-self
invariant_of-self c =
    let s : CatalogState = record { limits = c.self.inside.limits; names = map string_bytes c.self.inside.names.keys; relations = c.self.inside.relations.items } in
    let held : HoldsRows s c.args.table.0 c.args.rows.now = rw (← c.self.view_is) at c.requires.held in
    let back = whole c.delete.new.relations (drop (length c.delete.new.relations) c.self.inside.relations.items) c.self.inside.relations.len (omega (arith, c.delete.auto.relations, ap length c.as_mut_slice.ensures.value, c.self.inside.relations.ok.0)) in
    subst (λ rs. IsConsistent (record s { relations = rs })) (sym back)
    (deleted_consistent s c.self.invariant c.args.table c.args.rows.now c.delete.new.relations held c.requires.once c.delete.result
    (rw c.as_mut_slice.ensures.value at c.delete.ensures.free) (rw c.as_mut_slice.ensures.value at c.delete.ensures.deleted) (rw c.as_mut_slice.ensures.value at c.delete.ensures.unchanged))

pub returns-clause-deleted : goal.returns-clause-deleted
returns-clause-deleted c =
    let s : CatalogState = record { limits = c.self.inside.limits; names = map string_bytes c.self.inside.names.keys; relations = c.self.inside.relations.items } in
    let held : HoldsRows s c.args.table.0 c.args.rows.now = rw (← c.self.view_is) at c.requires.held in
    let back = whole c.delete.new.relations (drop (length c.delete.new.relations) c.self.inside.relations.items) c.self.inside.relations.len (omega (arith, c.delete.auto.relations, ap length c.as_mut_slice.ensures.value, c.self.inside.relations.ok.0)) in
    rw (← c.self.view_is)
    (subst (λ rs. OnOk c.delete.result ((picks : Row → Bool) → ArePicked s c.args.table.0 c.args.rows.now picks → HasEffect s (record s { relations = rs }) (doing.delete (database_of s) c.args.table picks) (length c.args.rows.now))) (sym back)
    (deleted_effect s c.self.invariant c.args.table c.args.rows.now c.delete.new.relations held c.requires.once c.delete.result
    (rw c.as_mut_slice.ensures.value at c.delete.ensures.free) (rw c.as_mut_slice.ensures.value at c.delete.ensures.deleted)))

pub returns-clause-refused : goal.returns-clause-refused
returns-clause-refused c =
    let s : CatalogState = record { limits = c.self.inside.limits; names = map string_bytes c.self.inside.names.keys; relations = c.self.inside.relations.items } in
    let held : HoldsRows s c.args.table.0 c.args.rows.now = rw (← c.self.view_is) at c.requires.held in
    let there : c.args.table.0 < length (database_of s) = rw (← c.self.view_is) at c.requires.there in
    rw (← c.self.view_is)
    (deleted_refused s c.self.invariant c.args.table c.args.rows.now c.delete.new.relations held c.requires.once c.delete.result (omega (arith, there, database-length s c.self.invariant.named))
    (rw c.as_mut_slice.ensures.value at c.delete.ensures.referenced))
