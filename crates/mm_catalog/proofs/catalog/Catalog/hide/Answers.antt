use Rattle.std.proofs.Common.{◌<◌, Bool, length, map, drop, sym, ap, subst, arith}
use Rattle.std.specs.Prelude.{OnOk}
use Rattle.std.specs.String.{string_bytes}
use Rattle.plain_tables.specs.Doing as doing
use Rattle.plain_tables.specs.Tables.{Row}
use Rattle.mm_catalog.specs.State.{CatalogState}
use Rattle.mm_catalog.specs.Seen.{database_of}
use Rattle.mm_catalog.specs.Consistent.{IsConsistent}
use Rattle.mm_catalog.specs.Changes.{HasEffect}
use Rattle.mm_catalog.specs.Outline.{HasRowsHidden, outline_of}
use Rattle.mm_catalog.specs.Picked.{ArePicked, HoldsRows}
use Rattle.mm_catalog.proofs.Lists.{whole}
use Rattle.mm_catalog.proofs.Tables.{database-length}
use Rattle.mm_catalog.proofs.HideDone.{hidden_consistent, hidden_effect, hidden_outline, hidden_refused}
use Rattle.mm_catalog.proofs.catalog.Catalog.hide.Goals as goal
use Rattle.mm_catalog.proofs.Standing.{stands_at}

pub hide_rows-requires : goal.hide_rows-requires
hide_rows-requires c =
    let s : CatalogState = record { limits = c.self.inside.limits; names = map string_bytes c.self.inside.names.keys; relations = c.self.inside.relations.items } in
    let there : c.args.table.0 < length (database_of s) = rw (← c.self.view_is) at c.requires.there in
    let held : HoldsRows s c.args.table.0 c.args.rows.now = rw (← c.self.view_is) at c.requires.held in
    rw c.as_mut_slice.ensures.value (record {
      there = omega (arith, there, database-length s c.self.invariant.named);
      stands = stands_at s c.self.invariant c.args.table.0;
      held = held;
      once = c.requires.once;
    })

pub invariant_of-self : goal.invariant_of-self
invariant_of-self c =
    let s : CatalogState = record { limits = c.self.inside.limits; names = map string_bytes c.self.inside.names.keys; relations = c.self.inside.relations.items } in
    let held : HoldsRows s c.args.table.0 c.args.rows.now = rw (← c.self.view_is) at c.requires.held in
    let back = whole c.hide_rows.new.relations (drop (length c.hide_rows.new.relations) c.self.inside.relations.items) c.self.inside.relations.len (omega (arith, c.hide_rows.auto.relations, ap length c.as_mut_slice.ensures.value, c.self.inside.relations.ok.0)) in
    subst (λ rs. IsConsistent (record s { relations = rs })) (sym back)
    (hidden_consistent s c.self.invariant c.args.table c.args.rows.now c.hide_rows.new.relations held c.requires.once c.hide_rows.result
    (rw c.as_mut_slice.ensures.value at c.hide_rows.ensures.free) (rw c.as_mut_slice.ensures.value at c.hide_rows.ensures.hidden) (rw c.as_mut_slice.ensures.value at c.hide_rows.ensures.unchanged))

pub returns-clause-deleted : goal.returns-clause-deleted
returns-clause-deleted c =
    let s : CatalogState = record { limits = c.self.inside.limits; names = map string_bytes c.self.inside.names.keys; relations = c.self.inside.relations.items } in
    let held : HoldsRows s c.args.table.0 c.args.rows.now = rw (← c.self.view_is) at c.requires.held in
    let back = whole c.hide_rows.new.relations (drop (length c.hide_rows.new.relations) c.self.inside.relations.items) c.self.inside.relations.len (omega (arith, c.hide_rows.auto.relations, ap length c.as_mut_slice.ensures.value, c.self.inside.relations.ok.0)) in
    rw (← c.self.view_is)
    (subst (λ rs. OnOk c.hide_rows.result ((picks : Row → Bool) → ArePicked s c.args.table.0 c.args.rows.now picks → HasEffect s (record s { relations = rs }) (doing.delete (database_of s) c.args.table picks) (length c.args.rows.now))) (sym back)
    (hidden_effect s c.self.invariant c.args.table c.args.rows.now c.hide_rows.new.relations held c.requires.once c.hide_rows.result
    (rw c.as_mut_slice.ensures.value at c.hide_rows.ensures.free) (rw c.as_mut_slice.ensures.value at c.hide_rows.ensures.hidden)))

pub returns-clause-refused : goal.returns-clause-refused
returns-clause-refused c =
    let s : CatalogState = record { limits = c.self.inside.limits; names = map string_bytes c.self.inside.names.keys; relations = c.self.inside.relations.items } in
    let held : HoldsRows s c.args.table.0 c.args.rows.now = rw (← c.self.view_is) at c.requires.held in
    let there : c.args.table.0 < length (database_of s) = rw (← c.self.view_is) at c.requires.there in
    rw (← c.self.view_is)
    (hidden_refused s c.self.invariant c.args.table c.args.rows.now c.hide_rows.new.relations held c.requires.once c.hide_rows.result (omega (arith, there, database-length s c.self.invariant.named))
    (rw c.as_mut_slice.ensures.value at c.hide_rows.ensures.refused))

pub returns-clause-hidden : goal.returns-clause-hidden
returns-clause-hidden c =
    let s : CatalogState = record { limits = c.self.inside.limits; names = map string_bytes c.self.inside.names.keys; relations = c.self.inside.relations.items } in
    let held : HoldsRows s c.args.table.0 c.args.rows.now = rw (← c.self.view_is) at c.requires.held in
    let back = whole c.hide_rows.new.relations (drop (length c.hide_rows.new.relations) c.self.inside.relations.items) c.self.inside.relations.len (omega (arith, c.hide_rows.auto.relations, ap length c.as_mut_slice.ensures.value, c.self.inside.relations.ok.0)) in
    rw (← c.self.view_is)
    (subst (λ rs. OnOk c.hide_rows.result (HasRowsHidden (outline_of s) (outline_of (record s { relations = rs })) c.args.table.0 c.args.rows.now)) (sym back)
    (hidden_outline s c.self.invariant c.args.table c.args.rows.now c.hide_rows.new.relations held c.requires.once c.hide_rows.result
    (rw c.as_mut_slice.ensures.value at c.hide_rows.ensures.free) (rw c.as_mut_slice.ensures.value at c.hide_rows.ensures.hidden)))
