use Rattle.std.proofs.Common.{◌≡◌, arith, drop, length, map, sym, ap, subst}
use Rattle.std.specs.String.{string_bytes}
use Rattle.mm_catalog.specs.State.{CatalogState}
use Rattle.mm_catalog.specs.Consistent.{IsConsistent}
use Rattle.mm_catalog.specs.Outline.{IsOutline, OwesCells, outline_of, with_changed_back}
use Rattle.mm_catalog.proofs.Lists.{whole}
use Rattle.mm_catalog.proofs.ChangedBack.{can_change_back, changed_back_so, relation_there}
use Rattle.mm_catalog.proofs.catalog.Catalog.change_back.Goals as goal

pub change_rows_back-requires : goal.change_rows_back-requires
change_rows_back-requires c =
    let s : CatalogState = record { limits = c.self.inside.limits; names = map string_bytes c.self.inside.names.keys; relations = c.self.inside.relations.items } in
    let owes : OwesCells (outline_of s) c.args.table.0 c.args.rows.now c.args.width c.args.cells.now = rw (← c.self.view_is) at c.requires.owes in
    let stands : IsOutline (with_changed_back c.args.table.0 c.args.rows.now c.args.width c.args.cells.now (outline_of s)) = rw (← c.self.view_is) at c.requires.stands in
    rw c.as_mut_slice.ensures.value (record {
      there = relation_there s c.self.invariant c.args.table.0 c.args.rows.now c.args.width c.args.cells.now owes;
      fit = can_change_back s c.self.invariant c.args.table.0 c.args.rows.now c.args.width c.args.cells.now owes stands;
    })

pub invariant_of-self : goal.invariant_of-self
invariant_of-self c =
    let s : CatalogState = record { limits = c.self.inside.limits; names = map string_bytes c.self.inside.names.keys; relations = c.self.inside.relations.items } in
    let owes : OwesCells (outline_of s) c.args.table.0 c.args.rows.now c.args.width c.args.cells.now = rw (← c.self.view_is) at c.requires.owes in
    let stands : IsOutline (with_changed_back c.args.table.0 c.args.rows.now c.args.width c.args.cells.now (outline_of s)) = rw (← c.self.view_is) at c.requires.stands in
    let back = whole c.change_rows_back.new.relations (drop (length c.change_rows_back.new.relations) c.self.inside.relations.items) c.self.inside.relations.len (omega (arith, c.change_rows_back.auto.relations, ap length c.as_mut_slice.ensures.value, c.self.inside.relations.ok.0)) in
    subst (λ rs. IsConsistent (record s { relations = rs })) (sym back)
    (changed_back_so s c.self.invariant c.args.table.0 c.args.rows.now c.args.width c.args.cells.now owes stands c.change_rows_back.new.relations (rw c.as_mut_slice.ensures.value at c.change_rows_back.ensures)).0

pub returns : goal.returns
returns c =
    let s : CatalogState = record { limits = c.self.inside.limits; names = map string_bytes c.self.inside.names.keys; relations = c.self.inside.relations.items } in
    let owes : OwesCells (outline_of s) c.args.table.0 c.args.rows.now c.args.width c.args.cells.now = rw (← c.self.view_is) at c.requires.owes in
    let stands : IsOutline (with_changed_back c.args.table.0 c.args.rows.now c.args.width c.args.cells.now (outline_of s)) = rw (← c.self.view_is) at c.requires.stands in
    let back = whole c.change_rows_back.new.relations (drop (length c.change_rows_back.new.relations) c.self.inside.relations.items) c.self.inside.relations.len (omega (arith, c.change_rows_back.auto.relations, ap length c.as_mut_slice.ensures.value, c.self.inside.relations.ok.0)) in
    rw (← c.self.view_is)
    (subst (λ rs. outline_of (record s { relations = rs }) ≡ with_changed_back c.args.table.0 c.args.rows.now c.args.width c.args.cells.now (outline_of s)) (sym back)
    (changed_back_so s c.self.invariant c.args.table.0 c.args.rows.now c.args.width c.args.cells.now owes stands c.change_rows_back.new.relations (rw c.as_mut_slice.ensures.value at c.change_rows_back.ensures)).1)
