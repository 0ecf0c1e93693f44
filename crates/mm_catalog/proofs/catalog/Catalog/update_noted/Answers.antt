use Rattle.std.proofs.Common.{◌≡◌, ◌<◌, Bool, List, Some, length, map, drop, refl, sym, ap, subst, arith}
use Rattle.std.specs.List.{slice_get}
use Rattle.std.specs.Prelude.{OnOk}
use Rattle.std.specs.String.{string_bytes}
use Rattle.plain_tables.specs.Doing as doing
use Rattle.plain_tables.specs.ResolvedLaws.{AreAssignable, OfTable}
use Rattle.plain_tables.specs.Tables.{Row}
use Rattle.mm_relation.specs.State.{RelationState}
use Rattle.mm_catalog.specs.Assigned.{AreConsistent, AreToColumns}
use Rattle.mm_catalog.specs.Changes.{HasEffect}
use Rattle.mm_catalog.specs.Consistent.{IsConsistent}
use Rattle.mm_catalog.specs.Picked.{ArePicked, HoldsRows}
use Rattle.mm_catalog.specs.Seen.{database_of}
use Rattle.mm_catalog.specs.State.{CatalogState}
use Rattle.mm_catalog.proofs.Among.{there_at}
use Rattle.mm_catalog.proofs.Lists.{whole}
use Rattle.mm_catalog.proofs.UpdateDone.{columns_of}
use Rattle.mm_catalog.proofs.Noted.{list_kept, list_more}
use Rattle.mm_catalog.proofs.NotedBack.{not_noted, note_consistent, note_effect, note_outline}
use Rattle.mm_catalog.specs.Outline.{HaveChanged}
use Rattle.mm_catalog.proofs.catalog.Catalog.update_noted.Goals as goal

pub set_and_note-answer-requires-clause-there : goal.set_and_note-answer-requires-clause-there
set_and_note-answer-requires-clause-there c =
    let s : CatalogState = record { limits = c.self.inside.limits; names = map string_bytes c.self.inside.names.keys; relations = c.self.inside.relations.items } in
    let meant : OfTable c.args.table (database_of s) (AreAssignable (database_of s) c.args.assignments.now) = rw (← c.self.view_is) at c.requires.meant in
    subst (λ (rs : List RelationState). c.args.table.0 < length rs) (sym c.as_mut_slice.ensures.value) (there_at s c.self.invariant c.args.table.0 meant.0 meant.1)

pub set_and_note-answer-requires-clause-consistent : goal.set_and_note-answer-requires-clause-consistent
set_and_note-answer-requires-clause-consistent c =
    let s : CatalogState = record { limits = c.self.inside.limits; names = map string_bytes c.self.inside.names.keys; relations = c.self.inside.relations.items } in
    subst AreConsistent (sym c.as_mut_slice.ensures.value) (s, refl, c.self.invariant)

pub set_and_note-answer-requires-clause-columns : goal.set_and_note-answer-requires-clause-columns
set_and_note-answer-requires-clause-columns c =
    let s : CatalogState = record { limits = c.self.inside.limits; names = map string_bytes c.self.inside.names.keys; relations = c.self.inside.relations.items } in
    let meant : OfTable c.args.table (database_of s) (AreAssignable (database_of s) c.args.assignments.now) = rw (← c.self.view_is) at c.requires.meant in
    subst (λ (rs : List RelationState). (t : RelationState) → slice_get rs c.args.table.0 ≡ Some t → AreToColumns (length t.targets) c.args.assignments.now) (sym c.as_mut_slice.ensures.value)
    (columns_of s c.self.invariant c.args.table c.args.assignments.now meant)

pub invariant_of-self : goal.invariant_of-self
invariant_of-self c =
    let s : CatalogState = record { limits = c.self.inside.limits; names = map string_bytes c.self.inside.names.keys; relations = c.self.inside.relations.items } in
    let meant : OfTable c.args.table (database_of s) (AreAssignable (database_of s) c.args.assignments.now) = rw (← c.self.view_is) at c.requires.meant in
    let held : HoldsRows s c.args.table.0 c.args.rows.now = rw (← c.self.view_is) at c.requires.held in
    let back = whole c.set_and_note-answer.new.relations (drop (length c.set_and_note-answer.new.relations) c.self.inside.relations.items) c.self.inside.relations.len (omega (arith, c.set_and_note-answer.auto.relations, ap length c.as_mut_slice.ensures.value, c.self.inside.relations.ok.0)) in
    subst (λ rs. IsConsistent (record s { relations = rs })) (sym back)
    (note_consistent s c.self.invariant c.args.table c.args.assignments.now meant c.args.rows.now held c.requires.once c.set_and_note-answer.new.relations c.set_and_note-answer.result (drop (length c.args.cells.now.items) c.set_and_note-answer.new.cells.items)
    (rw c.as_mut_slice.ensures.value at c.set_and_note-answer.ensures.noted) (rw c.as_mut_slice.ensures.value at c.set_and_note-answer.ensures.unchanged))

pub returns-clause-updated : goal.returns-clause-updated
returns-clause-updated c =
    let s : CatalogState = record { limits = c.self.inside.limits; names = map string_bytes c.self.inside.names.keys; relations = c.self.inside.relations.items } in
    let meant : OfTable c.args.table (database_of s) (AreAssignable (database_of s) c.args.assignments.now) = rw (← c.self.view_is) at c.requires.meant in
    let held : HoldsRows s c.args.table.0 c.args.rows.now = rw (← c.self.view_is) at c.requires.held in
    let back = whole c.set_and_note-answer.new.relations (drop (length c.set_and_note-answer.new.relations) c.self.inside.relations.items) c.self.inside.relations.len (omega (arith, c.set_and_note-answer.auto.relations, ap length c.as_mut_slice.ensures.value, c.self.inside.relations.ok.0)) in
    rw (← c.self.view_is)
    (subst (λ rs. OnOk c.set_and_note-answer.result ((picks : Row → Bool) → ArePicked s c.args.table.0 c.args.rows.now picks → HasEffect s (record s { relations = rs }) (doing.update (database_of s) c.args.table c.args.assignments.now picks) (length c.args.rows.now))) (sym back)
    (note_effect s c.self.invariant c.args.table c.args.assignments.now meant c.args.rows.now held c.requires.once c.set_and_note-answer.new.relations c.set_and_note-answer.result (drop (length c.args.cells.now.items) c.set_and_note-answer.new.cells.items)
    (rw c.as_mut_slice.ensures.value at c.set_and_note-answer.ensures.noted)))

pub returns-clause-noted : goal.returns-clause-noted
returns-clause-noted c =
    let s : CatalogState = record { limits = c.self.inside.limits; names = map string_bytes c.self.inside.names.keys; relations = c.self.inside.relations.items } in
    let meant : OfTable c.args.table (database_of s) (AreAssignable (database_of s) c.args.assignments.now) = rw (← c.self.view_is) at c.requires.meant in
    let held : HoldsRows s c.args.table.0 c.args.rows.now = rw (← c.self.view_is) at c.requires.held in
    let back = whole c.set_and_note-answer.new.relations (drop (length c.set_and_note-answer.new.relations) c.self.inside.relations.items) c.self.inside.relations.len (omega (arith, c.set_and_note-answer.auto.relations, ap length c.as_mut_slice.ensures.value, c.self.inside.relations.ok.0)) in
    rw (← c.self.view_is)
    (subst (λ rs. OnOk c.set_and_note-answer.result (HaveChanged s (record s { relations = rs }) c.args.table.0 c.args.rows.now (length c.args.assignments.now) c.args.cells.now.items c.keep_if_done.new.cells.items)) (sym back)
    (note_outline s c.self.invariant c.args.table c.args.assignments.now meant c.args.rows.now held c.requires.once c.set_and_note-answer.new.relations c.set_and_note-answer.result (drop (length c.args.cells.now.items) c.set_and_note-answer.new.cells.items)
    (rw c.as_mut_slice.ensures.value at c.set_and_note-answer.ensures.noted)
    c.args.cells.now.items c.keep_if_done.new.cells.items
    (list_more c.args.cells.now.items c.set_and_note-answer.result c.set_and_note-answer.new.cells.items c.keep_if_done.new.cells.items c.set_and_note-answer.ensures.others c.keep_if_done.ensures.done)))

pub returns-clause-refused : goal.returns-clause-refused
returns-clause-refused c =
    let s : CatalogState = record { limits = c.self.inside.limits; names = map string_bytes c.self.inside.names.keys; relations = c.self.inside.relations.items } in
    let meant : OfTable c.args.table (database_of s) (AreAssignable (database_of s) c.args.assignments.now) = rw (← c.self.view_is) at c.requires.meant in
    let held : HoldsRows s c.args.table.0 c.args.rows.now = rw (← c.self.view_is) at c.requires.held in
    rw (← c.self.view_is)
    (not_noted s c.self.invariant c.args.table c.args.assignments.now meant c.set_and_note-answer.result
    (rw c.as_mut_slice.ensures.value at c.set_and_note-answer.ensures.refused))

pub returns-clause-list : goal.returns-clause-list
returns-clause-list c =
    list_kept c.args.cells.now.items c.set_and_note-answer.result c.set_and_note-answer.new.cells.items c.keep_if_done.new.cells.items c.len-start.result (omega (arith, c.len-start.ensures, c.args.cells.now.ok.0)) c.set_and_note-answer.ensures.others c.keep_if_done.ensures.refused
