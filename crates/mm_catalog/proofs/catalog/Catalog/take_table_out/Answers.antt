use Rattle.std.proofs.Common.{◌≡◌, ◌++◌, Some, length, map, take, drop, sym, ap, ◌∙◌, subst, arith, refl, ◌≤◌}
use Rattle.std.specs.List.{remove, slice_get}
use Rattle.std.specs.FinMap as finite
use Rattle.std.specs.Option.{option_map}
use Rattle.std.specs.String.{string_bytes}
use Rattle.std.proofs.lemmas.List.{length-map}
use Rattle.std.proofs.lemmas.Option.{none-some, slice_get-get_or, slice_get-map}
use Rattle.common_lemmas.proofs.Places.{slice_get-inside}
use Rattle.indexmap.proofs.SetLemmas.{map-remove}
use Rattle.plain_tables.specs.ResolvedLaws.{IsMeant}
use Rattle.plain_tables.specs.declared.resolved.Resolved.TheVariants as resolved
use Rattle.mm_relation.specs.State.{RelationState}
use Rattle.mm_catalog.specs.State.{CatalogState}
use Rattle.mm_catalog.specs.Seen.{database_of}
use Rattle.mm_catalog.specs.Changes.{IsDone}
use Rattle.mm_catalog.specs.Consistent.{IsConsistent}
use Rattle.mm_catalog.specs.Dropped.{moved_up, renumbered}
use Rattle.mm_catalog.specs.DroppedTables.{HasTableLess}
use Rattle.mm_catalog.specs.Outline.{outline_of}
use Rattle.mm_catalog.proofs.Dropping.{told_others, within}
use Rattle.mm_catalog.proofs.Lists.{whole}
use Rattle.mm_catalog.proofs.TableOut.{table_out, unlinked}
use Rattle.mm_catalog.proofs.catalog.Catalog.take_table_out.Goals as goal
use Rattle.mm_catalog.proofs.catalog.Catalog.take_table_out.Goals.{After-as_mut_slice, After-remove-relation, After-renumber_from}

pub remove-relation-requires : goal.remove-relation-requires
remove-relation-requires c =
    let s : CatalogState = record { limits = c.self.inside.limits; names = map string_bytes c.self.inside.names.keys; relations = c.self.inside.relations.items } in
    let meant : IsMeant s.limits (database_of s) (resolved.DropTable c.args.table) = rw (← c.self.view_is) at c.requires.meant in
    omega (arith, within s c.self.invariant c.args.table meant, c.self.inside.relations.ok.0)

pub unreachable-requires : goal.unreachable-requires
unreachable-requires c =
    let s : CatalogState = record { limits = c.self.inside.limits; names = map string_bytes c.self.inside.names.keys; relations = c.self.inside.relations.items } in
    let meant : IsMeant s.limits (database_of s) (resolved.DropTable c.args.table) = rw (← c.self.view_is) at c.requires.meant in
    let keys = c.self.inside.names.keys in
    let name = slice_get-inside keys c.args.table.0 (omega (arith, within s c.self.invariant c.args.table meant, c.self.invariant.named, length-map keys string_bytes)) in
    none-some name.0 (sym c.in_default.is ∙ c.shift_remove_index.ensures.key ∙ name.1)

-- the table has its relation, which has no rows
there : (c : After-remove-relation) → (slice_get c.self.inside.relations.items c.args.table.0 ≡ Some c.remove-relation.result) × (c.remove-relation.result.rows ≡ finite.empty)
there c =
    let s : CatalogState = record { limits = c.self.inside.limits; names = map string_bytes c.self.inside.names.keys; relations = c.self.inside.relations.items } in
    let meant : IsMeant s.limits (database_of s) (resolved.DropTable c.args.table) = rw (← c.self.view_is) at c.requires.meant in
    let empty : (r : RelationState) → slice_get s.relations c.args.table.0 ≡ Some r → r.rows ≡ finite.empty = rw (← c.self.view_is) at c.requires.empty in
    let at : slice_get s.relations c.args.table.0 ≡ Some c.remove-relation.result =
    slice_get-get_or s.relations c.args.table.0 c.remove-relation.result (within s c.self.invariant c.args.table meant) ∙ ap (λ (r : RelationState). Some r) (sym c.remove-relation.ensures.value) in
    (at, empty c.remove-relation.result at)

-- the relations without the one of the table
others : (c : After-as_mut_slice) → c.as_mut_slice.result.now ≡ remove c.self.inside.relations.items c.args.table.0
others c = c.as_mut_slice.ensures.value ∙ c.remove-relation.ensures.items

pub renumber_from-requires-clause-can : goal.renumber_from-requires-clause-can
renumber_from-requires-clause-can c =
    let at = goal.at.renumber_from-requires-clause-can c in
    let s : CatalogState = record { limits = c.self.inside.limits; names = map string_bytes c.self.inside.names.keys; relations = c.self.inside.relations.items } in
    let meant : IsMeant s.limits (database_of s) (resolved.DropTable c.args.table) = rw (← c.self.view_is) at c.requires.meant in
    let its = there at.After-remove-relation in
    rw (others at.After-as_mut_slice)
    (told_others s c.self.invariant c.args.table meant s.relations (unlinked s c.self.invariant c.args.table meant c.remove-relation.result its.0 its.1))

abbrev seen : After-renumber_from → CatalogState
seen c = record { limits = c.self.inside.limits; names = map string_bytes c.self.inside.names.keys; relations = c.self.inside.relations.items }

-- the table is out, and the catalog is consistent
out : (c : After-renumber_from) → (slice_get c.self.inside.relations.items c.args.table.0 ≡ Some c.remove-relation.result) × (c.remove-relation.result.rows ≡ finite.empty)
    → c.as_mut_slice.result.now ≡ remove c.self.inside.relations.items c.args.table.0
    → (d : CatalogState) → d ≡ record (seen c) { names = map string_bytes c.shift_remove_index.new.self.keys; relations = take c.remove-relation.new.self.len (c.renumber_from.new.relations ++ drop (length c.renumber_from.new.relations) c.remove-relation.new.self.items) }
    → IsConsistent d × IsDone (seen c) d (resolved.DropTable c.args.table)
    × HasTableLess (outline_of (seen c)) (outline_of d) (record { number = c.args.table.0; name = string_bytes c.in-Some.name; relation = c.remove-relation.result; places = c.args.room })
out c its left d is =
    let s = seen c in
    let n = c.args.table.0 in
    let meant : IsMeant s.limits (database_of s) (resolved.DropTable c.args.table) = rw (← c.self.view_is) at c.requires.meant in
    let room : length s.relations ≤ c.args.room = rw (← c.self.view_is) at c.requires.room in
    let keys = c.self.inside.names.keys in
    let called : slice_get s.names n ≡ Some (string_bytes c.in-Some.name) = slice_get-map string_bytes keys n ∙ ap (option_map string_bytes) (sym c.shift_remove_index.ensures.key ∙ c.in-Some.is) in
    let told = c.renumber_from.ensures ∙ ap (λ rs. take n rs ++ map (renumbered (moved_up n)) (drop n rs)) left in
    let names = ap (map string_bytes) c.shift_remove_index.ensures.keys ∙ map-remove string_bytes keys n in
    let again = whole c.renumber_from.new.relations (drop (length c.renumber_from.new.relations) c.remove-relation.new.self.items) c.remove-relation.new.self.len (omega (arith, c.renumber_from.auto.relations, ap length c.as_mut_slice.ensures.value, c.remove-relation.new.self.ok.0)) in
    let gone = table_out s c.self.invariant c.args.table meant c.remove-relation.result its.0 its.1 (string_bytes c.in-Some.name) called c.args.room room (map string_bytes c.shift_remove_index.new.self.keys)
    (take c.remove-relation.new.self.len (c.renumber_from.new.relations ++ drop (length c.renumber_from.new.relations) c.remove-relation.new.self.items)) names (again ∙ told) in
    subst (λ e. IsConsistent e × IsDone s e (resolved.DropTable c.args.table) × HasTableLess (outline_of s) (outline_of e) (record { number = n; name = string_bytes c.in-Some.name; relation = c.remove-relation.result; places = c.args.room }))
    (sym is) (gone.0.consistent, gone.0.done, gone.1)

pub invariant_of-self : goal.invariant_of-self
invariant_of-self c =
    let at = goal.at.invariant_of-self c in
    (out at.After-renumber_from (there at.After-remove-relation) (others at.After-as_mut_slice) _ refl).0

pub returns-clause-done : goal.returns-clause-done
returns-clause-done c =
    let at = goal.at.returns-clause-done c in
    rw (← c.self.view_is) (out at.After-renumber_from (there at.After-remove-relation) (others at.After-as_mut_slice) _ refl).1

pub returns-clause-taken : goal.returns-clause-taken
returns-clause-taken c =
    let at = goal.at.returns-clause-taken c in
    rw (← c.self.view_is) (out at.After-renumber_from (there at.After-remove-relation) (others at.After-as_mut_slice) _ refl).2
