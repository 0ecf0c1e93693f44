use Rattle.std.proofs.Common.{◌≡◌, ◌++◌, length, map, take, drop, sym, ap, ◌∙◌, subst, arith, refl}
use Rattle.std.specs.List.{remove}
use Rattle.std.specs.String.{string_bytes}
use Rattle.indexmap.proofs.SetLemmas.{map-remove}
use Rattle.plain_tables.specs.ResolvedLaws.{IsMeant}
use Rattle.plain_tables.specs.declared.resolved.Resolved.TheVariants as resolved
use Rattle.mm_catalog.specs.State.{CatalogState}
use Rattle.mm_catalog.specs.Seen.{database_of}
use Rattle.mm_catalog.specs.Dropped.{moved_up, renumbered}
use Rattle.mm_catalog.proofs.Lists.{whole}
use Rattle.mm_catalog.proofs.Dropping.{within, told_others, table_dropped}
use Rattle.mm_catalog.proofs.catalog.Catalog.drop_table.Goals as goal
use Rattle.mm_catalog.proofs.catalog.Catalog.drop_table.Goals.{After-as_mut_slice-2, After-renumber_from}
use Rattle.mm_catalog.proofs.Standing.{stands_at}
use Rattle.mm_catalog.specs.Consistent.{IsConsistent}
use Rattle.mm_catalog.specs.Changes.{IsDone}

pub unlink-requires : goal.unlink-requires
unlink-requires c =
    let s : CatalogState = record { limits = c.self.inside.limits; names = map string_bytes c.self.inside.names.keys; relations = c.self.inside.relations.items } in
    let meant : IsMeant s.limits (database_of s) (resolved.DropTable c.args.table) = rw (← c.self.view_is) at c.requires in
    rw c.as_mut_slice.ensures.value (record { there = within s c.self.invariant c.args.table meant; stands = stands_at s c.self.invariant c.args.table.0 })

pub remove-requires : goal.remove-requires
remove-requires c =
    let s : CatalogState = record { limits = c.self.inside.limits; names = map string_bytes c.self.inside.names.keys; relations = c.self.inside.relations.items } in
    let meant : IsMeant s.limits (database_of s) (resolved.DropTable c.args.table) = rw (← c.self.view_is) at c.requires in
    omega (arith, within s c.self.invariant c.args.table meant, c.self.inside.relations.ok.0)

-- the relations without the one of the table
others : (c : After-as_mut_slice-2) → c.as_mut_slice-2.result.now ≡ remove c.unlink.new.relations c.args.table.0
others c =
    let back = whole c.unlink.new.relations (drop (length c.unlink.new.relations) c.self.inside.relations.items) c.self.inside.relations.len (omega (arith, c.unlink.auto.relations, ap length c.as_mut_slice.ensures.value, c.self.inside.relations.ok.0)) in
    c.as_mut_slice-2.ensures.value ∙ c.remove.ensures.items ∙ ap (λ rs. remove rs c.args.table.0) back

pub renumber_from-requires-clause-can : goal.renumber_from-requires-clause-can
renumber_from-requires-clause-can c =
    let s : CatalogState = record { limits = c.self.inside.limits; names = map string_bytes c.self.inside.names.keys; relations = c.self.inside.relations.items } in
    let meant : IsMeant s.limits (database_of s) (resolved.DropTable c.args.table) = rw (← c.self.view_is) at c.requires in
    rw (others (goal.at.renumber_from-requires-clause-can c).After-as_mut_slice-2)
    (told_others s c.self.invariant c.args.table meant c.unlink.new.relations (rw c.as_mut_slice.ensures.value at c.unlink.ensures))

abbrev seen : After-renumber_from → CatalogState
seen c = record { limits = c.self.inside.limits; names = map string_bytes c.self.inside.names.keys; relations = c.self.inside.relations.items }

-- the table is gone, and the catalog is consistent
dropped : (c : After-renumber_from) → c.as_mut_slice-2.result.now ≡ remove c.unlink.new.relations c.args.table.0
    → (d : CatalogState) → d ≡ record (seen c) { names = map string_bytes c.shift_remove_index.new.self.keys; relations = take c.remove.new.self.len (c.renumber_from.new.relations ++ drop (length c.renumber_from.new.relations) c.remove.new.self.items) }
    → IsConsistent d × IsDone (seen c) d (resolved.DropTable c.args.table)
dropped c left d is =
    let s = seen c in
    let n = c.args.table.0 in
    let meant : IsMeant s.limits (database_of s) (resolved.DropTable c.args.table) = rw (← c.self.view_is) at c.requires in
    let told = c.renumber_from.ensures ∙ ap (λ rs. take n rs ++ map (renumbered (moved_up n)) (drop n rs)) left in
    let names = ap (map string_bytes) c.shift_remove_index.ensures.keys ∙ map-remove string_bytes c.self.inside.names.keys n in
    let again = whole c.renumber_from.new.relations (drop (length c.renumber_from.new.relations) c.remove.new.self.items) c.remove.new.self.len (omega (arith, c.renumber_from.auto.relations, ap length c.as_mut_slice-2.ensures.value, c.remove.new.self.ok.0)) in
    let gone = table_dropped s c.self.invariant c.args.table meant c.unlink.new.relations (rw c.as_mut_slice.ensures.value at c.unlink.ensures) (map string_bytes c.shift_remove_index.new.self.keys)
    (take c.remove.new.self.len (c.renumber_from.new.relations ++ drop (length c.renumber_from.new.relations) c.remove.new.self.items)) names (again ∙ told) in
    subst (λ e. IsConsistent e × IsDone s e (resolved.DropTable c.args.table)) (sym is) (gone.consistent, gone.done)

pub invariant_of-self : goal.invariant_of-self
invariant_of-self c =
    let at = goal.at.invariant_of-self c in
    (dropped at.After-renumber_from (others at.After-as_mut_slice-2) _ refl).0

pub returns : goal.returns
returns c =
    let at = goal.at.returns c in
    rw (← c.self.view_is) (dropped at.After-renumber_from (others at.After-as_mut_slice-2) _ refl).1
