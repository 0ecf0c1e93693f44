use Rattle.std.proofs.Common.{◌≡◌, ◌++◌, length, map, take, drop, get_or, sym, ap, ◌∙◌, subst, arith, refl}
use Rattle.std.specs.List.{All, insert}
use Rattle.std.specs.String.{string_bytes}
use Rattle.std.proofs.lemmas.Option.{slice_get-get_or}
use Rattle.indexmap.proofs.SetLemmas.{map-insert}
use Rattle.mm_catalog.specs.State.{CatalogState}
use Rattle.mm_catalog.specs.Consistent.{IsConsistent}
use Rattle.mm_catalog.specs.Dropped.{CanBeRenumbered, moved_down, renumbered}
use Rattle.mm_catalog.specs.DroppedTables.{CanHaveTable, DroppedTableState, with_table}
use Rattle.mm_catalog.specs.Outline.{IsOutline, outline_of}
use Rattle.mm_catalog.proofs.Dropping.{can_be_renumbered}
use Rattle.mm_catalog.proofs.Lists.{whole}
use Rattle.mm_catalog.proofs.TableBack.{all_told, consistent_back, name_new, outline_back}
use Rattle.mm_catalog.proofs.catalog.Catalog.put_table_back.Goals as goal
use Rattle.mm_catalog.proofs.catalog.Catalog.put_table_back.Goals.{After-put_relation}

pub renumber_from-requires-clause-can : goal.renumber_from-requires-clause-can
renumber_from-requires-clause-can c =
    let s : CatalogState = record { limits = c.self.inside.limits; names = map string_bytes c.self.inside.names.keys; relations = c.self.inside.relations.items } in
    subst (All CanBeRenumbered) (sym c.as_mut_slice.ensures.value) (λ k d l. can_be_renumbered s c.self.invariant k (get_or s.relations k d) (slice_get-get_or s.relations k d l))

pub put_name-requires-clause-new : goal.put_name-requires-clause-new
put_name-requires-clause-new c =
    let s : CatalogState = record { limits = c.self.inside.limits; names = map string_bytes c.self.inside.names.keys; relations = c.self.inside.relations.items } in
    let t : DroppedTableState = record { number = c.table.inside.number.0; name = string_bytes c.table.inside.name; relation = c.table.inside.relation; places = c.table.inside.room } in
    let can : CanHaveTable (outline_of s) t = rw (← c.self.view_is, ← c.table.view_is) at c.requires.can in
    let stands : IsOutline (with_table t (outline_of s)) = rw (← c.self.view_is, ← c.table.view_is) at c.requires.stands in
    name_new s c.self.invariant t can stands.0 stands.1 stands.2 c.self.inside.names.keys c.table.inside.name refl refl

abbrev seen : After-put_relation → CatalogState
seen c = record { limits = c.self.inside.limits; names = map string_bytes c.self.inside.names.keys; relations = c.self.inside.relations.items }

abbrev table : After-put_relation → DroppedTableState
table c = record { number = c.table.inside.number.0; name = string_bytes c.table.inside.name; relation = c.table.inside.relation; places = c.table.inside.room }

abbrev left : After-put_relation → CatalogState
left c = record (seen c) { names = map string_bytes c.put_name.new.names.keys; relations = c.put_relation.new.relations.items }

-- the table is back, and the catalog is consistent
put : (c : After-put_relation) → IsConsistent (left c) × (outline_of (left c) ≡ with_table (table c) (outline_of (seen c)))
put c =
    let s = seen c in
    let t = table c in
    let can : CanHaveTable (outline_of s) t = rw (← c.self.view_is, ← c.table.view_is) at c.requires.can in
    let stands : IsOutline (with_table t (outline_of s)) = rw (← c.self.view_is, ← c.table.view_is) at c.requires.stands in
    let told = c.renumber_from.ensures ∙ ap (λ rs. take t.number rs ++ map (renumbered (moved_down t.number)) (drop t.number rs)) c.as_mut_slice.ensures.value ∙ all_told s c.self.invariant t can in
    let again = whole c.renumber_from.new.relations (drop (length c.renumber_from.new.relations) c.self.inside.relations.items) c.self.inside.relations.len (omega (arith, c.renumber_from.auto.relations, ap length c.as_mut_slice.ensures.value, c.self.inside.relations.ok.0)) in
    let names = ap (map string_bytes) c.put_name.ensures ∙ map-insert string_bytes c.self.inside.names.keys t.number c.table.inside.name in
    let relations = c.put_relation.ensures ∙ ap (λ rs. insert rs t.number t.relation) (again ∙ told) in
    subst (λ b. IsConsistent b × (outline_of b ≡ with_table t (outline_of s))) (λ i. record s { names = sym names i; relations = sym relations i })
    (consistent_back s c.self.invariant t can stands.0 stands.1 stands.2, outline_back s c.self.invariant t can)

pub invariant_of-self : goal.invariant_of-self
invariant_of-self c = (put (goal.at.invariant_of-self c).After-put_relation).0

pub returns : goal.returns
returns c = rw (← c.self.view_is, ← c.table.view_is) (put (goal.at.returns c).After-put_relation).1
