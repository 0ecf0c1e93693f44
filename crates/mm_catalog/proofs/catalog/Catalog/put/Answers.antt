use Rattle.std.proofs.Common.{length, map, drop, ap, arith, ◌++◌, take}
use Rattle.std.specs.String.{string_bytes}
use Rattle.common_lemmas.proofs.Places.{slice_get-inside}
use Rattle.plain_tables.specs.ResolvedLaws.{IsMeant}
use Rattle.plain_tables.specs.declared.resolved.Resolved.TheVariants as resolved
use Rattle.mm_catalog.specs.State.{CatalogState}
use Rattle.mm_catalog.specs.Seen.{database_of}
use Rattle.mm_catalog.proofs.Lists.{whole}
use Rattle.mm_catalog.proofs.Among.{there_at}
use Rattle.mm_catalog.proofs.Inserted.{IsInsertedSo, inserted_so, some_value, values_width}
use Rattle.mm_catalog.proofs.catalog.Catalog.put.Given.{Over}
use Rattle.mm_catalog.proofs.catalog.Catalog.put.Goals as goal
use Rattle.mm_catalog.proofs.catalog.Catalog.put.Goals.{After-insert}
use Rattle.mm_catalog.proofs.Standing.{stands_at}

pub insert-requires : goal.insert-requires
insert-requires g c =
    let s : CatalogState = record { limits = c.self.inside.limits; names = map string_bytes c.self.inside.names.keys; relations = c.self.inside.relations.items } in
    let ok = c.self.invariant in
    let meant : IsMeant s.limits (database_of s) (resolved.Insert c.args.table (g.V.RowValues.left c.args.values)) = rw (← c.self.view_is) at c.requires in
    let within = there_at s ok c.args.table.0 meant.0 meant.1 in
    let there = slice_get-inside s.relations c.args.table.0 within in
    rw c.as_mut_slice.ensures.value (record {
      few = ok.rows;
      there = within;
      stands = stands_at s ok c.args.table.0;
      some = some_value s ok c.args.table (g.V.RowValues.left c.args.values) meant there.0 there.1;
      width = values_width s ok c.args.table (g.V.RowValues.left c.args.values) meant;
    })

abbrev seen : (g : Over) → After-insert g → CatalogState
seen g c = record { limits = c.self.inside.limits; names = map string_bytes c.self.inside.names.keys; relations = c.self.inside.relations.items }

answered : (g : Over) (c : After-insert g) → IsInsertedSo (seen g c) c.args.table (g.V.RowValues.left c.args.values) c.insert.result
    (record (seen g c) { relations = take c.self.inside.relations.len (c.insert.new.relations ++ drop (length c.insert.new.relations) c.self.inside.relations.items) })
answered g c =
    let meant : IsMeant (seen g c).limits (database_of (seen g c)) (resolved.Insert c.args.table (g.V.RowValues.left c.args.values)) = rw (← c.self.view_is) at c.requires in
    let back = whole c.insert.new.relations (drop (length c.insert.new.relations) c.self.inside.relations.items) c.self.inside.relations.len (omega (arith, c.insert.auto.relations, ap length c.as_mut_slice.ensures.value, c.self.inside.relations.ok.0)) in
    let at = c.insert.ensures in
    rw back (inserted_so (seen g c) c.self.invariant c.args.table (g.V.RowValues.left c.args.values) meant c.insert.new.relations c.insert.result
    (rw c.as_mut_slice.ensures.value at at.inserted) (rw c.as_mut_slice.ensures.value at at.refused) (rw c.as_mut_slice.ensures.value at at.unchanged))

pub invariant_of-self : goal.invariant_of-self
invariant_of-self g c = (answered g (goal.at.invariant_of-self g c).After-insert).consistent

pub returns : goal.returns
returns g c =
    let so = answered g (goal.at.returns g c).After-insert in
    rw (← c.self.view_is) (record { inserted = so.effect; came = so.came; refused = so.refused })
