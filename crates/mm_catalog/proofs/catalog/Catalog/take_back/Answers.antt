use Rattle.std.proofs.Common.{◌≡◌, ◌<◌, length, map, drop, refl, sym, ap, subst, arith}
use Rattle.std.specs.String.{string_bytes}
use Rattle.mm_catalog.specs.State.{CatalogState}
use Rattle.mm_catalog.specs.Seen.{database_of}
use Rattle.mm_catalog.specs.Consistent.{IsConsistent}
use Rattle.mm_catalog.specs.Loaded.{AreFreeRows, HaveGone}
use Rattle.mm_catalog.specs.Outline.{outline_of, without_rows}
use Rattle.mm_catalog.specs.Picked.{HoldsRows}
use Rattle.mm_catalog.proofs.Lists.{whole}
use Rattle.mm_catalog.proofs.Tables.{database-length}
use Rattle.mm_catalog.proofs.Deleting.{taken_out}
use Rattle.mm_catalog.proofs.Outlined.{gone_outlined}
use Rattle.mm_catalog.proofs.catalog.Catalog.take_back.Goals as goal
use Rattle.mm_catalog.proofs.Standing.{stands_at}

pub take_out-requires : goal.take_out-requires
take_out-requires c =
    let s : CatalogState = record { limits = c.self.inside.limits; names = map string_bytes c.self.inside.names.keys; relations = c.self.inside.relations.items } in
    let there : c.args.table.0 < length (database_of s) = rw (← c.self.view_is) at c.requires.there in
    let held : HoldsRows s c.args.table.0 c.args.rows.now = rw (← c.self.view_is) at c.requires.held in
    rw c.as_mut_slice.ensures.value (record {
      there = omega (arith, there, database-length s c.self.invariant.named);
      stands = stands_at s c.self.invariant c.args.table.0;
      held = held;
      once = c.requires.once;
    })

pub invariant_of-self : goal.invariant_of-self
invariant_of-self c =
    let s : CatalogState = record { limits = c.self.inside.limits; names = map string_bytes c.self.inside.names.keys; relations = c.self.inside.relations.items } in
    let held : HoldsRows s c.args.table.0 c.args.rows.now = rw (← c.self.view_is) at c.requires.held in
    let free : AreFreeRows s c.args.table.0 c.args.rows.now = rw (← c.self.view_is) at c.requires.free in
    let back = whole c.take_out.new.relations (drop (length c.take_out.new.relations) c.self.inside.relations.items) c.self.inside.relations.len (omega (arith, c.take_out.auto.relations, ap length c.as_mut_slice.ensures.value, c.self.inside.relations.ok.0)) in
    subst (λ rs. IsConsistent (record s { relations = rs })) (sym back)
    (taken_out s c.self.invariant c.args.table c.args.rows.now c.take_out.new.relations held c.requires.once free
    (rw c.as_mut_slice.ensures.value at c.take_out.ensures.deleted))

pub returns : goal.returns
returns c =
    let s : CatalogState = record { limits = c.self.inside.limits; names = map string_bytes c.self.inside.names.keys; relations = c.self.inside.relations.items } in
    let free : AreFreeRows s c.args.table.0 c.args.rows.now = rw (← c.self.view_is) at c.requires.free in
    let back = whole c.take_out.new.relations (drop (length c.take_out.new.relations) c.self.inside.relations.items) c.self.inside.relations.len (omega (arith, c.take_out.auto.relations, ap length c.as_mut_slice.ensures.value, c.self.inside.relations.ok.0)) in
    let gone : HaveGone s (record s { relations = c.take_out.new.relations }) c.args.table.0 c.args.rows.now = record { out = rw c.as_mut_slice.ensures.value at c.take_out.ensures; same = refl } in
    rw (← c.self.view_is) (record {
      gone = subst (λ rs. HaveGone s (record s { relations = rs }) c.args.table.0 c.args.rows.now) (sym back) gone;
      outline =
          subst (λ rs. outline_of (record s { relations = rs }) ≡ without_rows c.args.table.0 c.args.rows.now (outline_of s)) (sym back)
          (gone_outlined s (record s { relations = c.take_out.new.relations }) c.args.table.0 c.args.rows.now gone free);
    })
