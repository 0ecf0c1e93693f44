use Rattle.std.proofs.Common.{◌≡◌, None, IsSome, Some, arith, drop, length, map, refl, sym, ap, ◌∙◌, subst}
use Rattle.std.specs.FinMap.{get}
use Rattle.std.specs.List.{slice_get}
use Rattle.std.specs.String.{string_bytes}
use Rattle.std.proofs.lemmas.Option.{same_Some, slice_get_read}
use Rattle.part_raw.specs.declared.tuple_ref.TupleRef.{TupleRef}
use Rattle.mm_relation.specs.State.{RelationState}
use Rattle.mm_catalog.specs.State.{CatalogState}
use Rattle.mm_catalog.specs.Consistent.{IsConsistent}
use Rattle.mm_catalog.specs.Outline.{HidesOnce, IsOutline, outline_of, with_shown}
use Rattle.mm_catalog.proofs.Lists.{whole}
use Rattle.mm_catalog.proofs.ShownAgain.{can_show, relation_there, shown_so}
use Rattle.mm_catalog.proofs.catalog.Catalog.show.Goals as goal

pub show_rows-requires : goal.show_rows-requires
show_rows-requires c =
    let s : CatalogState = record { limits = c.self.inside.limits; names = map string_bytes c.self.inside.names.keys; relations = c.self.inside.relations.items } in
    let hides : HidesOnce (outline_of s) c.args.table.0 c.args.rows.now = rw (← c.self.view_is) at c.requires.hides in
    let there = relation_there s c.self.invariant c.args.table.0 c.args.rows.now hides in
    let stands : IsOutline (with_shown c.args.table.0 c.args.rows.now (outline_of s)) = rw (← c.self.view_is) at c.requires.stands in
    let b = c.index.result.now in
    let read : slice_get s.relations c.args.table.0 ≡ Some b = slice_get_read s.relations (length s.relations) c.args.table.0 b refl there c.index.ensures in
    rw c.as_mut_slice.ensures.value (record {
      there = there;
      shows = can_show s c.self.invariant c.args.table.0 c.args.rows.now hides stands
          (λ t at. subst (λ (u : RelationState). (r : TupleRef) → IsSome (get u.hidden r) → get u.rows r ≡ None) (same_Some b t (sym read ∙ at)) c.hidden_rows_are_apart.ensures);
    })

pub invariant_of-self : goal.invariant_of-self
invariant_of-self c =
    let s : CatalogState = record { limits = c.self.inside.limits; names = map string_bytes c.self.inside.names.keys; relations = c.self.inside.relations.items } in
    let hides : HidesOnce (outline_of s) c.args.table.0 c.args.rows.now = rw (← c.self.view_is) at c.requires.hides in
    let there = relation_there s c.self.invariant c.args.table.0 c.args.rows.now hides in
    let stands : IsOutline (with_shown c.args.table.0 c.args.rows.now (outline_of s)) = rw (← c.self.view_is) at c.requires.stands in
    let back = whole c.show_rows.new.relations (drop (length c.show_rows.new.relations) c.self.inside.relations.items) c.self.inside.relations.len (omega (arith, c.show_rows.auto.relations, ap length c.as_mut_slice.ensures.value, c.self.inside.relations.ok.0)) in
    subst (λ rs. IsConsistent (record s { relations = rs })) (sym back)
    (shown_so s c.self.invariant c.args.table.0 c.args.rows.now hides stands c.show_rows.new.relations (rw c.as_mut_slice.ensures.value at c.show_rows.ensures)).0

pub returns : goal.returns
returns c =
    let s : CatalogState = record { limits = c.self.inside.limits; names = map string_bytes c.self.inside.names.keys; relations = c.self.inside.relations.items } in
    let hides : HidesOnce (outline_of s) c.args.table.0 c.args.rows.now = rw (← c.self.view_is) at c.requires.hides in
    let there = relation_there s c.self.invariant c.args.table.0 c.args.rows.now hides in
    let stands : IsOutline (with_shown c.args.table.0 c.args.rows.now (outline_of s)) = rw (← c.self.view_is) at c.requires.stands in
    let back = whole c.show_rows.new.relations (drop (length c.show_rows.new.relations) c.self.inside.relations.items) c.self.inside.relations.len (omega (arith, c.show_rows.auto.relations, ap length c.as_mut_slice.ensures.value, c.self.inside.relations.ok.0)) in
    rw (← c.self.view_is)
    (subst (λ rs. outline_of (record s { relations = rs }) ≡ with_shown c.args.table.0 c.args.rows.now (outline_of s)) (sym back)
    (shown_so s c.self.invariant c.args.table.0 c.args.rows.now hides stands c.show_rows.new.relations (rw c.as_mut_slice.ensures.value at c.show_rows.ensures)).1)
