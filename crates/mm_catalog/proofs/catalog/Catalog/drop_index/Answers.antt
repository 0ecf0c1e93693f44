use Rattle.std.proofs.Common.{◌≡◌, List, length, map, drop, refl, sym, ap, subst, arith, take, ◌++◌}
use Rattle.std.specs.String.{string_bytes}
use Rattle.plain_tables.specs.declared.resolved.Resolved.TheVariants as resolved
use Rattle.mm_relation.specs.Declaring.{declaration}
use Rattle.mm_relation.specs.State.{RelationState}
use Rattle.mm_catalog.specs.Declarations.{without_declared}
use Rattle.mm_catalog.specs.Outline.{outline_of}
use Rattle.mm_catalog.specs.State.{CatalogState}
use Rattle.mm_catalog.specs.Seen.{database_of}
use Rattle.plain_tables.specs.ResolvedLaws.{IsMeant}
use Rattle.mm_catalog.proofs.Lists.{whole}
use Rattle.mm_catalog.proofs.Among.{there_at, current_at}
use Rattle.mm_catalog.proofs.Declared.{IsLeft, left_undeclared}
use Rattle.mm_catalog.proofs.IndexMore.{unindexed_outline}
use Rattle.mm_catalog.proofs.catalog.Catalog.drop_index.Goals as goal
use Rattle.mm_catalog.proofs.catalog.Catalog.drop_index.Goals.{After-undeclare}

pub undeclare-requires : goal.undeclare-requires
undeclare-requires c =
    let s : CatalogState = record { limits = c.self.inside.limits; names = map string_bytes c.self.inside.names.keys; relations = c.self.inside.relations.items } in
    let meant : IsMeant s.limits (database_of s) (resolved.DropIndex c.args.table c.args.column c.args.kind) = rw (← c.self.view_is) at c.requires in
    rw c.as_mut_slice.ensures.value (record {
      there = there_at s c.self.invariant c.args.table.0 meant.0 meant.1;
      current = current_at s c.self.invariant c.args.table.0;
    })

abbrev seen : After-undeclare → CatalogState
seen c = record { limits = c.self.inside.limits; names = map string_bytes c.self.inside.names.keys; relations = c.self.inside.relations.items }

abbrev relations_now : After-undeclare → List RelationState
relations_now c = take c.self.inside.relations.len (c.undeclare.new.relations ++ drop (length c.undeclare.new.relations) c.self.inside.relations.items)

back : (c : After-undeclare) → relations_now c ≡ c.undeclare.new.relations
back c = whole c.undeclare.new.relations (drop (length c.undeclare.new.relations) c.self.inside.relations.items) c.self.inside.relations.len (omega (arith, c.undeclare.auto.relations, ap length c.as_mut_slice.ensures.value, c.self.inside.relations.ok.0))

left : (c : After-undeclare) → IsLeft (seen c) (relations_now c) (resolved.DropIndex c.args.table c.args.column c.args.kind)
left c =
    let meant : IsMeant (seen c).limits (database_of (seen c)) (resolved.DropIndex c.args.table c.args.column c.args.kind) = rw (← c.self.view_is) at c.requires in
    rw (back c) (left_undeclared (seen c) c.self.invariant c.args.table c.args.column c.args.kind c.undeclare.new.relations meant (rw c.as_mut_slice.ensures.value at c.undeclare.ensures))

pub invariant_of-self : goal.invariant_of-self
invariant_of-self c = (left (goal.at.invariant_of-self c).After-undeclare).consistent

pub returns-clause-done : goal.returns-clause-done
returns-clause-done c = rw (← c.self.view_is) (record { database = (left (goal.at.returns-clause-done c).After-undeclare).database; limits = refl })

pub returns-clause-outline : goal.returns-clause-outline
returns-clause-outline c =
    let at = (goal.at.returns-clause-outline c).After-undeclare in
    rw (← c.self.view_is)
    (subst (λ rs. outline_of (record (seen at) { relations = rs }) ≡ without_declared c.args.table.0 (declaration c.args.column c.args.kind) (outline_of (seen at))) (sym (back at))
    (unindexed_outline (seen at) c.undeclare.new.relations c.args.table c.args.column c.args.kind (rw c.as_mut_slice.ensures.value at c.undeclare.ensures)))
