use Rattle.std.proofs.Common.{◌++◌, get_or, set, sym, ap, subst}
use Rattle.mm_relation.specs.State.{RelationState, IsCurrent, linked_keys}
use Rattle.mm_catalog.specs.Deleted.{AreUnlinked}
use Rattle.mm_catalog.proofs.Taking.{split_here}
use Rattle.mm_catalog.proofs.delete.take_out.Goals as goal
use Rattle.mm_catalog.specs.Standing.{StandsBeside}

pub remove_each-requires-clause-stands : goal.remove_each-requires-clause-stands
remove_each-requires-clause-stands c =
    let d = c.index-rest-0.result in
    let s : RelationState = get_or c.split_at_mut-before.result.1.now 0 d in
    subst (λ rs. StandsBeside rs s) (sym c.split_at_mut-before.ensures.front)
    (c.requires.stands s (split_here c.args.relations.now c.split_at_mut-before.result.1.now c.args.table.0 d c.requires.there c.split_at_mut-before.ensures.back))

pub returns : goal.returns
returns c =
    let d = c.index-rest-0.result in
    let n = c.args.table.0 in
    let s : RelationState = get_or c.split_at_mut-before.result.1.now 0 d in
    let new : RelationState = c.remove_each.new.relation in
    record {
      aside = c.remove_each.ensures.aside;
      deleted = record {
        front = c.remove_each.new.before;
        before = s;
        after = new;
        there = split_here c.args.relations.now c.split_at_mut-before.result.1.now n d c.requires.there c.split_at_mut-before.ensures.back;
        list = ap (λ rs. c.remove_each.new.before ++ set rs 0 new) c.split_at_mut-before.ensures.back;
        unlinked = subst (λ rs. AreUnlinked rs c.remove_each.new.before s new) c.split_at_mut-before.ensures.front c.remove_each.ensures.unlinked;
        removed = c.remove_each.ensures.removed;
        kept = c.remove_each.ensures.kept;
        current = subst (λ rs. IsCurrent (linked_keys s.targets rs) new) c.split_at_mut-before.ensures.front c.remove_each.ensures.current;
      };
    }
