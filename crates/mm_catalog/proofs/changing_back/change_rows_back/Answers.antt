use Rattle.std.proofs.Common.{◌++◌, ◌*◌, get_or, length, set, sym, ap, subst}
use Rattle.mm_relation.specs.State.{RelationState, IsCurrent, linked_keys}
use Rattle.mm_catalog.specs.ChangedBack.{AreRelinked, CanAllBeChangedBack}
use Rattle.mm_catalog.proofs.Taking.{split_here}
use Rattle.mm_catalog.proofs.changing_back.change_rows_back.Goals as goal

pub change_each_back-requires : goal.change_each_back-requires
change_each_back-requires c =
    let d = c.index-rest-0.result in
    let s : RelationState = get_or c.split_at_mut-before.result.1.now 0 d in
    subst (λ rs. CanAllBeChangedBack rs s c.args.rows.now c.args.width c.args.cells.now) (sym c.split_at_mut-before.ensures.front)
    (c.requires.fit s (split_here c.args.relations.now c.split_at_mut-before.result.1.now c.args.table.0 d c.requires.there c.split_at_mut-before.ensures.back))

pub returns : goal.returns
returns c =
    let d = c.index-rest-0.result in
    let n = c.args.table.0 in
    let s : RelationState = get_or c.split_at_mut-before.result.1.now 0 d in
    let new : RelationState = c.change_each_back.new.relation in
    record {
      front = c.change_each_back.new.before;
      before = s;
      after = new;
      there = split_here c.args.relations.now c.split_at_mut-before.result.1.now n d c.requires.there c.split_at_mut-before.ensures.back;
      list = ap (λ rs. c.change_each_back.new.before ++ set rs 0 new) c.split_at_mut-before.ensures.back;
      linked = subst (λ rs. AreRelinked rs c.change_each_back.new.before s new (length c.args.rows.now * c.args.width)) c.split_at_mut-before.ensures.front c.change_each_back.ensures.linked;
      changed = c.change_each_back.ensures.changed;
      kept = c.change_each_back.ensures.kept;
      current = subst (λ rs. IsCurrent (linked_keys s.targets rs) new) c.split_at_mut-before.ensures.front c.change_each_back.ensures.current;
    }
