use Rattle.std.proofs.Common.{◌++◌, get_or, length, set, sym, ap, subst}
use Rattle.mm_relation.specs.State.{RelationState, IsCurrent, linked_keys}
use Rattle.mm_catalog.specs.Hidden.{AreLinked, CanBeShown}
use Rattle.mm_catalog.proofs.Taking.{split_here}
use Rattle.mm_catalog.proofs.hiding.show_rows.Goals as goal

pub show_each-requires : goal.show_each-requires
show_each-requires c =
    let d = c.index-rest-0.result in
    let s : RelationState = get_or c.split_at_mut-before.result.1.now 0 d in
    subst (λ rs. CanBeShown rs s c.args.rows.now) (sym c.split_at_mut-before.ensures.front)
    (c.requires.shows s (split_here c.args.relations.now c.split_at_mut-before.result.1.now c.args.table.0 d c.requires.there c.split_at_mut-before.ensures.back))

pub returns : goal.returns
returns c =
    let d = c.index-rest-0.result in
    let n = c.args.table.0 in
    let s : RelationState = get_or c.split_at_mut-before.result.1.now 0 d in
    let new : RelationState = c.show_each.new.relation in
    record {
      front = c.show_each.new.before;
      before = s;
      after = new;
      there = split_here c.args.relations.now c.split_at_mut-before.result.1.now n d c.requires.there c.split_at_mut-before.ensures.back;
      list = ap (λ rs. c.show_each.new.before ++ set rs 0 new) c.split_at_mut-before.ensures.back;
      linked = subst (λ rs. AreLinked rs c.show_each.new.before s new (length c.args.rows.now)) c.split_at_mut-before.ensures.front c.show_each.ensures.linked;
      shown = c.show_each.ensures.shown;
      owed = c.show_each.ensures.owed;
      kept = c.show_each.ensures.kept;
      current = subst (λ rs. IsCurrent (linked_keys s.targets rs) new) c.split_at_mut-before.ensures.front c.show_each.ensures.current;
    }
