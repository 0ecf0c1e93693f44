use Rattle.std.proofs.Common.{◌∙◌, ◌++◌, List, [], ◌∷◌, sym, ap, is_some, append_assoc}
use Rattle.part_raw.specs.declared.tuple_ref.TupleRef.{TupleRef}
use Rattle.ttree.specs.Held.{rest_of}
use Rattle.mm_catalog.proofs.Removing.{links_held}
use Rattle.mm_catalog.specs.Linked.{row_links}
use Rattle.mm_catalog.proofs.Counted.{all_held_still, counted_none}
use Rattle.mm_catalog.proofs.Unlinking.{listed_row, unlinked_next, enough_next, unlinked_whole}
use Rattle.mm_catalog.proofs.removal.count_down_relation.Goals as goal

pub loop-r-init : goal.loop-r-init
loop-r-init c = record {
  split = sym c.walk-r-items.ensures ∙ ap rest_of (sym c.into_iter-r-iterator.ensures.into_iter_gives);
  counted = counted_none c.args.before.now c.requires.kept;
}

pub count_down_links-requires-clause-held : goal.count_down_links-requires-clause-held
count_down_links-requires-clause-held c =
    let split = c.loop-r.invariant.split ∙ ap (λ (rs : List TupleRef). c.loop-r.yielded ++ rs) c.in-Some.ensures.steps in
    ap is_some (listed_row c.args.relation.now c.a_relation_is_kept.ensures c.loop-r.yielded (rest_of c.next.new.self) c.in-Some.r split).1

pub count_down_links-requires-clause-named : goal.count_down_links-requires-clause-named
count_down_links-requires-clause-named c = λ row at.
    all_held_still c.args.before.now c.loop-r.before (row_links c.args.relation.now.targets row) c.loop-r.invariant.counted.recounted
    (links_held c.args.before.now c.args.relation.now c.in-Some.r row c.requires.current c.requires.counted at)

pub count_down_links-requires-clause-enough : goal.count_down_links-requires-clause-enough
count_down_links-requires-clause-enough c = λ row at.
    let split = c.loop-r.invariant.split ∙ ap (λ (rs : List TupleRef). c.loop-r.yielded ++ rs) c.in-Some.ensures.steps in
    enough_next c.args.relation.now c.args.before.now c.loop-r.before c.loop-r.yielded (rest_of c.next.new.self) c.in-Some.r row at split
    c.requires.enough c.loop-r.invariant.counted

pub loop-r-preserved : goal.loop-r-preserved
loop-r-preserved c =
    let y = c.loop-r.yielded in
    let r = c.in-Some.r in
    let rest = rest_of c.next.new.self in
    let split = c.loop-r.invariant.split ∙ ap (λ (rs : List TupleRef). y ++ rs) c.in-Some.ensures.steps in
    let there = listed_row c.args.relation.now c.a_relation_is_kept.ensures y rest r split in
    record {
      split = split ∙ sym (append_assoc y (r ∷ []) rest);
      counted = unlinked_next c.args.relation.now c.args.before.now c.loop-r.before c.count_down_links.new.before y r there.0 there.1 c.loop-r.invariant.counted (c.count_down_links.ensures there.0 there.1);
    }

pub returns : goal.returns
returns c =
    unlinked_whole c.args.relation.now c.args.before.now c.loop-r.before c.loop-r.yielded
    (c.loop-r.invariant.split ∙ ap (λ (rs : List TupleRef). c.loop-r.yielded ++ rs) c.in-None.ensures.steps.0) c.loop-r.invariant.counted
