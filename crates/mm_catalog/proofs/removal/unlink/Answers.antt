use Rattle.std.proofs.Common.{List, ◌++◌, get_or, sym, ap, subst}
use Rattle.mm_relation.specs.State.{RelationState}
use Rattle.mm_catalog.specs.Linked.{relation_links}
use Rattle.mm_catalog.specs.Counted.{AreCountedBy, naming, none}
use Rattle.mm_catalog.proofs.Taking.{split_here}
use Rattle.mm_catalog.proofs.removal.unlink.Goals as goal
use Rattle.mm_catalog.specs.Standing.{StandsBeside}

pub count_down_relation-requires : goal.count_down_relation-requires
count_down_relation-requires c =
    let d = c.index-rest-0.result in
    let s : RelationState = get_or c.split_at_mut-before.result.1.now 0 d in
    subst (λ rs. StandsBeside rs s) (sym c.split_at_mut-before.ensures.front)
    (c.requires.stands s (split_here c.args.relations.now c.split_at_mut-before.result.1.now c.args.table.0 d c.requires.there c.split_at_mut-before.ensures.back))

pub returns : goal.returns
returns c =
    let d = c.index-rest-0.result in
    let s : RelationState = get_or c.split_at_mut-before.result.1.now 0 d in
    let at = split_here c.args.relations.now c.split_at_mut-before.result.1.now c.args.table.0 d c.requires.there c.split_at_mut-before.ensures.back in
    record {
      front = c.count_down_relation.new.before;
      relation = s;
      there = at;
      list = ap (λ (rs : List RelationState). c.count_down_relation.new.before ++ rs) c.split_at_mut-before.ensures.back;
      counted = subst (λ rs. AreCountedBy rs c.count_down_relation.new.before none (naming (relation_links s))) c.split_at_mut-before.ensures.front c.count_down_relation.ensures;
    }
