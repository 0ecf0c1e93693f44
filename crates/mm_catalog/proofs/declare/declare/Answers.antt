use Rattle.std.proofs.Common.{◌++◌, get_or, set, take, sym, ap, ◌∙◌, subst}
use Rattle.mm_relation.specs.State.{RelationState, IsCurrent, linked_keys}
use Rattle.mm_catalog.proofs.Lists.{set_first_behind}
use Rattle.mm_catalog.proofs.Taking.{split_here}
use Rattle.mm_catalog.proofs.declare.declare.Goals as goal

pub add_index-requires-clause-current : goal.add_index-requires-clause-current
add_index-requires-clause-current c =
    let d = c.index-rest-0.result in
    let s : RelationState = get_or c.split_at_mut-before.result.1.now 0 d in
    let at = split_here c.args.relations.now c.split_at_mut-before.result.1.now c.args.table.0 d c.requires.there c.split_at_mut-before.ensures.back in
    subst (λ rs. IsCurrent (linked_keys s.targets rs) s) (sym c.split_at_mut-before.ensures.front) (c.requires.current s at)

pub returns-clause-declared : goal.returns-clause-declared
returns-clause-declared c =
    let d = c.index-rest-0.result in
    let s : RelationState = get_or c.split_at_mut-before.result.1.now 0 d in
    let new : RelationState = c.add_index.new.self in
    let n = c.args.table.0 in
    record {
      before = s;
      after = new;
      there = split_here c.args.relations.now c.split_at_mut-before.result.1.now n d c.requires.there c.split_at_mut-before.ensures.back;
      list = ap (λ rs. rs ++ set c.split_at_mut-before.result.1.now 0 new) c.split_at_mut-before.ensures.front
          ∙ ap (λ rs. take n c.args.relations.now ++ set rs 0 new) c.split_at_mut-before.ensures.back
          ∙ set_first_behind c.args.relations.now n new c.requires.there;
      changed = c.in_ok-add_index.ensures.declared;
      kept = c.a_relation_is_kept.ensures;
      current = subst (λ rs. IsCurrent (linked_keys s.targets rs) new) c.split_at_mut-before.ensures.front c.in_ok-add_index.ensures.current;
    }
