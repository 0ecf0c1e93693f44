use Rattle.std.proofs.Common.{◌∙◌, ◌++◌, ◌∷◌, [], List, IsSome, ap, sym, append_assoc}
use Rattle.std.specs.FinMap as finite
use Rattle.part_raw.specs.declared.tuple_ref.TupleRef.{TupleRef}
use Rattle.ttree.specs.Held.{rest_of}
use Rattle.mm_relation.specs.State.{tree_list}
use Rattle.temp_list.proofs.Walks.{holds_next}
use Rattle.mm_reason.proofs.referrers.naming_key.Goals as goal

pub row-requires : goal.row-requires
row-requires c =
    let split = c.loop-r.invariant ∙ ap (λ (rs : List TupleRef). c.loop-r.yielded ++ rs) c.in-Some.ensures.steps in
    holds_next (λ r. IsSome (finite.get c.args.relation.now.rows r)) (tree_list c.args.relation.now.by_key) c.loop-r.yielded (rest_of c.next.new.self) c.in-Some.r split
    c.a_relation_is_kept.ensures.keyed.lists.held

pub loop-r-preserved : goal.loop-r-preserved
loop-r-preserved c =
    c.loop-r.invariant ∙ ap (λ (rs : List TupleRef). c.loop-r.yielded ++ rs) c.in-Some.ensures.steps
    ∙ sym (append_assoc c.loop-r.yielded (c.in-Some.r ∷ []) (rest_of c.next.new.self))
