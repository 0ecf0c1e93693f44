use Rattle.std.proofs.Common.{◌∙◌, ◌++◌, List, [], ◌∷◌, sym, ap, append-nil, append_assoc, arith, length, length-append}
use Rattle.part_raw.specs.declared.tuple_ref.TupleRef.{TupleRef}
use Rattle.ttree.specs.Held.{rest_of}
use Rattle.mm_catalog.proofs.emptying.list_rows.Goals as goal

pub loop-r-init : goal.loop-r-init
loop-r-init c =
    let same = c.in_ok-make_room.ensures.same in
    record {
      split = sym c.walk-r-items.ensures ∙ ap rest_of (sym c.into_iter-r-iterator.ensures.into_iter_gives);
      listed = same ∙ sym (append-nil c.args.refs.now.items);
      room = omega (arith, c.in_ok-make_room.ensures.room, ap length same, c.len.ensures.value, c.a_relation_is_kept.ensures.keyed.lists.count);
    }

pub push_reserved-requires : goal.push_reserved-requires
push_reserved-requires c =
    let split = c.loop-r.invariant.split ∙ ap (λ (rs : List TupleRef). c.loop-r.yielded ++ rs) c.in-Some.ensures.steps in
    omega (arith, c.loop-r.invariant.room, ap length c.loop-r.invariant.listed, length-append c.args.refs.now.items c.loop-r.yielded, ap length split, length-append c.loop-r.yielded (c.in-Some.r ∷ rest_of c.next.new.self), c.loop-r.refs.ok.0)

pub loop-r-preserved : goal.loop-r-preserved
loop-r-preserved c =
    let y = c.loop-r.yielded in
    let r = c.in-Some.r in
    let split = c.loop-r.invariant.split ∙ ap (λ (rs : List TupleRef). y ++ rs) c.in-Some.ensures.steps in
    record {
      split = split ∙ sym (append_assoc y (r ∷ []) (rest_of c.next.new.self));
      listed = c.push_reserved.ensures.items ∙ ap (λ rs. rs ++ r ∷ []) c.loop-r.invariant.listed ∙ append_assoc c.args.refs.now.items y (r ∷ []);
      room = omega (arith, c.loop-r.invariant.room, c.push_reserved.ensures.capacity);
    }

pub returns-clause-listed : goal.returns-clause-listed
returns-clause-listed c =
    let whole = c.loop-r.invariant.split ∙ ap (λ (rs : List TupleRef). c.loop-r.yielded ++ rs) c.in-None.ensures.steps.0 ∙ append-nil c.loop-r.yielded in
    c.loop-r.invariant.listed ∙ ap (λ (rs : List TupleRef). c.args.refs.now.items ++ rs) (sym whole)
