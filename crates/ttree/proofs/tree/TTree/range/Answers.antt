use Rattle.std.proofs.Common.{◌≡◌, ◌≢◌, ◌∙◌, ◌++◌, List, [], ◌∷◌, length, true, sym, ap, append_assoc, arith, Ordering}
use Rattle.std.specs.declared.cmp.Ordering.TheVariants.{Equal}
use Rattle.std.specs.Result.{is_ok}
use Rattle.std.proofs.lemmas.List.{length_push}
use Rattle.std.proofs.lemmas.List.Elements.{All-push}
use Rattle.common_lemmas.proofs.Orders.{is_eq-Equal, not_Equal}
use Rattle.part_raw.specs.declared.tuple_ref.TupleRef.{TupleRef}
use Rattle.ttree_node.specs.Walk.{rest_of}
use Rattle.mm_index.specs.Range.{in_range}
use Rattle.mm_index.proofs.Asked.{IsOnlyAsked-trans, IsOnlyAsked-once, counted-le}
use Rattle.ttree.specs.Held.{items_of_tree}
use Rattle.ttree.proofs.Ranges.{All-left, in_range_before, in_range_all}
use Rattle.ttree.proofs.tree.TTree.range.Given.{Over}
use Rattle.ttree.proofs.tree.TTree.range.Goals as goal
use Rattle.ttree.proofs.tree.TTree.range.Goals.{In-None, Then-not-is_eq}

none : TupleRef
none = record { number = 0 }

pub place-requires : goal.place-requires
place-requires g c =
    let place : TupleRef → Ordering = g.P.Probe.place c.args.probe.now in
    let split = c.loop-r.invariant.left ∙ ap (λ (xs : List TupleRef). c.loop-r.yielded ++ xs) c.in-Some.ensures.steps in
    record {
      sound = c.loop-r.invariant.only.sound c.requires.sound;
      may_ask = c.loop-r.invariant.only.may_ask c.in-Some.r
          (All-left place (items_of_tree c.args.self.now) c.loop-r.yielded (c.in-Some.r ∷ rest_of c.next.new.self) split (g.P.Probe.can_place c.args.probe.now) c.requires.placed none (omega arith));
    }

-- what the walk gave is the range
whole_range : (g : Over) (c : In-None g) → in_range (g.P.Probe.place c.args.probe.now) (items_of_tree c.args.self.now) ≡ c.loop-r.yielded
whole_range g c =
    in_range_all (g.P.Probe.place c.args.probe.now) (items_of_tree c.args.self.now) c.loop-r.yielded
    (c.loop-r.invariant.left ∙ ap (λ (xs : List TupleRef). c.loop-r.yielded ++ xs) c.in-None.ensures.steps.0) c.loop-r.invariant.equal

pub returns-in-None-clause-ok : goal.returns-in-None-clause-ok
returns-in-None-clause-ok g c =
    c.loop-r.invariant.added ∙ ap (λ (xs : List TupleRef). c.args.out.now.items ++ xs) (sym (whole_range g (goal.at.returns-in-None-clause-ok g c).In-None))

pub returns-in-None-clause-most_asked : goal.returns-in-None-clause-most_asked
returns-in-None-clause-most_asked g c =
    omega (arith, c.loop-r.invariant.most, ap (λ (xs : List TupleRef). length xs) (whole_range g (goal.at.returns-in-None-clause-most_asked g c).In-None))

pub loop-r-preserved : goal.loop-r-preserved
loop-r-preserved g c =
    let kept = c.loop-r.invariant in
    let y = c.loop-r.yielded in
    let r = c.in-Some.r in
    let pushed : is_ok c.push.result ≡ true = ap is_ok c.in_default.is in
    let equal : g.P.Probe.place c.args.probe.now r ≡ Equal =
    is_eq-Equal _ (rw (← kept.only.answers, ← c.place.ensures.value, ← c.is_eq.ensures) c.if-not-is_eq.false) in record {
      before = kept.before;
      added = rw (c.push.ensures.items, pushed, kept.added) (append_assoc c.args.out.now.items y (r ∷ []));
      left = kept.left ∙ ap (λ (xs : List TupleRef). y ++ xs) c.in-Some.ensures.steps ∙ sym (append_assoc y (r ∷ []) (rest_of c.next.new.self));
      equal = All-push (λ q. g.P.Probe.place c.args.probe.now q ≡ Equal) y r kept.equal equal;
      only = IsOnlyAsked-trans _ _ _ _ _ _ _ kept.only (IsOnlyAsked-once _ _ _ _ _ _ c.place.ensures.sound c.place.ensures.answers c.place.ensures.may_ask c.place.ensures.count);
      most = omega (arith, kept.most, c.place.ensures.count, counted-le (g.P.Probe.asked c.loop-r.probe), length_push y r);
    }

-- so is it where the next is not in the range
begun_range : (g : Over) (c : Then-not-is_eq g) → in_range (g.P.Probe.place c.args.probe.now) (items_of_tree c.args.self.now) ≡ c.loop-r.yielded
begun_range g c =
    let kept = c.loop-r.invariant in
    let place : TupleRef → Ordering = g.P.Probe.place c.args.probe.now in
    let split = kept.left ∙ ap (λ (xs : List TupleRef). c.loop-r.yielded ++ xs) c.in-Some.ensures.steps in
    let other : place c.in-Some.r ≢ Equal = not_Equal _ (rw (← kept.only.answers, ← c.place.ensures.value, ← c.is_eq.ensures) c.if-not-is_eq.true) in
    in_range_before place (items_of_tree c.args.self.now) c.loop-r.yielded (c.in-Some.r ∷ rest_of c.next.new.self) split c.requires.in_order kept.equal none (omega arith) other

pub returns-then-not-is_eq-clause-ok : goal.returns-then-not-is_eq-clause-ok
returns-then-not-is_eq-clause-ok g c =
    c.loop-r.invariant.added ∙ ap (λ (xs : List TupleRef). c.args.out.now.items ++ xs) (sym (begun_range g (goal.at.returns-then-not-is_eq-clause-ok g c).Then-not-is_eq))

pub returns-then-not-is_eq-clause-most_asked : goal.returns-then-not-is_eq-clause-most_asked
returns-then-not-is_eq-clause-most_asked g c =
    let found = begun_range g (goal.at.returns-then-not-is_eq-clause-most_asked g c).Then-not-is_eq in
    omega (arith, c.loop-r.invariant.most, c.place.ensures.count, counted-le (g.P.Probe.asked c.loop-r.probe), ap (λ (xs : List TupleRef). length xs) found)
