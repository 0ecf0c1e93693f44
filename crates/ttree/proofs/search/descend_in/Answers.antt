use Rattle.std.proofs.Common.{◌≡◌, ◌<◌, length, get_or, slice_get, All, true, false, refl, sym, ap, subst, ◌∙◌, arith, lit<, Ordering}
use Rattle.std.specs.declared.cmp.Ordering.TheVariants.{Less, Equal, Greater}
use Rattle.std.proofs.lemmas.Option.{IfSome_then}
use Rattle.std.proofs.lemmas.List.{get_or_default}
use Rattle.part_raw.specs.declared.tuple_ref.TupleRef.{TupleRef}
use Rattle.mm_index.proofs.Asked.{IsOnlyAsked-trans}
use Rattle.ttree_node.specs.Tree.{Tree, Zipper, Label, whole, left_of, right_of, items_of, has_left, has_right, is_node, height, list_before}
use Rattle.ttree_node.specs.Look.{position}
use Rattle.ttree.specs.Searching.{taken, IsCut}
use Rattle.ttree.proofs.Descent.{left_lower, right_lower, left_here, right_here, some_node, some_here, least_is, All-here, NeverFalls-here, IsAhead, IsLast, ahead-left, ahead-right, first-left, last-left, last-right, end-first, end-above, end-next, end-here, least-below, if_none, is_descent}
use Rattle.ttree.proofs.search.descend_in.Goals as goal

abbrev none : TupleRef
none = record { number = 0 }

pub least_here-item-requires : goal.least_here-item-requires
least_here-item-requires g c =
    let kept = c.loop-here.invariant in
    (lit< tt, (some_here g.row.MAX (whole (position c.args.look.now)) (position c.loop-here.here) kept.ahead.same c.requires.some kept.node, kept.known))

pub ask-requires-clause-may_ask : goal.ask-requires-clause-may_ask
ask-requires-clause-may_ask g c =
    let z : Zipper (Label TupleRef) = position c.loop-here.here in
    let kept = c.loop-here.invariant in
    let some : 0 < length (items_of z.here) = some_here g.row.MAX (whole (position c.args.look.now)) z kept.ahead.same c.requires.some kept.node in
    let held : All (g.P.Probe.can_place c.args.probe.now) (items_of z.here) =
    All-here g.row.MAX (whole (position c.args.look.now)) z kept.ahead.same (g.P.Probe.can_place c.args.probe.now) c.requires.placed in
    kept.only.may_ask _ (subst (λ (r : TupleRef). g.P.Probe.can_place c.args.probe.now r) (least_is (items_of z.here) c.least_here-item.result none c.least_here-item.ensures) (held 0 none some))

pub returns-in-Equal-clause-end : goal.returns-in-Equal-clause-end
returns-in-Equal-clause-end g c =
    let f : TupleRef → Ordering = λ r. taken c.args.seek (g.P.Probe.place c.args.probe.now r) in
    let z : Zipper (Label TupleRef) = position c.loop-here.here in
    let kept = c.loop-here.invariant in
    let some : 0 < length (items_of z.here) = some_here g.row.MAX (whole (position c.args.look.now)) z kept.ahead.same c.requires.some kept.node in
    let least : f (get_or (items_of z.here) 0 none) ≡ Equal = ap f (least_is (items_of z.here) c.least_here-item.result none c.least_here-item.ensures) ∙ sym (rw kept.only.answers at c.in-Equal.ensures.value) in
    record { index = some; equal = λ d. ap f (get_or_default (items_of z.here) 0 d none some) ∙ least }

pub returns-then-not-has_left-clause-end : goal.returns-then-not-has_left-clause-end
returns-then-not-has_left-clause-end g c =
    let f : TupleRef → Ordering = λ r. taken c.args.seek (g.P.Probe.place c.args.probe.now r) in
    let t : Tree (Label TupleRef) = whole (position c.args.look.now) in
    let z : Zipper (Label TupleRef) = position c.loop-here.here in
    let kept = c.loop-here.invariant in
    let some : 0 < length (items_of z.here) = some_here g.row.MAX t z kept.ahead.same c.requires.some kept.node in
    let least : f (get_or (items_of z.here) 0 none) ≡ Greater = ap f (least_is (items_of z.here) c.least_here-item.result none c.least_here-item.ensures) ∙ sym (rw kept.only.answers at c.in-Greater.ensures.value) in
    let alone : has_left z.here ≡ false = sym c.has_left.ensures ∙ c.if-not-has_left.true in
    is_descent f c.loop-here.here c.loop-here.last
    (if_none c.loop-here.last _ _ (end-first f t c.requires.in_order z none some kept.ahead.same least alone) kept.first)
    (IfSome_then c.loop-here.last kept.behind (λ r b. record {
      nodes = b.0 ∙ sym kept.nodes;
      node = some_node (position r).here b.1.cut.ordered;
      whole = b.1.same ∙ sym kept.ahead.same;
      cut = b.1.cut;
      above = end-above f t c.requires.in_order z none some kept.ahead.same least alone (position r) b.1;
      next = λ _. end-next f t c.requires.in_order z none some kept.ahead.same least alone (position r) b.1;
    }))

pub loop-here-preserved-in-Greater : goal.loop-here-preserved-in-Greater
loop-here-preserved-in-Greater g c =
    let f : TupleRef → Ordering = λ r. taken c.args.seek (g.P.Probe.place c.args.probe.now r) in
    let t : Tree (Label TupleRef) = whole (position c.args.look.now) in
    let z : Zipper (Label TupleRef) = position c.loop-here.here in
    let kept = c.loop-here.invariant in
    let some : 0 < length (items_of z.here) = some_here g.row.MAX t z kept.ahead.same c.requires.some kept.node in
    let least : f (get_or (items_of z.here) 0 none) ≡ Greater = ap f (least_is (items_of z.here) c.least_here-item.result none c.least_here-item.ensures) ∙ sym (rw kept.only.answers at c.in-Greater.ensures.value) in
    let child : has_left z.here ≡ true = sym c.has_left.ensures ∙ c.if-not-has_left.false in
    let moved = c.down_left.ensures.moved in
    let here : (position c.down_left.new.self).here ≡ left_of z.here = (λ i. (moved i).here) ∙ left_here z in
    let low : height (position c.down_left.new.self).here ≡ height (left_of z.here) = ap (λ (u : Tree (Label TupleRef)). height u) here in record {
      ahead = subst (λ (y : Zipper (Label TupleRef)). IsAhead f t y) (sym moved) (ahead-left f t c.requires.in_order z none some kept.ahead least child);
      first = if_none c.loop-here.last _ _ (λ h. (λ i. list_before (moved i).above) ∙ first-left z h) kept.first;
      behind = IfSome_then c.loop-here.last kept.behind (λ r b. (b.0, subst (λ (y : Zipper (Label TupleRef)). IsLast f t y (position r)) (sym moved) (last-left f t z (position r) b.1)));
      node = ap (λ (u : Tree (Label TupleRef)). is_node u) here ∙ child;
      known = IfSome_then c.read_below-below.result.left c.read_below-below.ensures.left (λ r e. ap (λ (u : Tree (Label TupleRef)). slice_get (items_of u) 0) here ∙ e);
      only = IsOnlyAsked-trans _ _ _ _ _ _ _ kept.only c.ask.ensures.probe.only;
      most = omega (arith, low, left_lower z.here child, kept.most, c.ask.ensures.probe.most);
      nodes = c.down_left.ensures.nodes ∙ kept.nodes;
    }

pub returns-then-not-has_right-clause-end : goal.returns-then-not-has_right-clause-end
returns-then-not-has_right-clause-end g c =
    let f : TupleRef → Ordering = λ r. taken c.args.seek (g.P.Probe.place c.args.probe.now r) in
    let t : Tree (Label TupleRef) = whole (position c.args.look.now) in
    let z : Zipper (Label TupleRef) = position c.loop-here.here in
    let kept = c.loop-here.invariant in
    let some : 0 < length (items_of z.here) = some_here g.row.MAX t z kept.ahead.same c.requires.some kept.node in
    let least : f (get_or (items_of z.here) 0 none) ≡ Less = ap f (least_is (items_of z.here) c.least_here-item.result none c.least_here-item.ensures) ∙ sym (rw kept.only.answers at c.in-Less.ensures.value) in
    let alone : has_right z.here ≡ false = sym c.has_right.ensures ∙ c.if-not-has_right.true in record {
      nodes = refl;
      node = kept.node;
      whole = refl;
      cut = least-below f (items_of z.here) (NeverFalls-here g.row.MAX t z kept.ahead.same f c.requires.in_order) some none least;
      above = end-here f t z kept.ahead alone;
      next = λ h. absurd (cc);
    }

pub loop-here-preserved : goal.loop-here-preserved
loop-here-preserved g c =
    let f : TupleRef → Ordering = λ r. taken c.args.seek (g.P.Probe.place c.args.probe.now r) in
    let t : Tree (Label TupleRef) = whole (position c.args.look.now) in
    let z : Zipper (Label TupleRef) = position c.loop-here.here in
    let kept = c.loop-here.invariant in
    let some : 0 < length (items_of z.here) = some_here g.row.MAX t z kept.ahead.same c.requires.some kept.node in
    let least : f (get_or (items_of z.here) 0 none) ≡ Less = ap f (least_is (items_of z.here) c.least_here-item.result none c.least_here-item.ensures) ∙ sym (rw kept.only.answers at c.in-Less.ensures.value) in
    let child : has_right z.here ≡ true = sym c.has_right.ensures ∙ c.if-not-has_right.false in
    let moved = c.down_right.ensures.moved in
    let here : (position c.down_right.new.self).here ≡ right_of z.here = (λ i. (moved i).here) ∙ right_here z in
    let low : height (position c.down_right.new.self).here ≡ height (right_of z.here) = ap (λ (u : Tree (Label TupleRef)). height u) here in
    let cut : IsCut f (items_of z.here) 1 (length (items_of z.here)) = least-below f (items_of z.here) (NeverFalls-here g.row.MAX t z kept.ahead.same f c.requires.in_order) some none least in record {
      ahead = subst (λ (y : Zipper (Label TupleRef)). IsAhead f t y) (sym moved) (ahead-right f t z kept.ahead);
      first = tt;
      behind = (kept.nodes, subst (λ (y : Zipper (Label TupleRef)). IsLast f t y z) (sym moved) (last-right f t z kept.ahead.same cut child));
      node = ap (λ (u : Tree (Label TupleRef)). is_node u) here ∙ child;
      known = IfSome_then c.read_below-below.result.right c.read_below-below.ensures.right (λ r e. ap (λ (u : Tree (Label TupleRef)). slice_get (items_of u) 0) here ∙ e);
      only = IsOnlyAsked-trans _ _ _ _ _ _ _ kept.only c.ask.ensures.probe.only;
      most = omega (arith, low, right_lower z.here child, kept.most, c.ask.ensures.probe.most);
      nodes = c.down_right.ensures.nodes ∙ kept.nodes;
    }
