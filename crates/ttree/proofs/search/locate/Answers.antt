use Rattle.std.proofs.Common.{◌≡◌, ◌∙◌, ◌+◌, ◌≤◌, false, List, length, All, ap, subst, sym, arith, Ordering}
use Rattle.part_raw.specs.declared.tuple_ref.TupleRef.{TupleRef}
use Rattle.mm_index.specs.Range.{NeverFalls}
use Rattle.ttree_node.specs.Tree.{Tree, Zipper, Label, whole, list, items_of, has_right, height}
use Rattle.ttree_node.specs.Look.{position}
use Rattle.ttree.specs.Searching.{taken, IsAskedAtMost, IsBehind, IsGap}
use Rattle.ttree.specs.Shape.{binary_digits}
use Rattle.ttree.proofs.Counting.{asked_among}
use Rattle.ttree.proofs.Descent.{few_here, All-here, NeverFalls-here, gap-behind}
use Rattle.ttree.proofs.search.locate.Given.{Over}
use Rattle.ttree.proofs.search.locate.Goals as goal
use Rattle.ttree.proofs.search.locate.Goals.{In-End-Some, In-Err, After-search_items}

abbrev none : TupleRef
none = record { number = 0 }

behind : (g : Over) (c : In-End-Some g) → IsBehind (λ r. taken c.args.seek (g.P.Probe.place c.args.probe.now r)) c.descend.new.look c.in-End-Some.last
behind g c = rw (c.in-End-Some.is, c.in-End-Some.field-0-is) at c.descend.ensures.end

same : (g : Over) (c : In-End-Some g) → whole (position c.in-End-Some.last) ≡ whole (position c.args.look.now)
same g c = (behind g c).whole ∙ c.descend.ensures.whole

pub search_items-requires-clause-placed : goal.search_items-requires-clause-placed
search_items-requires-clause-placed g c =
    let f : TupleRef → Type 0 = g.P.Probe.can_place c.args.probe.now in
    let z : Zipper (Label TupleRef) = position c.in-End-Some.last in
    let held : All f (items_of z.here) = All-here g.row.MAX (whole (position c.args.look.now)) z (same g (goal.at.search_items-requires-clause-placed g c).In-End-Some) f c.requires.placed in
    λ k d l. c.descend.ensures.probe.only.may_ask _ (subst (λ (xs : List TupleRef). All f xs) (sym c.items.ensures) held k d l)

pub search_items-requires-clause-in_order : goal.search_items-requires-clause-in_order
search_items-requires-clause-in_order g c =
    let f : TupleRef → Ordering = λ r. taken c.args.seek (g.P.Probe.place c.args.probe.now r) in
    let z : Zipper (Label TupleRef) = position c.in-End-Some.last in
    let here : NeverFalls f (items_of z.here) = NeverFalls-here g.row.MAX (whole (position c.args.look.now)) z (same g (goal.at.search_items-requires-clause-in_order g c).In-End-Some) f c.requires.in_order in
    rw (c.items.ensures, c.descend.ensures.probe.only.answers) here

-- it asks at each level, and then among the items of one node
asked : (g : Over) (c : After-search_items g) → whole (position c.in-End-Some.last) ≡ whole (position c.args.look.now)
    → IsAskedAtMost (height (whole (position c.args.look.now)) + binary_digits g.row.MAX) g.P.Probe.is_sound g.P.Probe.can_place g.P.Probe.place g.P.Probe.asked c.args.probe.now c.search_items.new.probe
asked g c same =
    let t : Tree (Label TupleRef) = whole (position c.args.look.now) in
    let few : length c.items.result.now ≤ g.row.MAX = rw c.items.ensures (few_here g.row.MAX t (position c.in-End-Some.last) same c.requires.some) in
    asked_among _ _ _ _ _ _ _ (height t) (length c.items.result.now) g.row.MAX few c.descend.ensures.probe c.search_items.ensures.probe

-- where nothing is in the range among the items of the last node, and no tree hangs behind them
gap : (g : Over) (c : In-Err g) → IsBehind (λ r. taken c.args.seek (g.P.Probe.place c.args.probe.now r)) c.descend.new.look c.in-End-Some.last → (c.in-Err.index ≡ length (items_of (position c.in-End-Some.last).here) → has_right (position c.in-End-Some.last).here ≡ false) → IsGap (λ r. taken c.args.seek (g.P.Probe.place c.args.probe.now r)) (position c.in-End-Some.last) c.in-Err.index
gap g c behind ends =
    let f : TupleRef → Ordering = λ r. taken c.args.seek (g.P.Probe.place c.args.probe.now r) in
    let z : Zipper (Label TupleRef) = position c.in-End-Some.last in
    let ordered : NeverFalls f (list (whole z)) = subst (λ (u : Tree (Label TupleRef)). NeverFalls f (list u)) (sym (behind.whole ∙ c.descend.ensures.whole)) c.requires.in_order in
    gap-behind f z ordered none c.in-Err.index (omega (arith, c.in-Err.ensures.from)) (rw (c.items.ensures, c.descend.ensures.probe.only.answers) at c.in-Err.ensures.gap) behind.above ends

pub returns-in-Err-clause-probe : goal.returns-in-Err-clause-probe
returns-in-Err-clause-probe g c = let at = goal.at.returns-in-Err-clause-probe g c in asked g at.After-search_items (same g at.In-End-Some)

pub returns-in_default-clause-probe : goal.returns-in_default-clause-probe
returns-in_default-clause-probe g c = let at = goal.at.returns-in_default-clause-probe g c in asked g at.After-search_items (same g at.In-End-Some)

pub returns-in_default-2-clause-probe : goal.returns-in_default-2-clause-probe
returns-in_default-2-clause-probe g c = let at = goal.at.returns-in_default-2-clause-probe g c in asked g at.After-search_items (same g at.In-End-Some)

pub returns-in_default-3-clause-probe : goal.returns-in_default-3-clause-probe
returns-in_default-3-clause-probe g c = let at = goal.at.returns-in_default-3-clause-probe g c in asked g at.After-search_items (same g at.In-End-Some)

pub returns-in_default-clause-gap : goal.returns-in_default-clause-gap
returns-in_default-clause-gap g c =
    let at = goal.at.returns-in_default-clause-gap g c in
    gap g at.In-Err (behind g at.In-End-Some) (λ _. sym c.has_right.ensures ∙ c.if-has_right.false)

pub returns-in_default-2-clause-gap : goal.returns-in_default-2-clause-gap
returns-in_default-2-clause-gap g c =
    let at = goal.at.returns-in_default-2-clause-gap g c in
    gap g at.In-Err (behind g at.In-End-Some) (λ e. absurd (c.if-index-count.false (e ∙ sym (ap (λ (xs : List TupleRef). length xs) c.items-count.ensures))))
