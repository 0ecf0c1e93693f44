use Rattle.std.proofs.Common.{◌≡◌, ◌≤◌, false, get_or, arith}
use Rattle.std.specs.Ordering.{is_eq}
use Rattle.mm_index.proofs.Halving.{above_passed}
use Rattle.mm_index.proofs.search.find_or_place.Goals as goal

pub returns-in_default-clause-above : goal.returns-in_default-clause-above
returns-in_default-clause-above g c =
    let first = c.first_not_below-first.result in
    let r = c.in-Some.r.now in
    let read : r ≡ get_or c.args.items.now first r = c.in-Some.ensures.lookup.1 in
    let other : is_eq (g.P.Probe.place c.args.probe.now (get_or c.args.items.now first r)) ≡ false =
    rw (← read, ← c.first_not_below-first.ensures.probe.answers, ← c.place.ensures.value, ← c.is_eq.ensures) c.if-is_eq.false in
    let start : first ≤ first = omega arith in
    above_passed (g.P.Probe.place c.args.probe.now) c.args.items.now first first
    (record { from_first = start; within = c.first_not_below-first.ensures.bound; equal = λ j b m n. absurd (omega arith) })
    r c.requires.in_order c.first_not_below-first.ensures.not_below other
