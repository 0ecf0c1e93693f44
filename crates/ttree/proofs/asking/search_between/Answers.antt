use Rattle.std.proofs.Common.{◌+◌, ◌-◌, ◌/◌, arith}
use Rattle.mm_index.proofs.Asked.{IsOnlyAsked-trans, counted-mono}
use Rattle.ttree.proofs.Digits.{digits-half}
use Rattle.ttree.proofs.Narrowing.{IsCut-low, IsCut-high}
use Rattle.ttree.proofs.asking.search_between.Goals as goal

pub loop-low-preserved-in-Less : goal.loop-low-preserved-in-Less
loop-low-preserved-in-Less g c =
    let low = c.loop-low.low in
    let high = c.loop-low.high in
    let middle = low + (high - low) / 2 in
    let kept = c.loop-low.invariant in
    let halved = digits-half (high - (middle + 1)) (high - low) (omega arith) (omega arith) in record {
      cut = IsCut-low _ _ c.requires.in_order middle (omega (arith, kept.cut.within)) (record { number = 0 }) low high kept.cut (omega arith) cc;
      from = omega arith;
      to = omega arith;
      only = IsOnlyAsked-trans _ _ _ _ _ _ _ kept.only c.ask.ensures.probe.only;
      most = omega (arith, halved, kept.most, c.ask.ensures.probe.most);
      asks = λ _. omega (arith, c.ask.ensures.asks, counted-mono _ _ kept.only.count);
    }

pub loop-low-preserved : goal.loop-low-preserved
loop-low-preserved g c =
    let low = c.loop-low.low in
    let high = c.loop-low.high in
    let middle = low + (high - low) / 2 in
    let kept = c.loop-low.invariant in
    let halved = digits-half (middle - low) (high - low) (omega arith) (omega arith) in record {
      cut = IsCut-high _ _ c.requires.in_order middle (omega (arith, kept.cut.within)) (record { number = 0 }) low high kept.cut (omega arith) cc;
      from = omega arith;
      to = omega arith;
      only = IsOnlyAsked-trans _ _ _ _ _ _ _ kept.only c.ask.ensures.probe.only;
      most = omega (arith, halved, kept.most, c.ask.ensures.probe.most);
      asks = λ _. omega (arith, c.ask.ensures.asks, counted-mono _ _ kept.only.count);
    }

pub returns-in-Equal-clause-probe : goal.returns-in-Equal-clause-probe
returns-in-Equal-clause-probe g c =
    let low = c.loop-low.low in
    let high = c.loop-low.high in
    let kept = c.loop-low.invariant in
    let halved = digits-half 0 (high - low) (omega arith) (omega arith) in record {
      only = IsOnlyAsked-trans _ _ _ _ _ _ _ kept.only c.ask.ensures.probe.only;
      most = omega (arith, halved, kept.most, c.ask.ensures.probe.most);
    }

pub returns-in-Equal-clause-asks : goal.returns-in-Equal-clause-asks
returns-in-Equal-clause-asks g c = λ _. omega (arith, c.ask.ensures.asks, counted-mono _ _ c.loop-low.invariant.only.count)

pub returns-clause-asks : goal.returns-clause-asks
returns-clause-asks g c = λ some. c.loop-low.invariant.asks (omega (arith, some))
