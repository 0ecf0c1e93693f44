use Rattle.std.proofs.Common.{◌+◌, ◌-◌, ◌/◌, arith}
use Rattle.mm_index.proofs.Asked.{IsOnlyAsked-trans, IsOnlyAsked-once, counted-mono}
use Rattle.mm_index.proofs.Halving.{IsHalved-low, IsHalved-high}
use Rattle.mm_index.proofs.search.first_not_below.Goals as goal

pub loop-low-preserved-then-is_lt : goal.loop-low-preserved-then-is_lt
loop-low-preserved-then-is_lt g c = record {
  halved = IsHalved-low _ _ c.requires.in_order _ _ (c.loop-low.low + (c.loop-low.high - c.loop-low.low) / 2) c.loop-low.invariant.halved (omega arith) (omega arith)
      (record { number = 0 })
      cc;
  same = IsOnlyAsked-trans _ _ _ _ _ _ _ c.loop-low.invariant.same
      (IsOnlyAsked-once _ _ _ _ _ _ c.place.ensures.sound c.place.ensures.answers c.place.ensures.may_ask c.place.ensures.count);
  asks = λ _. rw c.place.ensures.count (counted-mono _ _ c.loop-low.invariant.same.count);
}

pub loop-low-preserved : goal.loop-low-preserved
loop-low-preserved g c = record {
  halved = IsHalved-high _ _ c.requires.in_order _ _ (c.loop-low.low + (c.loop-low.high - c.loop-low.low) / 2) c.loop-low.invariant.halved (omega arith) (omega arith)
      (record { number = 0 })
      cc;
  same = IsOnlyAsked-trans _ _ _ _ _ _ _ c.loop-low.invariant.same
      (IsOnlyAsked-once _ _ _ _ _ _ c.place.ensures.sound c.place.ensures.answers c.place.ensures.may_ask c.place.ensures.count);
  asks = λ _. rw c.place.ensures.count (counted-mono _ _ c.loop-low.invariant.same.count);
}
