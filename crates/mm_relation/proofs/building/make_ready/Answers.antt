use Rattle.std.proofs.Common.{◌≡◌, ◌∙◌, arith, subst, sym, inl, inr}
use Rattle.std.proofs.lemmas.Bool.{cases_order}
use Rattle.mm_relation.specs.Indexes.{CoversIn}
use Rattle.mm_relation.proofs.Owed.{none_held}
use Rattle.mm_relation.proofs.building.make_ready.Goals as goal

pub loop-slot-preserved : goal.loop-slot-preserved
loop-slot-preserved c = record {
  same = c.cover.ensures.same ∙ c.loop-slot.invariant.same;
  covered = λ q l. elim (cases_order q.number c.loop-slot.slot) [
    | inl same ↦ let this : record { number = c.loop-slot.slot } ≡ q = (λ i. record { number = sym same i }) in subst (λ x. CoversIn x c.cover.new.self.index) this c.in_ok-cover.ensures.covered
    | inr (inl less) ↦ c.cover.ensures.kept q (c.loop-slot.invariant.covered q less)
    | inr (inr more) ↦ absurd (omega arith)
  ];
}

pub returns-in_ok-reserve-clause-ready : goal.returns-in_ok-reserve-clause-ready
returns-in_ok-reserve-clause-ready c = record {
  room = omega (arith, c.owed-owed.ensures.value, c.in_ok-reserve.ensures.reserved);
  covered = λ q held. c.reserve.ensures.kept q (c.loop-slot.invariant.covered q (omega (arith, c.slots-slot-end.ensures.hidden q held, c.loop-slot-test.false, c.loop-slot.auto.slot-end)));
}

pub returns-else-owed-gt0-clause-ready : goal.returns-else-owed-gt0-clause-ready
returns-else-owed-gt0-clause-ready c = record {
  room = omega (arith, c.owed-owed.ensures.value, c.if-owed-gt0.false);
  covered = λ q held. absurd (none_held _ (omega (arith, c.owed-owed.ensures.value, c.owed-owed.ensures.hidden, c.if-owed-gt0.false)) q held);
}
