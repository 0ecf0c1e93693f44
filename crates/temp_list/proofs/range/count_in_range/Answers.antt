use Rattle.std.proofs.Common.{◌≡◌, ◌∙◌, ◌<◌, List, length, sym, ap, get_or, arith, Ordering}
use Rattle.std.specs.Ordering.{is_eq}
use Rattle.common_lemmas.proofs.Orders.{is_eq-Equal, not_Equal, Greater-from_neither}
use Rattle.part_raw.specs.declared.tuple_ref.TupleRef.{TupleRef}
use Rattle.mm_index.proofs.Asked.{IsOnlyAsked-trans, IsOnlyAsked-once}
use Rattle.temp_list.proofs.Neighbours.{equal_until, above_from}
use Rattle.temp_list.proofs.range.count_in_range.Goals as goal
use Rattle.temp_list.proofs.range.count_in_range.Goals.{then-is_eq, else-is_eq}

abbrev none : TupleRef
none = record { number = 0 }

pub loop-low-preserved : goal.loop-low-preserved
loop-low-preserved g c =
    let kept = c.loop-low.invariant in
    let place : TupleRef → Ordering = g.P.Probe.place c.args.probe.now in
    let refs : List TupleRef = c.args.refs.now in
    let at = c.loop-low.at in
    let inside : at < length refs = omega (arith, kept.within, (kept.between c.loop-low-test.true).1) in
    let only = IsOnlyAsked-trans _ _ _ _ _ _ _ kept.only (IsOnlyAsked-once _ _ _ _ _ _ c.place.ensures.sound c.place.ensures.answers c.place.ensures.may_ask c.place.ensures.count) in
    let told : c.is_eq.result ≡ is_eq (place (get_or refs at none)) = c.is_eq.ensures ∙ ap is_eq (c.place.ensures.value ∙ ap (λ (p : TupleRef → Ordering). p (get_or refs at none)) kept.only.answers) in
    elim c.if-is_eq.branch [
      | then-is_eq w ↦
          rw (w.low-is, w.high-is) (record {
            ordered = omega (arith, (kept.between c.loop-low-test.true).1);
            within = kept.within;
            between = λ some. (omega arith, omega (arith, some));
            found = equal_until place refs c.requires.in_order c.requires.begun at none inside (is_eq-Equal (place (get_or refs at none)) (sym told ∙ w.if-is_eq.true));
            above = kept.above;
            only = only;
          })
      | else-is_eq w ↦
          rw (w.low-is, w.high-is) (record {
            ordered = (kept.between c.loop-low-test.true).0;
            within = omega (arith, inside);
            between = λ some. (omega arith, omega (arith, some));
            found = kept.found;
            above = above_from place refs c.requires.in_order at none inside
                (Greater-from_neither (place (get_or refs at none)) (c.requires.begun at none inside) (not_Equal (place (get_or refs at none)) (sym told ∙ w.if-is_eq.false)));
            only = only;
          })
    ]
