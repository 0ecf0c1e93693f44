use Rattle.std.proofs.Common.{rules, ◌≡◌, ◌∙◌, ◌<ℤ◌, ℤ, Some, sym, subst, get_or}
use Rattle.std.proofs.lemmas.List.{get_or_default}
use Rattle.std.proofs.lemmas.Option.{same_Some}
use Rattle.part_raw.specs.declared.tuple_ref.TupleRef.{TupleRef}
use Rattle.temp_list.specs.Leading.{HasIntegerKey}
use Rattle.temp_list.proofs.Leading.{rise_more}
use Rattle.temp_list.proofs.keyed.integer_keys_rise.Goals.{in-Some-last+else-key-before, in_default-last}
use Rattle.temp_list.proofs.keyed.integer_keys_rise.Goals as goal

pub loop-r-preserved : goal.loop-r-preserved
loop-r-preserved c =
    let s = c.args.relation.now in
    let rows = c.args.rows.now in
    let at = c.loop-r.r-index in
    let key = c.in-Some.key in
    let none : TupleRef = record { number = 0 } in
    let here : (d : TupleRef) → HasIntegerKey s (get_or rows at d) key = λ d.
    subst (λ (r : TupleRef). HasIntegerKey s r key) (get_or_default rows at none d c.loop-r-test.true) c.in-Some.ensures.key in
    elim c.match-last.branch [
      | in-Some-last+else-key-before w ↦
          let after : c.match-last.last ≡ Some key = search rules in
          let above : w.in-Some-last.before <ℤ key = search rules in
          rise_more (HasIntegerKey s) rows at c.loop-r.last c.match-last.last key c.loop-r.invariant.0 c.loop-r.invariant.1
          (λ before e. subst (λ (b : ℤ). b <ℤ key) (same_Some _ _ (sym w.in-Some-last.is ∙ e)) above) here after
      | in_default-last w ↦
          let after : c.match-last.last ≡ Some key = search rules in
          rise_more (HasIntegerKey s) rows at c.loop-r.last c.match-last.last key c.loop-r.invariant.0 c.loop-r.invariant.1
          (λ before e. absurd (w.in_default-last.not-Some before e)) here after
    ]
