use Rattle.std.proofs.Common.{rules, ◌≡◌, ◌<ℤ◌, ℤ, List, Some, ap, sym, subst, get_or, ◌∙◌}
use Rattle.std.proofs.lemmas.List.{get_or_default}
use Rattle.std.proofs.lemmas.Option.{same_Some}
use Rattle.part_raw.specs.declared.tuple_ref.TupleRef.{TupleRef}
use Rattle.smallvec.specs.SmallVec.{SmallVec}
use Rattle.temp_list.specs.Leading.{LeadsWith}
use Rattle.temp_list.proofs.Leading.{rise_more}
use Rattle.temp_list.proofs.sorting.leading_keys_rise.Goals.{in-Some-last+else-key-before, in_default-last}
use Rattle.temp_list.proofs.sorting.leading_keys_rise.Goals as goal

pub loop-row-preserved : goal.loop-row-preserved
loop-row-preserved c =
    let s = c.args.relation.now in
    let rows = c.args.rows.now in
    let at = c.loop-row.row-index in
    let key = c.in-Some.key in
    let here : (d : SmallVec TupleRef) → LeadsWith s (get_or rows at d).items key = λ d.
    let item : c.row-item.result ≡ get_or rows at d = c.row-item.is ∙ get_or_default rows at c.row-item.result d c.loop-row-test.true in
    subst (λ (row : List TupleRef). LeadsWith s row key) (c.as_slice.ensures ∙ ap (λ (row : SmallVec TupleRef). row.items) item) c.in-Some.ensures in
    elim c.match-last.branch [
      | in-Some-last+else-key-before w ↦
          let after : c.match-last.last ≡ Some key = search rules in
          let above : w.in-Some-last.before <ℤ key = search rules in
          rise_more (λ row. LeadsWith s row.items) rows at c.loop-row.last c.match-last.last key c.loop-row.invariant.0 c.loop-row.invariant.1
          (λ before e. subst (λ (b : ℤ). b <ℤ key) (same_Some _ _ (sym w.in-Some-last.is ∙ e)) above) here after
      | in_default-last w ↦
          let after : c.match-last.last ≡ Some key = search rules in
          rise_more (λ row. LeadsWith s row.items) rows at c.loop-row.last c.match-last.last key c.loop-row.invariant.0 c.loop-row.invariant.1
          (λ before e. absurd (w.in_default-last.not-Some before e)) here after
    ]
