use Rattle.std.proofs.Common.{rules, ◌≡◌, None, Some, length, refl, sym, ap, ◌∙◌, subst, arith, inr}
use Rattle.std.specs.List.{slice_get}
use Rattle.std.specs.Prelude.{IfErr}
use Rattle.std.proofs.lemmas.List.{length_push}
use Rattle.std.proofs.lemmas.Option.{slice_get_read}
use Rattle.std.proofs.lemmas.Result.{IfErr-weaker}
use Rattle.plain_tables.specs.declared.refusal.Refusal.{Refusal}
use Rattle.plain_tables.specs.declared.refusal.Refusal.TheVariants.{NoReferencedRow}
use Rattle.mm_catalog.specs.Assigned.{AreFirstSetBy, AreNotSet, CellSet, IsSetBy}
use Rattle.mm_catalog.specs.Cells.{IsCellOf, NamesNone}
use Rattle.mm_catalog.proofs.SetCells.{sets_more}
use Rattle.mm_catalog.proofs.updating.pack_sets.Goals as goal

pub returns-in_err-named-clause-refused : goal.returns-in_err-named-clause-refused
returns-in_err-named-clause-refused c =
    let assignments = c.args.assignments.now in
    let before = c.args.before.now in
    let targets = c.args.relation.now.targets in
    let at = c.loop-assignment.assignment-index in
    let a = c.assignment-item.result in
    let there : slice_get assignments at ≡ Some a =
    slice_get_read assignments (length assignments) at a refl (omega (arith, c.loop-assignment-test.true)) c.assignment-item.is in
    let why : IfErr c.from_residual.result (λ (e : Refusal). (e ≡ NoReferencedRow None) × NamesNone before c.target_number-target.result a.value) = search rules in
    IfErr-weaker c.from_residual.result (λ e. (e ≡ NoReferencedRow None) × NamesNone before c.target_number-target.result a.value) (AreNotSet before targets assignments)
    (λ e no. inr (no.0, (at, a, there, subst (λ t. NamesNone before t a.value) c.target_number-target.ensures no.1))) why

pub loop-assignment-preserved : goal.loop-assignment-preserved
loop-assignment-preserved c =
    let assignments = c.args.assignments.now in
    let before = c.args.before.now in
    let targets = c.args.relation.now.targets in
    let sets = c.loop-assignment.sets.items in
    let at = c.loop-assignment.assignment-index in
    let a = c.assignment-item.result in
    let set : CellSet = (a.column, c.in_ok-cell.cell) in
    let here : slice_get assignments at ≡ Some a =
    slice_get_read assignments (length assignments) at a refl (omega (arith, c.loop-assignment-test.true)) c.assignment-item.is in
    let there : slice_get assignments (length sets) ≡ Some a = ap (slice_get assignments) c.loop-assignment.invariant.count ∙ here in
    let is : IsSetBy before targets a set = (
      refl,
      subst (λ t. IsCellOf before t a.value c.in_ok-cell.cell) c.target_number-target.ensures (subst (IsCellOf before c.target_number-target.result a.value) (sym c.in_ok-cell.ensures) c.in_ok-named.ensures.named),
    ) in
    let pushed = c.in_ok-push_set.ensures.pushed in
    record {
      count = ap length pushed ∙ omega (arith, c.loop-assignment.invariant.count, length_push sets set);
      first = subst (AreFirstSetBy before targets assignments) (sym pushed)
          (sets_more before targets assignments sets a set c.loop-assignment.invariant.first there is);
    }
