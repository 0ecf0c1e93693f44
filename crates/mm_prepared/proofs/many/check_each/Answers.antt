use Rattle.std.proofs.Common.{◌≡◌, ◌∙◌, ap, length, refl, subst, sym, Some}
use Rattle.std.specs.List.{All, slice_get}
use Rattle.std.proofs.lemmas.List.{drop_all, take_all}
use Rattle.std.proofs.lemmas.Option.{slice_get_read}
use Rattle.std.proofs.lemmas.Result.{err_from_is_err_and}
use Rattle.plain_tables.specs.ResolvedLaws.{HasWidth}
use Rattle.mm_prepared.specs.Many.{first_unfit}
use Rattle.mm_prepared.proofs.ManyRows.{all-next, unfit-behind, unfit-here}
use Rattle.mm_prepared.proofs.many.check_each.Goals as goal

pub returns-in_err-check_change-clause-refused : goal.returns-in_err-check_change-clause-refused
returns-in_err-check_change-clause-refused c =
    let e = err_from_is_err_and c.from_residual.result c.from_residual.ensures.1 in
    let rows = c.args.rows.now in
    let at : slice_get rows c.loop-row.row-index ≡ Some c.as_slice.result.now =
    slice_get_read rows (length rows) c.loop-row.row-index c.row-item.result refl c.loop-row-test.true c.row-item.is ∙ ap Some (sym c.as_slice.ensures.values) in
    rw (e.1, e.2)
    (c.loop-row.invariant.unfit
    ∙ unfit-here c.args.resolution.now rows c.loop-row.row-index c.as_slice.result.now c.in_err-check_change.field-0.0 at c.in_err-check_change.ensures.refused)

pub loop-row-preserved : goal.loop-row-preserved
loop-row-preserved c =
    let rows = c.args.rows.now in
    let k = c.loop-row.row-index in
    let here : slice_get rows k ≡ Some c.row-item.result = slice_get_read rows (length rows) k c.row-item.result refl c.loop-row-test.true c.row-item.is in
    let at : slice_get rows k ≡ Some c.as_slice.result.now = here ∙ ap Some (sym c.as_slice.ensures.values) in
    record {
      unfit = c.loop-row.invariant.unfit ∙ unfit-behind c.args.resolution.now rows k c.as_slice.result.now at c.in_ok-check_change.ensures.change;
      widths = all-next (All HasWidth) rows k c.row-item.result here c.loop-row.invariant.widths c.as_slice.ensures.width;
    }

pub returns-clause-changes : goal.returns-clause-changes
returns-clause-changes c =
    c.loop-row.invariant.unfit ∙ ap (first_unfit c.args.resolution.now) (drop_all c.loop-row.row-index c.args.rows.now c.loop-row-test.false)

pub returns-clause-widths : goal.returns-clause-widths
returns-clause-widths c =
    subst (All (All HasWidth)) (take_all c.loop-row.row-index c.args.rows.now c.loop-row-test.false) c.loop-row.invariant.widths
