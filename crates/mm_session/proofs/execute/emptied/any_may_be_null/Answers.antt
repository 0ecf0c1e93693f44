use Rattle.std.proofs.Common.{◌≡◌, ◌∙◌, Some, false, ap, subst, sym, arith}
use Rattle.std.proofs.lemmas.List.{take_all}
use Rattle.std.proofs.lemmas.Option.{slice_get-get_or}
use Rattle.std.specs.List.{All}
use Rattle.plain_tables.specs.declared.schema.Column.{Column}
use Rattle.mm_session.specs.Saving.{takes_null}
use Rattle.mm_session.proofs.Saves.{all_more}
use Rattle.mm_session.proofs.execute.emptied.any_may_be_null.Goals as goal

pub loop-column-preserved : goal.loop-column-preserved
loop-column-preserved c =
    let columns = c.args.columns.now in
    let n = c.loop-column.column-index in
    let column = c.column-item.result in
    all_more (λ (h : Column). takes_null h.kind ≡ false) columns n column (slice_get-get_or columns n column c.loop-column-test.true ∙ ap Some (sym c.column-item.is)) c.loop-column.invariant
    (sym c.may_be_null.ensures ∙ c.if-may_be_null.false)

pub returns : goal.returns
returns c = λ none.
    subst (All (λ (h : Column). takes_null h.kind ≡ false)) (take_all c.loop-column.column-index c.args.columns.now (omega (arith, c.loop-column-test.false))) c.loop-column.invariant
