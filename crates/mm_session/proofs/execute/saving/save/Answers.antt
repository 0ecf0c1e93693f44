use Rattle.std.proofs.Common.{sym, subst}
use Rattle.mm_session.specs.Saving.{IsDeclined}
use Rattle.mm_session.specs.declared.saving.SavePlace.TheVariants as place
use Rattle.mm_session.proofs.RowPieces.{no_table}
use Rattle.mm_session.proofs.Saves.{handed}
use Rattle.mm_session.proofs.execute.saving.save.Goals as goal

pub returns-in_err-check_table-in-Rows-clause-declined : goal.returns-in_err-check_table-in-Rows-clause-declined
returns-in_err-check_table-in-Rows-clause-declined c =
    let catalog = c.args.catalog.now in
    let n = c.in-Rows.table in
    let after = c.in-Rows.after in
    let none = c.in_err-check_table-in-Rows.ensures.none in
    rw c.in-Rows.is
    (handed (IsDeclined catalog (place.Rows n after)) c.from_residual-in_err-check_table-in-Rows.result c.in_err-check_table-in-Rows.field-0.0 c.from_residual-in_err-check_table-in-Rows.ensures.1
    (subst (IsDeclined catalog (place.Rows n after)) (sym none.0) (no_table catalog c.a_catalog_is_consistent.ensures n after none.1)))
