use Rattle.std.proofs.Common.{arith}
use Rattle.std.specs.List.{Contains}
use Rattle.std.proofs.lemmas.Result.{IfErr-weaker, on_ok_weaker}
use Rattle.part_raw.specs.declared.tuple_ref.TupleRef.{TupleRef}
use Rattle.mm_catalog.proofs.Tables.{database-length}
use Rattle.mm_catalog.specs.Picked.{seen_values}
use Rattle.mm_session.specs.SavedRows.{IsStopped}
use Rattle.mm_session.specs.Saving.{AreUnspellable, IsUnspellable, OfTableAt}
use Rattle.mm_session.proofs.RowPieces.{around_made, around_spelled, around_stopped}
use Rattle.mm_session.proofs.execute.saved_rows.put_around.Goals as goal

pub at-requires : goal.at-requires
at-requires c = omega (arith, c.requires.there, database-length c.args.catalog.now c.a_catalog_is_consistent.ensures.named)

pub returns-clause-made : goal.returns-clause-made
returns-clause-made c =
    on_ok_weaker c.push_all_emptied.result
    (around_made c.args.catalog.now c.a_catalog_is_consistent.ensures c.args.table c.table_name-name.result.now c.table_name-name.ensures c.at.result.now c.at.ensures c.args.rows.now
    c.args.answer.now c.insert_load_line.new.answer c.push_all_emptied.new.answer c.in_ok-insert_load_line.ensures)
    c.push_all_emptied.ensures.put

pub returns-clause-spelled : goal.returns-clause-spelled
returns-clause-spelled c =
    on_ok_weaker c.push_all_emptied.result
    (around_spelled c.args.catalog.now c.a_catalog_is_consistent.ensures c.args.table c.table_name-name.result.now c.table_name-name.ensures c.at.result.now c.at.ensures c.args.rows.now)
    c.push_all_emptied.ensures.spelled

pub returns-clause-stopped : goal.returns-clause-stopped
returns-clause-stopped c =
    let catalog = c.args.catalog.now in
    let given = c.at.result.now in
    IfErr-weaker c.push_all_emptied.result
    (IsStopped ((r : TupleRef) × Contains c.args.rows.now r × IsUnspellable c.table_name-name.result.now given.schema.columns (seen_values catalog given r)))
    (λ why. OfTableAt catalog c.args.table (λ t s. IsStopped (AreUnspellable catalog t s c.args.rows.now) why))
    (around_stopped catalog c.a_catalog_is_consistent.ensures c.args.table c.table_name-name.result.now c.table_name-name.ensures given c.at.ensures c.args.rows.now)
    c.push_all_emptied.ensures.stopped
