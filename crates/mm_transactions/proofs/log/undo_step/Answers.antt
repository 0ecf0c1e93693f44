use Rattle.std.proofs.Common.{List, map, subst, sym}
use Rattle.plain_tables.specs.declared.numbers.TableNumber.{TableNumber}
use Rattle.mm_catalog.specs.Declarations.{AreBeforeLast, without_last}
use Rattle.mm_catalog.specs.Outline.{HoldsOnce, IsOutline, outline_of, without_rows}
use Rattle.mm_transactions.specs.Log.{change_of}
use Rattle.mm_transactions.specs.Undoing.{IsReady, TableDeclared, before}
use Rattle.mm_transactions.proofs.Steps.{can_drop, rows_free, rows_there, table_there}
use Rattle.mm_transactions.proofs.log.undo_step.Goals as goal
use Rattle.mm_transactions.proofs.log.undo_step.Goals.{In-Came, In-TableDeclared}

ready : (c : In-Came) → HoldsOnce (outline_of c.args.catalog.now) c.args.table.0 c.args.rows.now
ready c = subst (λ k. IsReady (change_of k c.args.table.0 c.args.rows.now c.args.cells.now) (outline_of c.args.catalog.now)) c.in-Came.is c.requires.ready

stands : (c : In-Came) → IsOutline (without_rows c.args.table.0 c.args.rows.now (outline_of c.args.catalog.now))
stands c = subst (λ k. IsOutline (before (change_of k c.args.table.0 c.args.rows.now c.args.cells.now) (outline_of c.args.catalog.now))) c.in-Came.is c.requires.stands

pub take_many_back-requires-clause-there : goal.take_many_back-requires-clause-there
take_many_back-requires-clause-there c =
    let at = (goal.at.take_many_back-requires-clause-there c).In-Came in
    table_there c.args.catalog.now c.a_catalog_is_consistent.ensures c.args.table.0 c.args.rows.now (ready at)

pub take_many_back-requires-clause-held : goal.take_many_back-requires-clause-held
take_many_back-requires-clause-held c =
    let at = (goal.at.take_many_back-requires-clause-held c).In-Came in
    rows_there c.args.catalog.now c.a_catalog_is_consistent.ensures c.args.table.0 c.args.rows.now (ready at)

pub take_many_back-requires-clause-free : goal.take_many_back-requires-clause-free
take_many_back-requires-clause-free c =
    let at = (goal.at.take_many_back-requires-clause-free c).In-Came in
    rows_free c.args.catalog.now c.a_catalog_is_consistent.ensures c.args.table.0 c.args.rows.now (ready at) (stands at)

declared : (c : In-TableDeclared) → IsReady (TableDeclared (map (λ t. t.0) c.in-TableDeclared.gained.items)) (outline_of c.args.catalog.now)
declared c = subst (λ k. IsReady (change_of k c.args.table.0 c.args.rows.now c.args.cells.now) (outline_of c.args.catalog.now)) c.in-TableDeclared.is c.requires.ready

pub take_back_table-requires-clause-empty : goal.take_back_table-requires-clause-empty
take_back_table-requires-clause-empty c = (declared (goal.at.take_back_table-requires-clause-empty c).In-TableDeclared).0

pub take_back_table-requires-clause-before_last : goal.take_back_table-requires-clause-before_last
take_back_table-requires-clause-before_last c =
    subst (λ (gained : List TableNumber). AreBeforeLast (map (λ t. t.0) gained) (outline_of c.args.catalog.now)) (sym c.as_slice.ensures.value)
    (declared (goal.at.take_back_table-requires-clause-before_last c).In-TableDeclared).1

pub take_back_table-requires-clause-stands : goal.take_back_table-requires-clause-stands
take_back_table-requires-clause-stands c =
    let stands : IsOutline (without_last (map (λ t. t.0) c.in-TableDeclared.gained.items) (outline_of c.args.catalog.now)) =
    subst (λ k. IsOutline (before (change_of k c.args.table.0 c.args.rows.now c.args.cells.now) (outline_of c.args.catalog.now))) c.in-TableDeclared.is c.requires.stands in
    subst (λ (gained : List TableNumber). IsOutline (without_last (map (λ t. t.0) gained) (outline_of c.args.catalog.now))) (sym c.as_slice.ensures.value) stands

pub put_table_back-requires-clause-can : goal.put_table_back-requires-clause-can
put_table_back-requires-clause-can c =
    subst (λ k. IsReady (change_of k c.args.table.0 c.args.rows.now c.args.cells.now) (outline_of c.args.catalog.now)) c.in-TableDropped.is c.requires.ready

pub drop_index-requires : goal.drop_index-requires
drop_index-requires c =
    can_drop c.args.catalog.now c.a_catalog_is_consistent.ensures c.args.table c.in-IndexDeclared.column c.in-IndexDeclared.kind
    (subst (λ k. IsReady (change_of k c.args.table.0 c.args.rows.now c.args.cells.now) (outline_of c.args.catalog.now)) c.in-IndexDeclared.is c.requires.ready)
