use Rattle.std.proofs.Common.{rules}
use Rattle.mm_relation.proofs.Writing.{none_written, first_column, still_held, other_columns, all_written}
use Rattle.mm_relation.proofs.change.+move_cells.Goals as goal

pub set_cell-requires-clause-column : goal.set_cell-requires-clause-column
set_cell-requires-clause-column t c = first_column c.args.rows.now.tuples c.args.r c.args.sets.now c.in-Some.set.now c.in-Some.rest.now c.in-Some.ensures.cases.0 c.requires.columns

pub returns-in_default-clause-row : goal.returns-in_default-clause-row
returns-in_default-clause-row t c = none_written c.args.rows.now.tuples c.args.r c.args.sets.now c.in_default.ensures.cases

pub move_cells-requires : goal.move_cells-requires
move_cells-requires t c = (
  search rules,
  (
    still_held c.args.rows.now.tuples c.args.r c.args.sets.now c.in-Some.set.now c.in-Some.rest.now c.in-Some.ensures.cases.0 c.take.result c.set_cell.new.self.tuples c.set_cell.ensures.row c.requires.held,
    other_columns c.args.rows.now.tuples c.args.r c.args.sets.now c.in-Some.set.now c.in-Some.rest.now c.in-Some.ensures.cases.0 c.take.result c.set_cell.new.self.tuples c.set_cell.ensures.row c.requires.held c.requires.columns,
  ),
)

pub returns-clause-row : goal.returns-clause-row
returns-clause-row t c =
    all_written c.args.rows.now.tuples c.args.r c.args.sets.now c.in-Some.set.now c.in-Some.rest.now c.in-Some.ensures.cases.0 c.take.result c.set_cell.new.self.tuples c.set_cell.ensures.row
    c.take.ensures.taken c.move_cells.new.rows.tuples c.move_cells.ensures.row
