use Rattle.std.proofs.Common.{rules, ◌∙◌, ap, sym}
use Rattle.std.proofs.lemmas.List.{same_from_push}
use Rattle.mm_relation.specs.Settings.{piled}
use Rattle.mm_relation.proofs.Writing.{none_written, first_column, still_held, other_columns, all_written}
use Rattle.mm_relation.proofs.change.+write_cells.Goals as goal

pub set_cell-requires-clause-column : goal.set_cell-requires-clause-column
set_cell-requires-clause-column t c = first_column c.args.rows.now.tuples c.args.r c.args.sets.now c.in-Some.field-0-0.now c.in-Some.rest.now c.in-Some.ensures.cases.0 c.requires.columns

pub returns-in_default-clause-row : goal.returns-in_default-clause-row
returns-in_default-clause-row t c = none_written c.args.rows.now.tuples c.args.r c.args.sets.now c.in_default.ensures.cases

pub write_cells-requires : goal.write_cells-requires
write_cells-requires t c = (
  search rules,
  (
    still_held c.args.rows.now.tuples c.args.r c.args.sets.now c.in-Some.field-0-0.now c.in-Some.rest.now c.in-Some.ensures.cases.0 c.top_of-cell.result c.set_cell.new.self.tuples c.set_cell.ensures.row c.requires.held,
    (other_columns c.args.rows.now.tuples c.args.r c.args.sets.now c.in-Some.field-0-0.now c.in-Some.rest.now c.in-Some.ensures.cases.0 c.top_of-cell.result c.set_cell.new.self.tuples c.set_cell.ensures.row c.requires.held c.requires.columns, (c.requires.ready.0, (same_from_push _ _ _ _ (sym c.top_of-cell.ensures ∙ c.requires.ready.1 ∙ ap (λ ss. piled ss c.requires.ready.0) c.in-Some.ensures.cases.0)).0)),
  ),
)

pub returns-clause-row : goal.returns-clause-row
returns-clause-row t c =
    all_written c.args.rows.now.tuples c.args.r c.args.sets.now c.in-Some.field-0-0.now c.in-Some.rest.now c.in-Some.ensures.cases.0 c.top_of-cell.result c.set_cell.new.self.tuples c.set_cell.ensures.row
    (same_from_push _ _ _ _ (sym c.top_of-cell.ensures ∙ c.requires.ready.1 ∙ ap (λ ss. piled ss c.requires.ready.0) c.in-Some.ensures.cases.0)).1 c.write_cells.new.rows.tuples c.write_cells.ensures.row
