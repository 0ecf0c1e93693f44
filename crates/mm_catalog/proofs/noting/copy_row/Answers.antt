use Rattle.std.proofs.Common.{◌≡◌, ◌++◌, [], ◌∷◌, List, Some, get_or, sym, ap, ◌∙◌, append-nil, append_assoc, take}
use Rattle.part_raw.proofs.Tuples.{held_tuple}
use Rattle.std.specs.Option.{option_map}
use Rattle.mm_catalog.specs.Assigned.{CellSet}
use Rattle.mm_catalog.specs.Noted.{cell_to, cells_to}
use Rattle.mm_catalog.proofs.Noted.{first_of, none_to, on_err, to_more}
use Rattle.mm_catalog.proofs.noting.copy_row.Goals as goal

pub loop-assignment-init : goal.loop-assignment-init
loop-assignment-init c row at = sym (append-nil c.args.cells.now.items) ∙ ap (λ (cs : List CellSet). c.args.cells.now.items ++ cs) (sym (none_to row))

pub loop-assignment-preserved : goal.loop-assignment-preserved
loop-assignment-preserved c row at =
    let i = c.loop-assignment.assignment-index in
    let assignments = c.args.assignments.now in
    let a = c.assignment-item.result in
    let first = c.args.cells.now.items in
    let found : cell_to row (get_or assignments i a) ≡ Some (a.column, c.in_ok-cell.cell) =
    ap (cell_to row) (sym c.assignment-item.is) ∙ ap (option_map (λ cell. (a.column, cell))) (c.in_ok-cell.ensures row at) in
    c.in_ok-push_set.ensures.pushed
    ∙ ap (λ (cs : List CellSet). cs ++ (a.column, c.in_ok-cell.cell) ∷ []) (c.loop-assignment.invariant row at)
    ∙ append_assoc first (cells_to (take i assignments) row) ((a.column, c.in_ok-cell.cell) ∷ [])
    ∙ ap (λ (cs : List CellSet). first ++ cs) (sym (to_more assignments row i a (a.column, c.in_ok-cell.cell) c.loop-assignment-test.true found))

pub returns-in_err-cell-clause-others : goal.returns-in_err-cell-clause-others
returns-in_err-cell-clause-others c =
    let row = held_tuple c.args.relation.now.rows c.args.r c.requires.held in
    on_err c.from_residual.result (first_of c.args.cells.now.items (cells_to (take c.loop-assignment.assignment-index c.args.assignments.now) row.0) c.loop-assignment.cells.items (c.loop-assignment.invariant row.0 row.1))

pub returns-in_err-push_set-clause-others : goal.returns-in_err-push_set-clause-others
returns-in_err-push_set-clause-others c =
    let row = held_tuple c.args.relation.now.rows c.args.r c.requires.held in
    on_err c.from_residual-in_err-push_set.result
    (first_of c.args.cells.now.items (cells_to (take c.loop-assignment.assignment-index c.args.assignments.now) row.0) c.push_set.new.sets.items (c.in_err-push_set.ensures.kept ∙ c.loop-assignment.invariant row.0 row.1))
