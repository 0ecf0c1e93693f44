use Rattle.std.proofs.Common.{◌≡◌, ◌++◌, List, append-nil, append_assoc, get_or, length, sym, ap, ◌∙◌, subst, take}
use Rattle.part_raw.proofs.Tuples.{held_tuple}
use Rattle.mm_catalog.specs.Assigned.{CellSet}
use Rattle.mm_catalog.specs.Noted.{cells_at, cells_to}
use Rattle.mm_catalog.proofs.Noted.{at_more, none_at, on_err, still_first}
use Rattle.mm_catalog.proofs.noting.copy_rows.Goals as goal

pub loop-r-init : goal.loop-r-init
loop-r-init c = sym (append-nil c.args.cells.now.items) ∙ ap (λ (cs : List CellSet). c.args.cells.now.items ++ cs) (sym (none_at c.args.relation.now c.args.assignments.now))

pub loop-r-preserved : goal.loop-r-preserved
loop-r-preserved c =
    let s = c.args.relation.now in
    let rs = c.args.rows.now in
    let i = c.loop-r.r-index in
    let row = held_tuple s.rows (get_or rs i _) (c.requires.held i _ c.loop-r-test.true) in
    c.in_ok-copy_row.ensures.copied row.0 row.1
    ∙ ap (λ (cs : List CellSet). cs ++ cells_to c.args.assignments.now row.0) c.loop-r.invariant
    ∙ append_assoc c.args.cells.now.items (cells_at s c.args.assignments.now (take i rs)) (cells_to c.args.assignments.now row.0)
    ∙ ap (λ (cs : List CellSet). c.args.cells.now.items ++ cs) (sym (at_more s c.args.assignments.now rs i _ row.0 c.loop-r-test.true row.1))

pub returns-in_err-copy_row-clause-others : goal.returns-in_err-copy_row-clause-others
returns-in_err-copy_row-clause-others c =
    let first = c.args.cells.now.items in
    let more = cells_at c.args.relation.now c.args.assignments.now (take c.loop-r.r-index c.args.rows.now) in
    on_err c.from_residual.result (still_first first more c.copy_row.new.cells.items (subst (λ (cs : List CellSet). take (length cs) c.copy_row.new.cells.items ≡ cs) c.loop-r.invariant c.in_err-copy_row.ensures.others))
