use Rattle.std.proofs.Common.{◌≡◌, ap, refl, Err, Ok}
use Rattle.std.proofs.lemmas.Result.{err_from_is_err_and}
use Rattle.plain_tables.specs.Doing.{done}
use Rattle.plain_tables.specs.declared.resolved.Resolved.TheVariants as resolved
use Rattle.mm_cells.specs.Reading.{AreFull}
use Rattle.mm_cells.specs.Values.{values_of}
use Rattle.mm_statements.specs.Faults.{query_fault_of}
use Rattle.mm_statements.specs.Querying.{IsMeaningOfLine}
use Rattle.mm_statements.specs.declared.faults.QueryFault.TheVariants as fault
use Rattle.mm_statements.proofs.Executing.{changed-noted, on-err, unchanged}
use Rattle.mm_statements.proofs.Finished.{rows-change}
use Rattle.mm_statements.proofs.Queries.{change-unanswered, effect-of-line, full-cells, select-unanswered}
use Rattle.mm_statements.proofs.database.Database.query.Goals as goal

pub returns-in_err-command-clause-refused : goal.returns-in_err-command-clause-refused
returns-in_err-command-clause-refused c =
    let e = err_from_is_err_and c.from_residual.result c.from_residual.ensures.1 in
    rw (← c.self.view_is, e.1, e.2) c.in_err-command.ensures.refused

pub returns-in_err-columns-clause-refused : goal.returns-in_err-columns-clause-refused
returns-in_err-columns-clause-refused c =
    let s = c.self.inside.held.session in
    let command = resolved.Select c.in-Select.query in
    let means : IsMeaningOfLine s.database _ (Ok command) = rw c.in-Select.is at c.in_ok-command.ensures.spelled in
    let e = err_from_is_err_and c.from_residual-in_err-columns.result c.from_residual-in_err-columns.ensures.1 in
    rw (← c.self.view_is, e.1, e.2) (select-unanswered s _ c.in-Select.query c.in_err-columns.field-0.0 means)

pub returns-in_err-columns-clause-too_long : goal.returns-in_err-columns-clause-too_long
returns-in_err-columns-clause-too_long c =
    let e = err_from_is_err_and c.from_residual-in_err-columns.result c.from_residual-in_err-columns.ensures.1 in
    rw (e.1, e.2)
    (λ is.
    let same : query_fault_of c.in_err-columns.field-0.0 ≡ fault.TooLong = cc in
    full-cells c.in_err-columns.field-0.0 (AreFull (values_of c.select.new.cells)) (λ long. c.in_err-columns.ensures.too_long (ap Err long)) same)

pub returns-in-Select-clause-done : goal.returns-in-Select-clause-done
returns-in-Select-clause-done c =
    let s = c.self.inside.held.session in
    let command = resolved.Select c.in-Select.query in
    let means : IsMeaningOfLine s.database _ (Ok command) = rw c.in-Select.is at c.in_ok-command.ensures.spelled in
    rw (← c.self.view_is)
    (done s.limits s.database command, effect-of-line s _ (Ok command) means, (refl, c.in_ok-columns.ensures.shown, c.in_ok-columns.ensures.some))

pub returns-in_err-count-clause-refused : goal.returns-in_err-count-clause-refused
returns-in_err-count-clause-refused c =
    let e = err_from_is_err_and c.from_residual-in_err-count.result c.from_residual-in_err-count.ensures.1 in
    rw (← c.self.view_is, e.1, e.2)
    (change-unanswered c.self.inside.held.session c.change.new.self.session _ c.in_ok-command.command _ c.in_ok-command.ensures.spelled
    (rows-change c.in_ok-command.command c.in_ok-command.ensures.rows c.in_default.not-Select) c.in_err-count.ensures.refused)

pub returns-in_err-columns-clause-unchanged : goal.returns-in_err-columns-clause-unchanged
returns-in_err-columns-clause-unchanged c =
    let held = c.self.inside.held in
    let statements = c.self.inside.statements in
    rw (← c.self.view_is)
    (on-err c.from_residual-in_err-columns.result (unchanged held held statements statements refl (λ number. refl)))

pub returns-in_err-count-clause-unchanged : goal.returns-in_err-count-clause-unchanged
returns-in_err-count-clause-unchanged c =
    let statements = c.self.inside.statements in
    rw (← c.self.view_is)
    (on-err c.from_residual-in_err-count.result
    (unchanged c.self.inside.held c.change.new.self statements statements
    c.in_err-count.ensures.unchanged (λ number. refl)))

pub returns-clause-done : goal.returns-clause-done
returns-clause-done c =
    let s = c.self.inside.held.session in
    let command = c.in_ok-command.command in
    rw (← c.self.view_is)
    (done s.limits s.database command, effect-of-line s _ (Ok command) c.in_ok-command.ensures.spelled, (c.in_ok-count.ensures.done, c.clear.ensures))

pub invariant_of-self-2 : goal.invariant_of-self-2
invariant_of-self-2 c =
    let command = c.in_ok-command.command in
    changed-noted c.self.inside.held.session c.change.new.self.session c.self.inside.noted c.self.inside.statements command c.in_ok-count.count
    (rows-change command c.in_ok-command.ensures.rows c.in_default.not-Select) c.in_ok-count.ensures.done c.self.invariant
