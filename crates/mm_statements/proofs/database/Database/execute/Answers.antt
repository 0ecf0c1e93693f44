use Rattle.std.proofs.Common.{◌≡◌, ap, refl, Ok, Err, subst}
use Rattle.std.proofs.lemmas.Result.{err_from_is_err_and}
use Rattle.plain_tables.specs.Doing.{done}
use Rattle.plain_tables.specs.ResolvedLaws.{IsMeant}
use Rattle.plain_tables.specs.declared.resolved.Resolved.TheVariants as resolved
use Rattle.mm_cells.specs.Reading.{AreFull}
use Rattle.mm_cells.specs.Values.{values_of}
use Rattle.mm_statements.specs.Faults.{execute_fault_of_select}
use Rattle.mm_statements.specs.Resolving.{IsFinished, IsOfRows}
use Rattle.mm_statements.specs.declared.faults.ExecuteFault.TheVariants as fault
use Rattle.mm_statements.proofs.Executing.{change-undone, changed-noted, effect-of, full-cells, on-err, same-finished, same-unfinished, select-declined, unchanged, unfinished-declined, unresolved-apart, unresolved-unfinished}
use Rattle.mm_statements.proofs.Finished.{rows-change}
use Rattle.mm_statements.proofs.Seen.{same-seen, statement-none}
use Rattle.mm_statements.proofs.database.Database.execute.Goals as goal

pub returns-in_err-resolve-clause-missing : goal.returns-in_err-resolve-clause-missing
returns-in_err-resolve-clause-missing c =
    let e = err_from_is_err_and c.from_residual.result c.from_residual.ensures.1 in
    rw (← c.self.view_is, e.1, e.2)
    (λ none.
    let declined = c.in_err-resolve.ensures.missing (statement-none c.self.inside.held c.self.inside.statements c.args.number none) in
    let same : c.in_err-resolve.field-0.0 ≡ fault.NoSuchStatement = cc in
    ap Err same)

pub returns-in_err-resolve-clause-declined : goal.returns-in_err-resolve-clause-declined
returns-in_err-resolve-clause-declined c =
    let e = err_from_is_err_and c.from_residual.result c.from_residual.ensures.1 in
    rw (← c.self.view_is, e.1, e.2)
    (unfinished-declined c.self.inside.held c.self.inside.statements c.args.number _
    (unresolved-unfinished c.self.inside.held.session.database c.self.inside.statements c.args.number _ c.in_err-resolve.ensures.refused))

pub returns-in_err-resolve-clause-too_long : goal.returns-in_err-resolve-clause-too_long
returns-in_err-resolve-clause-too_long c =
    let e = err_from_is_err_and c.from_residual.result c.from_residual.ensures.1 in
    rw (e.1, e.2)
    (λ is.
    let same : c.in_err-resolve.field-0.0 ≡ fault.TooLong = cc in
    absurd (unresolved-apart c.self.inside.held.session.database c.self.inside.statements c.args.number _ c.in_err-resolve.ensures.refused same))

pub returns-in_err-resolve-clause-unchanged : goal.returns-in_err-resolve-clause-unchanged
returns-in_err-resolve-clause-unchanged c =
    let s = c.self.inside.held in
    rw (← c.self.view_is)
    (on-err c.from_residual.result (unchanged s s c.self.inside.statements c.resolve.new.statements refl c.resolve.ensures.same))

pub returns-in_err-resolve-clause-statements : goal.returns-in_err-resolve-clause-statements
returns-in_err-resolve-clause-statements c =
    let s = c.self.inside.held in
    rw (← c.self.view_is) (same-seen s s c.self.inside.statements c.resolve.new.statements c.resolve.ensures.same)

pub returns-in_err-lent-clause-declined : goal.returns-in_err-lent-clause-declined
returns-in_err-lent-clause-declined c =
    let s = c.self.inside.held in
    let old = c.self.inside.statements in
    let e = err_from_is_err_and c.from_residual-in_err-lent.result c.from_residual-in_err-lent.ensures.1 in
    rw (← c.self.view_is, e.1, e.2)
    (unfinished-declined s old c.args.number (fault.Refused c.in_err-lent.field-0.0)
    (same-unfinished s.session.database old c.resolve.new.statements c.args.number _ c.resolve.ensures.same
    (c.in_err-lent.ensures.refused s.session.database c.in_ok-resolve.ensures.right)))

pub returns-in_err-lent-clause-unchanged : goal.returns-in_err-lent-clause-unchanged
returns-in_err-lent-clause-unchanged c =
    let s = c.self.inside.held in
    rw (← c.self.view_is)
    (on-err c.from_residual-in_err-lent.result (unchanged s s c.self.inside.statements c.resolve.new.statements refl c.resolve.ensures.same))

pub returns-in_err-lent-clause-statements : goal.returns-in_err-lent-clause-statements
returns-in_err-lent-clause-statements c =
    let s = c.self.inside.held in
    rw (← c.self.view_is) (same-seen s s c.self.inside.statements c.resolve.new.statements c.resolve.ensures.same)

pub insert-requires : goal.insert-requires
insert-requires c =
    let s = c.self.inside.held in
    rw c.in-Insert.is at (c.in_ok-lent.ensures.meant s.session.limits s.session.database c.in_ok-resolve.ensures.right)

pub returns-in_err-insert-in-Insert-clause-declined : goal.returns-in_err-insert-in-Insert-clause-declined
returns-in_err-insert-in-Insert-clause-declined c =
    let s = c.self.inside.held in
    let old = c.self.inside.statements in
    let command = resolved.Insert c.in-Insert.table c.in-Insert.row.now in
    let finished : IsFinished s.session.database c.resolve.new.statements c.args.number (Ok command) =
    rw c.in-Insert.is at (c.in_ok-lent.ensures.finished s.session.database c.in_ok-resolve.ensures.right) in
    let e = err_from_is_err_and c.from_residual-in_err-insert-in-Insert.result c.from_residual-in_err-insert-in-Insert.ensures.1 in
    rw (← c.self.view_is, e.1, e.2)
    (change-undone s c.insert.new.self.session old c.args.number command _
    (same-finished s.session.database old c.resolve.new.statements c.args.number (Ok command) c.resolve.ensures.same finished) tt c.in_err-insert-in-Insert.ensures.refused)

pub returns-in_err-insert-in-Insert-clause-unchanged : goal.returns-in_err-insert-in-Insert-clause-unchanged
returns-in_err-insert-in-Insert-clause-unchanged c =
    let s = c.self.inside.held in
    rw (← c.self.view_is)
    (on-err c.from_residual-in_err-insert-in-Insert.result
    (unchanged s c.insert.new.self c.self.inside.statements c.resolve.new.statements
    c.in_err-insert-in-Insert.ensures.unchanged c.resolve.ensures.same))

pub returns-in_err-insert-in-Insert-clause-statements : goal.returns-in_err-insert-in-Insert-clause-statements
returns-in_err-insert-in-Insert-clause-statements c =
    rw (← c.self.view_is)
    (same-seen c.self.inside.held c.insert.new.self c.self.inside.statements c.resolve.new.statements c.resolve.ensures.same)

pub returns-in-Insert-clause-done : goal.returns-in-Insert-clause-done
returns-in-Insert-clause-done c =
    let s = c.self.inside.held in
    let old = c.self.inside.statements in
    let command = resolved.Insert c.in-Insert.table c.in-Insert.row.now in
    let finished : IsFinished s.session.database c.resolve.new.statements c.args.number (Ok command) =
    rw c.in-Insert.is at (c.in_ok-lent.ensures.finished s.session.database c.in_ok-resolve.ensures.right) in
    rw (← c.self.view_is) (
      done s.session.limits s.session.database command,
      effect-of s old c.args.number (Ok command) (same-finished s.session.database old c.resolve.new.statements c.args.number (Ok command) c.resolve.ensures.same finished),
      (c.in_ok-insert-in-Insert.ensures.done, c.clear.ensures),
    )

pub returns-in-Insert-clause-statements : goal.returns-in-Insert-clause-statements
returns-in-Insert-clause-statements c =
    rw (← c.self.view_is)
    (same-seen c.self.inside.held c.insert.new.self c.self.inside.statements c.resolve.new.statements c.resolve.ensures.same)

pub select-requires : goal.select-requires
select-requires c =
    let s = c.self.inside.held in
    let meant : IsMeant s.session.limits s.session.database c.in-Command.command.now =
    rw c.in-Command.is at (c.in_ok-lent.ensures.meant s.session.limits s.session.database c.in_ok-resolve.ensures.right) in
    subst (IsMeant s.session.limits s.session.database) c.in-Select.is meant

pub returns-in_err-columns-clause-declined : goal.returns-in_err-columns-clause-declined
returns-in_err-columns-clause-declined c =
    let s = c.self.inside.held in
    let old = c.self.inside.statements in
    let command = resolved.Select c.in-Select.query in
    let lent : IsFinished s.session.database c.resolve.new.statements c.args.number (Ok c.in-Command.command.now) =
    rw c.in-Command.is at (c.in_ok-lent.ensures.finished s.session.database c.in_ok-resolve.ensures.right) in
    let finished : IsFinished s.session.database c.resolve.new.statements c.args.number (Ok command) = rw c.in-Select.is at lent in
    let e = err_from_is_err_and c.from_residual-in_err-columns.result c.from_residual-in_err-columns.ensures.1 in
    rw (← c.self.view_is, e.1, e.2)
    (select-declined s old c.args.number c.in-Select.query
    (same-finished s.session.database old c.resolve.new.statements c.args.number (Ok command) c.resolve.ensures.same finished) c.in_err-columns.field-0.0)

pub returns-in_err-columns-clause-too_long : goal.returns-in_err-columns-clause-too_long
returns-in_err-columns-clause-too_long c =
    let e = err_from_is_err_and c.from_residual-in_err-columns.result c.from_residual-in_err-columns.ensures.1 in
    rw (e.1, e.2)
    (λ is.
    let same : execute_fault_of_select c.in_err-columns.field-0.0 ≡ fault.TooLong = cc in
    full-cells c.in_err-columns.field-0.0 (AreFull (values_of c.select.new.cells)) (λ long. c.in_err-columns.ensures.too_long (ap Err long)) same)

pub returns-in_err-columns-clause-unchanged : goal.returns-in_err-columns-clause-unchanged
returns-in_err-columns-clause-unchanged c =
    let s = c.self.inside.held in
    rw (← c.self.view_is)
    (on-err c.from_residual-in_err-columns.result (unchanged s s c.self.inside.statements c.resolve.new.statements refl c.resolve.ensures.same))

pub returns-in_err-columns-clause-statements : goal.returns-in_err-columns-clause-statements
returns-in_err-columns-clause-statements c =
    let s = c.self.inside.held in
    rw (← c.self.view_is) (same-seen s s c.self.inside.statements c.resolve.new.statements c.resolve.ensures.same)

pub returns-in-Select-clause-done : goal.returns-in-Select-clause-done
returns-in-Select-clause-done c =
    let s = c.self.inside.held in
    let old = c.self.inside.statements in
    let command = resolved.Select c.in-Select.query in
    let lent : IsFinished s.session.database c.resolve.new.statements c.args.number (Ok c.in-Command.command.now) =
    rw c.in-Command.is at (c.in_ok-lent.ensures.finished s.session.database c.in_ok-resolve.ensures.right) in
    let finished : IsFinished s.session.database c.resolve.new.statements c.args.number (Ok command) = rw c.in-Select.is at lent in
    rw (← c.self.view_is) (
      done s.session.limits s.session.database command,
      effect-of s old c.args.number (Ok command) (same-finished s.session.database old c.resolve.new.statements c.args.number (Ok command) c.resolve.ensures.same finished),
      (
        refl,
        c.in_ok-columns.ensures.shown,
        c.in_ok-columns.ensures.some,
      ),
    )

pub returns-in-Select-clause-statements : goal.returns-in-Select-clause-statements
returns-in-Select-clause-statements c =
    let s = c.self.inside.held in
    rw (← c.self.view_is) (same-seen s s c.self.inside.statements c.resolve.new.statements c.resolve.ensures.same)

pub change-requires : goal.change-requires
change-requires c =
    let s = c.self.inside.held in
    let command = c.in-Command.command.now in
    let meant : IsMeant s.session.limits s.session.database command = rw c.in-Command.is at (c.in_ok-lent.ensures.meant s.session.limits s.session.database c.in_ok-resolve.ensures.right) in
    let rows : IsOfRows command = rw c.in-Command.is at c.in_ok-lent.ensures.rows in
    record { meant = meant; change = rows-change command rows c.in_default.not-Select }

pub returns-in_err-count-clause-declined : goal.returns-in_err-count-clause-declined
returns-in_err-count-clause-declined c =
    let s = c.self.inside.held in
    let old = c.self.inside.statements in
    let command = c.in-Command.command.now in
    let finished : IsFinished s.session.database c.resolve.new.statements c.args.number (Ok command) =
    rw c.in-Command.is at (c.in_ok-lent.ensures.finished s.session.database c.in_ok-resolve.ensures.right) in
    let rows : IsOfRows command = rw c.in-Command.is at c.in_ok-lent.ensures.rows in
    let e = err_from_is_err_and c.from_residual-in_err-count.result c.from_residual-in_err-count.ensures.1 in
    rw (← c.self.view_is, e.1, e.2)
    (change-undone s c.change.new.self.session old c.args.number command _
    (same-finished s.session.database old c.resolve.new.statements c.args.number (Ok command) c.resolve.ensures.same finished)
    (rows-change command rows c.in_default.not-Select) c.in_err-count.ensures.refused)

pub returns-in_err-count-clause-unchanged : goal.returns-in_err-count-clause-unchanged
returns-in_err-count-clause-unchanged c =
    let s = c.self.inside.held in
    rw (← c.self.view_is)
    (on-err c.from_residual-in_err-count.result
    (unchanged s c.change.new.self c.self.inside.statements c.resolve.new.statements
    c.in_err-count.ensures.unchanged c.resolve.ensures.same))

pub returns-in_err-count-clause-statements : goal.returns-in_err-count-clause-statements
returns-in_err-count-clause-statements c =
    rw (← c.self.view_is)
    (same-seen c.self.inside.held c.change.new.self c.self.inside.statements c.resolve.new.statements c.resolve.ensures.same)

pub returns-clause-done : goal.returns-clause-done
returns-clause-done c =
    let s = c.self.inside.held in
    let old = c.self.inside.statements in
    let command = c.in-Command.command.now in
    let finished : IsFinished s.session.database c.resolve.new.statements c.args.number (Ok command) =
    rw c.in-Command.is at (c.in_ok-lent.ensures.finished s.session.database c.in_ok-resolve.ensures.right) in
    rw (← c.self.view_is) (
      done s.session.limits s.session.database command,
      effect-of s old c.args.number (Ok command) (same-finished s.session.database old c.resolve.new.statements c.args.number (Ok command) c.resolve.ensures.same finished),
      (c.in_ok-count.ensures.done, c.clear.ensures),
    )

pub returns-clause-statements : goal.returns-clause-statements
returns-clause-statements c =
    rw (← c.self.view_is)
    (same-seen c.self.inside.held c.change.new.self c.self.inside.statements c.resolve.new.statements c.resolve.ensures.same)

pub invariant_of-self-in-Insert : goal.invariant_of-self-in-Insert
invariant_of-self-in-Insert c =
    changed-noted c.self.inside.held.session c.insert.new.self.session c.resolve.new.noted c.resolve.new.statements (resolved.Insert c.in-Insert.table c.in-Insert.row.now) 1 tt
    c.in_ok-insert-in-Insert.ensures.done c.resolve.ensures.noted

pub invariant_of-self-2 : goal.invariant_of-self-2
invariant_of-self-2 c =
    let command = c.in-Command.command.now in
    let rows : IsOfRows command = rw c.in-Command.is at c.in_ok-lent.ensures.rows in
    changed-noted c.self.inside.held.session c.change.new.self.session c.resolve.new.noted c.resolve.new.statements command c.in_ok-count.count
    (rows-change command rows c.in_default.not-Select) c.in_ok-count.ensures.done c.resolve.ensures.noted
