use Rattle.std.proofs.Common.{◌≡◌, ap, refl, subst, Ok, Err}
use Rattle.std.proofs.lemmas.Result.{err_from_is_err_and}
use Rattle.plain_tables.specs.ResolvedLaws.{IsMeant}
use Rattle.plain_tables.specs.declared.resolved.Resolved.TheVariants as resolved
use Rattle.mm_prepared.specs.Lent.{lent_command}
use Rattle.mm_statements.specs.Resolving.{IsFinished}
use Rattle.mm_statements.specs.declared.faults.ExecuteFault.TheVariants as fault
use Rattle.mm_statements.proofs.Counts.{change-uncounted, count-declined, rows-counted, unfinished-uncounted}
use Rattle.mm_statements.proofs.Executing.{same-finished, same-unfinished, unchanged, unresolved-unfinished}
use Rattle.mm_statements.proofs.Finished.{rows-change}
use Rattle.mm_statements.proofs.Seen.{statement-none}
use Rattle.mm_statements.proofs.database.Database.count.Goals as goal

pub returns-in_err-resolve-clause-missing : goal.returns-in_err-resolve-clause-missing
returns-in_err-resolve-clause-missing c =
    let e = err_from_is_err_and c.from_residual.result c.from_residual.ensures.1 in
    rw (← c.self.view_is, e.1, e.2)
    (λ none.
    let declined = c.in_err-resolve.ensures.missing (statement-none c.self.inside.held c.self.inside.statements c.args.number none) in
    let same : c.in_err-resolve.field-0.0 ≡ fault.NoSuchStatement = cc in
    ap Err same)

pub returns-in_err-resolve-clause-declined : goal.returns-in_err-resolve-clause-declined
returns-in_err-resolve-clause-declined c =
    let s = c.self.inside.held in
    let old = c.self.inside.statements in
    let e = err_from_is_err_and c.from_residual.result c.from_residual.ensures.1 in
    rw (← c.self.view_is, e.1, e.2)
    (unfinished-uncounted s old c.args.number _ (unresolved-unfinished s.session.database old c.args.number _ c.in_err-resolve.ensures.refused))

pub returns-in_err-resolve-clause-unchanged : goal.returns-in_err-resolve-clause-unchanged
returns-in_err-resolve-clause-unchanged c =
    let s = c.self.inside.held in
    rw (← c.self.view_is) (unchanged s s c.self.inside.statements c.resolve.new.statements refl c.resolve.ensures.same)

pub returns-in_err-lent-clause-declined : goal.returns-in_err-lent-clause-declined
returns-in_err-lent-clause-declined c =
    let s = c.self.inside.held in
    let old = c.self.inside.statements in
    let e = err_from_is_err_and c.from_residual-in_err-lent.result c.from_residual-in_err-lent.ensures.1 in
    rw (← c.self.view_is, e.1, e.2)
    (unfinished-uncounted s old c.args.number (fault.Refused c.in_err-lent.field-0.0)
    (same-unfinished s.session.database old c.resolve.new.statements c.args.number _ c.resolve.ensures.same
    (c.in_err-lent.ensures.refused s.session.database c.in_ok-resolve.ensures.right)))

pub returns-in_err-lent-clause-unchanged : goal.returns-in_err-lent-clause-unchanged
returns-in_err-lent-clause-unchanged c =
    let s = c.self.inside.held in
    rw (← c.self.view_is) (unchanged s s c.self.inside.statements c.resolve.new.statements refl c.resolve.ensures.same)

pub returns-in_err-query-clause-declined : goal.returns-in_err-query-clause-declined
returns-in_err-query-clause-declined c =
    let s = c.self.inside.held in
    let old = c.self.inside.statements in
    let command = lent_command c.in_ok-lent.lent in
    let finished : IsFinished s.session.database old c.args.number (Ok command) =
    same-finished s.session.database old c.resolve.new.statements c.args.number (Ok command) c.resolve.ensures.same
    (c.in_ok-lent.ensures.finished s.session.database c.in_ok-resolve.ensures.right) in
    let e = err_from_is_err_and c.from_residual-in_err-query.result c.from_residual-in_err-query.ensures.1 in
    rw (← c.self.view_is, e.1, e.2)
    (change-uncounted s old c.args.number command finished c.in_err-query.field-0.0
    (rows-change command c.in_ok-lent.ensures.rows c.in_err-query.ensures.other) c.in_err-query.ensures.refused)

pub returns-in_err-query-clause-unchanged : goal.returns-in_err-query-clause-unchanged
returns-in_err-query-clause-unchanged c =
    let s = c.self.inside.held in
    rw (← c.self.view_is) (unchanged s s c.self.inside.statements c.resolve.new.statements refl c.resolve.ensures.same)

pub count-requires : goal.count-requires
count-requires c =
    let s = c.self.inside.held in
    subst (IsMeant s.session.limits s.session.database) c.in_ok-query.ensures.select
    (c.in_ok-lent.ensures.meant s.session.limits s.session.database c.in_ok-resolve.ensures.right)

pub returns-in_err-count-clause-declined : goal.returns-in_err-count-clause-declined
returns-in_err-count-clause-declined c =
    let s = c.self.inside.held in
    let old = c.self.inside.statements in
    let command = resolved.Select c.in_ok-query.query.now in
    let lent : IsFinished s.session.database c.resolve.new.statements c.args.number (Ok (lent_command c.in_ok-lent.lent)) =
    c.in_ok-lent.ensures.finished s.session.database c.in_ok-resolve.ensures.right in
    let finished : IsFinished s.session.database old c.args.number (Ok command) =
    same-finished s.session.database old c.resolve.new.statements c.args.number (Ok command) c.resolve.ensures.same
    (rw c.in_ok-query.ensures.select at lent) in
    let e = err_from_is_err_and c.from_residual-in_err-count.result c.from_residual-in_err-count.ensures.1 in
    rw (← c.self.view_is, e.1, e.2)
    (count-declined s old c.args.number c.in_ok-query.query.now finished c.in_err-count.field-0.0 (λ many. c.in_err-count.ensures.too_many (ap Err many)))

pub returns-in_err-count-clause-unchanged : goal.returns-in_err-count-clause-unchanged
returns-in_err-count-clause-unchanged c =
    let s = c.self.inside.held in
    rw (← c.self.view_is) (unchanged s s c.self.inside.statements c.resolve.new.statements refl c.resolve.ensures.same)

pub returns-clause-counted : goal.returns-clause-counted
returns-clause-counted c =
    let s = c.self.inside.held in
    let old = c.self.inside.statements in
    let command = resolved.Select c.in_ok-query.query.now in
    let lent : IsFinished s.session.database c.resolve.new.statements c.args.number (Ok (lent_command c.in_ok-lent.lent)) =
    c.in_ok-lent.ensures.finished s.session.database c.in_ok-resolve.ensures.right in
    let finished : IsFinished s.session.database old c.args.number (Ok command) =
    same-finished s.session.database old c.resolve.new.statements c.args.number (Ok command) c.resolve.ensures.same
    (rw c.in_ok-query.ensures.select at lent) in
    rw (← c.self.view_is) (rows-counted s old c.args.number command finished c.in_ok-count.field-0 c.in_ok-count.ensures.counted)

pub returns-clause-unchanged : goal.returns-clause-unchanged
returns-clause-unchanged c =
    let s = c.self.inside.held in
    rw (← c.self.view_is) (unchanged s s c.self.inside.statements c.resolve.new.statements refl c.resolve.ensures.same)
