use Rattle.std.proofs.Common.{◌≡◌, ◌∙◌, ap, refl, subst, sym, Ok, Err}
use Rattle.std.proofs.lemmas.Result.{err_from_is_err_and}
use Rattle.plain_tables.specs.ResolvedLaws.{IsMeant}
use Rattle.plain_tables.specs.declared.resolved.Resolved.TheVariants as resolved
use Rattle.mm_prepared.specs.Lent.{lent_command}
use Rattle.mm_session.specs.Sessions.{State}
use Rattle.mm_statements.specs.Cursors.{IsCursorOf}
use Rattle.mm_statements.specs.Resolving.{IsFinished}
use Rattle.mm_statements.specs.declared.faults.ExecuteFault.TheVariants as fault
use Rattle.mm_statements.proofs.Cursors.{cursor-of, cursor_over, may-share}
use Rattle.mm_statements.proofs.Executing.{same-finished, same-unfinished, unresolved-apart, unresolved-unfinished}
use Rattle.mm_statements.proofs.Finished.{rows-change}
use Rattle.mm_statements.proofs.Firsts.{cells-unshown, change-unshown, unfinished-unshown}
use Rattle.mm_statements.proofs.Seen.{state_of, statement-none}
use Rattle.mm_statements.proofs.database.Database.open_cursor.Goals as goal

pub returns-in_err-resolve-clause-missing : goal.returns-in_err-resolve-clause-missing
returns-in_err-resolve-clause-missing c =
    let e = err_from_is_err_and c.from_residual.result c.from_residual.ensures.1 in
    rw (← c.self.view_is, e.1, e.2)
    (λ none.
    let declined = c.in_err-resolve.ensures.missing (statement-none c.self.inside.held c.self.inside.statements c.args.number none) in
    let same : c.in_err-resolve.field-0.0 ≡ fault.NoSuchStatement = cc in
    ap Err same)

pub returns-in_err-resolve-clause-declined : goal.returns-in_err-resolve-clause-declined
returns-in_err-resolve-clause-declined c =
    let s = c.self.inside.held in
    let old = c.self.inside.statements in
    let e = err_from_is_err_and c.from_residual.result c.from_residual.ensures.1 in
    rw (← c.self.view_is, e.1, e.2)
    (unfinished-unshown s old c.args.number _ (unresolved-unfinished s.session.database old c.args.number _ c.in_err-resolve.ensures.refused))

pub returns-in_err-resolve-clause-fits : goal.returns-in_err-resolve-clause-fits
returns-in_err-resolve-clause-fits c =
    let e = err_from_is_err_and c.from_residual.result c.from_residual.ensures.1 in
    rw (e.1, e.2)
    (λ is.
    let same : c.in_err-resolve.field-0.0 ≡ fault.TooLong = cc in
    unresolved-apart c.self.inside.held.session.database c.self.inside.statements c.args.number _ c.in_err-resolve.ensures.refused same)

pub returns-in_err-resolve-clause-stays : goal.returns-in_err-resolve-clause-stays
returns-in_err-resolve-clause-stays c =
    let s = c.self.inside.held in
    rw (← c.self.view_is) (may-share s s c.self.inside.statements c.resolve.new.statements refl (λ is. is) c.resolve.ensures.same)

pub returns-in_err-lent-clause-declined : goal.returns-in_err-lent-clause-declined
returns-in_err-lent-clause-declined c =
    let s = c.self.inside.held in
    let old = c.self.inside.statements in
    let e = err_from_is_err_and c.from_residual-in_err-lent.result c.from_residual-in_err-lent.ensures.1 in
    rw (← c.self.view_is, e.1, e.2)
    (unfinished-unshown s old c.args.number (fault.Refused c.in_err-lent.field-0.0)
    (same-unfinished s.session.database old c.resolve.new.statements c.args.number _ c.resolve.ensures.same
    (c.in_err-lent.ensures.refused s.session.database c.in_ok-resolve.ensures.right)))

pub returns-in_err-lent-clause-stays : goal.returns-in_err-lent-clause-stays
returns-in_err-lent-clause-stays c =
    let s = c.self.inside.held in
    rw (← c.self.view_is) (may-share s s c.self.inside.statements c.resolve.new.statements refl (λ is. is) c.resolve.ensures.same)

pub returns-in_err-query-clause-declined : goal.returns-in_err-query-clause-declined
returns-in_err-query-clause-declined c =
    let s = c.self.inside.held in
    let old = c.self.inside.statements in
    let command = lent_command c.in_ok-lent.lent in
    let finished : IsFinished s.session.database old c.args.number (Ok command) =
    same-finished s.session.database old c.resolve.new.statements c.args.number (Ok command) c.resolve.ensures.same
    (c.in_ok-lent.ensures.finished s.session.database c.in_ok-resolve.ensures.right) in
    let e = err_from_is_err_and c.from_residual-in_err-query.result c.from_residual-in_err-query.ensures.1 in
    rw (← c.self.view_is, e.1, e.2)
    (change-unshown s old c.args.number command finished c.in_err-query.field-0.0
    (rows-change command c.in_ok-lent.ensures.rows c.in_err-query.ensures.other) c.in_err-query.ensures.refused)

pub returns-in_err-query-clause-stays : goal.returns-in_err-query-clause-stays
returns-in_err-query-clause-stays c =
    let s = c.self.inside.held in
    rw (← c.self.view_is) (may-share s s c.self.inside.statements c.resolve.new.statements refl (λ is. is) c.resolve.ensures.same)

pub find-requires : goal.find-requires
find-requires c =
    let s = c.self.inside.held in
    subst (IsMeant s.session.limits s.session.database) c.in_ok-query.ensures.select
    (c.in_ok-lent.ensures.meant s.session.limits s.session.database c.in_ok-resolve.ensures.right)

pub returns-in_err-found-clause-declined : goal.returns-in_err-found-clause-declined
returns-in_err-found-clause-declined c =
    let s = c.self.inside.held in
    let old = c.self.inside.statements in
    let command = resolved.Select c.in_ok-query.query.now in
    let lent : IsFinished s.session.database c.resolve.new.statements c.args.number (Ok (lent_command c.in_ok-lent.lent)) =
    c.in_ok-lent.ensures.finished s.session.database c.in_ok-resolve.ensures.right in
    let finished : IsFinished s.session.database old c.args.number (Ok command) =
    same-finished s.session.database old c.resolve.new.statements c.args.number (Ok command) c.resolve.ensures.same
    (rw c.in_ok-query.ensures.select at lent) in
    let e = err_from_is_err_and c.from_residual-in_err-found.result c.from_residual-in_err-found.ensures.1 in
    rw (← c.self.view_is, e.1, e.2) (cells-unshown s old c.args.number c.in_ok-query.query.now finished c.in_err-found.field-0.0)

pub returns-in_err-found-clause-stays : goal.returns-in_err-found-clause-stays
returns-in_err-found-clause-stays c =
    let s = c.self.inside.held in
    rw (← c.self.view_is) (may-share s s c.self.inside.statements c.resolve.new.statements refl (λ is. is) c.resolve.ensures.same)

pub returns-in_err-session-clause-missing : goal.returns-in_err-session-clause-missing
returns-in_err-session-clause-missing c =
    rw (← c.self.view_is)
    (λ none. let no = c.in_ok-resolve.ensures.missing (statement-none c.self.inside.held c.self.inside.statements c.args.number none) in cc)

pub returns-in_err-session-clause-stays : goal.returns-in_err-session-clause-stays
returns-in_err-session-clause-stays c =
    rw (← c.self.view_is)
    (may-share c.self.inside.held c.owner.new.self c.self.inside.statements c.resolve.new.statements c.owner.ensures.session c.owner.ensures.stays c.resolve.ensures.same)

pub returns-clause-rows : goal.returns-clause-rows
returns-clause-rows c =
    let s = c.self.inside.held in
    let old = c.self.inside.statements in
    let query = c.in_ok-query.query.now in
    let found = c.in_ok-found.found in
    let lent : IsFinished s.session.database c.resolve.new.statements c.args.number (Ok (lent_command c.in_ok-lent.lent)) =
    c.in_ok-lent.ensures.finished s.session.database c.in_ok-resolve.ensures.right in
    let finished : IsFinished s.session.database old c.args.number (Ok (resolved.Select query)) =
    same-finished s.session.database old c.resolve.new.statements c.args.number (Ok (resolved.Select query)) c.resolve.ensures.same
    (rw c.in_ok-query.ensures.select at lent) in
    let over : c.new.result ≡ cursor_over s.session.catalog found =
    c.new.ensures ∙ ap (λ (k : State). cursor_over k.catalog found) c.in_ok-session.ensures.owner in
    rw (← c.self.view_is)
    (subst (IsCursorOf (state_of s old) c.args.number) (sym over) (cursor-of s old c.args.number query finished s.session.catalog found c.in_ok-found.ensures.found))

pub returns-clause-missing : goal.returns-clause-missing
returns-clause-missing c =
    rw (← c.self.view_is)
    (λ none. let no = c.in_ok-resolve.ensures.missing (statement-none c.self.inside.held c.self.inside.statements c.args.number none) in cc)

pub returns-clause-stays : goal.returns-clause-stays
returns-clause-stays c =
    rw (← c.self.view_is)
    (may-share c.self.inside.held c.owner.new.self c.self.inside.statements c.resolve.new.statements c.owner.ensures.session c.owner.ensures.stays c.resolve.ensures.same)
