use Rattle.std.proofs.Common.{Ok, subst, sym}
use Rattle.std.proofs.lemmas.Result.{err_from_is_err_and}
use Rattle.plain_tables.specs.ResolvedLaws.{IsMeant}
use Rattle.plain_tables.specs.declared.resolved.Resolved.TheVariants as resolved
use Rattle.mm_session.specs.Sessions.{State}
use Rattle.mm_statements.specs.Planning as planning
use Rattle.mm_statements.specs.Querying as querying
use Rattle.mm_statements.specs.Querying.{IsMeaningOfLine}
use Rattle.mm_statements.proofs.Finished.{rows-change}
use Rattle.mm_statements.proofs.planning.plan_of_line.Goals as goal

pub returns-in_err-command-clause-refused : goal.returns-in_err-command-clause-refused
returns-in_err-command-clause-refused c =
    let e = err_from_is_err_and c.from_residual.result c.from_residual.ensures.1 in
    rw (e.1, e.2) (planning.unqueried _ c.in_err-command.ensures.refused)

pub returns-in_default : goal.returns-in_default
returns-in_default c =
    let command = c.in_ok-command.command in
    record {
      planned = tt;
      refused = planning.change (command, c.in_ok-command.ensures.spelled, rows-change command c.in_ok-command.ensures.rows c.in_default.not-Select);
    }

pub plan-requires : goal.plan-requires
plan-requires c =
    subst (λ (s : State). IsMeant s.limits s.database (resolved.Select c.in-Select.query)) (sym c.session.ensures)
    (rw c.in-Select.is at c.in_ok-command.ensures.meant)

pub returns-in_err-plan-clause-refused : goal.returns-in_err-plan-clause-refused
returns-in_err-plan-clause-refused c =
    let e = err_from_is_err_and c.from_residual-in_err-plan.result c.from_residual-in_err-plan.ensures.1 in
    rw (e.1, e.2) (planning.unqueried _ (querying.no_memory c.in_ok-command.ensures.spelled.readable))

pub returns-clause-planned : goal.returns-clause-planned
returns-clause-planned c =
    let means : IsMeaningOfLine c.args.held.now.session.database _ (Ok (resolved.Select c.in-Select.query)) = rw c.in-Select.is at c.in_ok-command.ensures.spelled in
    record { means = means; policy = c.in_ok-plan.ensures.0; plan = rw c.session.ensures at c.in_ok-plan.ensures.1 }
