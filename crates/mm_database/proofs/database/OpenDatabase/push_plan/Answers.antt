use Rattle.std.proofs.lemmas.Result.{err_from_is_err_and}
use Rattle.mm_statements.specs.Planning as planning
use Rattle.mm_statements.specs.Querying as querying
use Rattle.mm_database.proofs.database.OpenDatabase.push_plan.Goals as goal

pub returns-in_err-push-clause-refused : goal.returns-in_err-push-clause-refused
returns-in_err-push-clause-refused c =
    let e = err_from_is_err_and c.from_residual-in_err-push.result c.from_residual-in_err-push.ensures.1 in
    rw (e.1, e.2) (planning.unqueried _ (querying.no_memory c.in_ok-words.ensures.planned.1.means.readable))
