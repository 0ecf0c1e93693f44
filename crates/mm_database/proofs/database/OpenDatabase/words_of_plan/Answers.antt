use Rattle.std.proofs.lemmas.Result.{err_from_is_err_and}
use Rattle.mm_statements.specs.Planning as planning
use Rattle.mm_statements.specs.Querying as querying
use Rattle.mm_database.proofs.database.OpenDatabase.words_of_plan.Goals as goal

pub returns-in_err-plan_words-clause-refused : goal.returns-in_err-plan_words-clause-refused
returns-in_err-plan_words-clause-refused c =
    let e = err_from_is_err_and c.from_residual-in_err-plan_words.result c.from_residual-in_err-plan_words.ensures.1 in
    rw (e.1, e.2) (planning.unqueried _ (querying.no_memory c.in_ok-told.ensures.planned.means.readable))
