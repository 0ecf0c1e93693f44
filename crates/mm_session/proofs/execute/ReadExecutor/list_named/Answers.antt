use Rattle.std.proofs.lemmas.Result.{err_from_is_err_and}
use Rattle.mm_session.specs.IndexAnswers.{no_memory}
use Rattle.mm_session.proofs.execute.ReadExecutor.list_named.Goals as goal

pub returns-in_err-list_indexes-clause-refused : goal.returns-in_err-list_indexes-clause-refused
returns-in_err-list_indexes-clause-refused c =
    let e = err_from_is_err_and c.from_residual-in_err-list_indexes.result c.from_residual-in_err-list_indexes.ensures.1 in
    rw (e.1, e.2) no_memory
