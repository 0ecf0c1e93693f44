use Rattle.std.proofs.Common.{ap, Err}
use Rattle.std.proofs.lemmas.Result.{MatchResult-weaker, err_from_is_err_and}
use Rattle.mm_statements.specs.Resolving as resolving
use Rattle.mm_statements.proofs.Preparing.{unparsed-unmeant}
use Rattle.mm_statements.proofs.reading.meaning.Goals as goal

pub returns-in_err-statement-clause-refused : goal.returns-in_err-statement-clause-refused
returns-in_err-statement-clause-refused c =
    let e = err_from_is_err_and c.from_residual.result c.from_residual.ensures.1 in
    rw (e.1, e.2) (unparsed-unmeant _ c.args.line.now c.in_err-statement.field-0.0 (λ is. c.in_err-statement.ensures.syntax (ap Err is)))

pub returns-clause-refused : goal.returns-clause-refused
returns-clause-refused c =
    MatchResult-weaker c.resolve_statement.result c.resolve_statement.ensures.refused (λ r any. any)
    (λ e refused other. resolving.refuses c.in_ok-statement.statement e c.in_ok-statement.ensures.statement (refused other))
