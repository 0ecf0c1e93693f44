use Rattle.std.proofs.Common.{◌≡◌, ap, arith, Err, Ok, true, false}
use Rattle.std.proofs.lemmas.Result.{MatchResult-weaker, err_from_is_err_and}
use Rattle.mm_statements.specs.Querying.{is_statement}
use Rattle.mm_statements.specs.Querying as querying
use Rattle.mm_statements.proofs.Queries.{line-means, meaning-meant, meaning-rows, other-unqueried, unparsed-unqueried, unresolved-unqueried}
use Rattle.mm_statements.proofs.querying.command_of_line.Goals as goal

pub returns-in_err-line-clause-refused : goal.returns-in_err-line-clause-refused
returns-in_err-line-clause-refused c =
    let e = err_from_is_err_and c.from_residual.result c.from_residual.ensures.1 in
    rw (e.1, e.2) (querying.unread _ c.in_err-line.ensures.unread)

pub returns-in_err-command-clause-refused : goal.returns-in_err-command-clause-refused
returns-in_err-command-clause-refused c =
    let e = err_from_is_err_and c.from_residual-in_err-command.result c.from_residual-in_err-command.ensures.1 in
    rw (← c.in_ok-line.ensures.text, e.1, e.2)
    (unparsed-unqueried c.args.held.now.session c.in_ok-line.line c.in_ok-line.ensures.readable c.in_err-command.field-0.0 (λ is. c.in_err-command.ensures.syntax (ap Err is)))

pub returns-then-not-is_statement-clause-refused : goal.returns-then-not-is_statement-clause-refused
returns-then-not-is_statement-clause-refused c =
    let other : is_statement c.in_ok-command.command ≡ false = grind arith in
    rw (← c.in_ok-line.ensures.text)
    (other-unqueried c.args.held.now.session c.in_ok-line.line c.in_ok-line.ensures.readable c.in_ok-command.command c.in_ok-command.ensures.command other)

pub returns-clause-spelled : goal.returns-clause-spelled
returns-clause-spelled c =
    let s = c.args.held.now.session in
    let is : is_statement c.in_ok-command.command ≡ true = grind arith in
    rw (← c.in_ok-line.ensures.text)
    (MatchResult-weaker c.resolve.result c.resolve.ensures.meant
    (λ r means. line-means s c.in_ok-line.line c.in_ok-line.ensures.readable c.in_ok-command.command c.in_ok-command.ensures.command is _ (Ok r) (rw c.catalog.ensures.tables at means))
    (λ e any. any))

pub returns-clause-meant : goal.returns-clause-meant
returns-clause-meant c =
    let s = c.args.held.now.session in
    let is : is_statement c.in_ok-command.command ≡ true = grind arith in
    MatchResult-weaker c.resolve.result c.resolve.ensures.meant
    (λ r means. meaning-meant s.limits s.database c.in_ok-line.line r (line-means s c.in_ok-line.line c.in_ok-line.ensures.readable c.in_ok-command.command c.in_ok-command.ensures.command is _ (Ok r) (rw c.catalog.ensures.tables at means)))
    (λ e any. any)

pub returns-clause-rows : goal.returns-clause-rows
returns-clause-rows c =
    let s = c.args.held.now.session in
    let is : is_statement c.in_ok-command.command ≡ true = grind arith in
    MatchResult-weaker c.resolve.result c.resolve.ensures.meant
    (λ r means. meaning-rows s.database c.in_ok-line.line r (line-means s c.in_ok-line.line c.in_ok-line.ensures.readable c.in_ok-command.command c.in_ok-command.ensures.command is _ (Ok r) (rw c.catalog.ensures.tables at means)))
    (λ e any. any)

pub returns-clause-refused : goal.returns-clause-refused
returns-clause-refused c =
    let s = c.args.held.now.session in
    let is : is_statement c.in_ok-command.command ≡ true = grind arith in
    rw (← c.in_ok-line.ensures.text)
    (MatchResult-weaker c.resolve.result c.resolve.ensures.refused (λ r any. any)
    (λ e refused. unresolved-unqueried s c.in_ok-line.line c.in_ok-line.ensures.readable c.in_ok-command.command c.in_ok-command.ensures.command is _ e
    (λ other. rw c.catalog.ensures.tables at (refused other))))
