use Rattle.std.proofs.Common.{◌∙◌, refl, sym}
use Rattle.std.proofs.lemmas.Result.{IfErr-weaker, err_from_is_err_and}
use Rattle.mm_prepared.specs.Kept.{named}
use Rattle.mm_statements.specs.Right.{AreNoted}
use Rattle.mm_statements.proofs.Executing.{none-seen-before, on-ok, same-unresolved}
use Rattle.mm_statements.proofs.NotedMeanings.{are-noted}
use Rattle.mm_statements.proofs.resolving.resolve_doubted.Goals as goal

pub settle-requires : goal.settle-requires
settle-requires c = rw c.catalog.ensures.tables c.requires

pub returns-in_err-settle-clause-noted : goal.returns-in_err-settle-clause-noted
returns-in_err-settle-clause-noted c = rw c.catalog.ensures.tables at c.settle.ensures.noted

pub returns-in_err-settle-clause-refused : goal.returns-in_err-settle-clause-refused
returns-in_err-settle-clause-refused c =
    let e = err_from_is_err_and c.from_residual.result c.from_residual.ensures.1 in
    rw (e.1, e.2) (λ other. absurd (other refl))

pub resolve_settled-requires : goal.resolve_settled-requires
resolve_settled-requires c = rw c.catalog.ensures.tables at c.in_ok-settle.ensures.right

pub returns-clause-noted : goal.returns-clause-noted
returns-clause-noted c =
    let tables = c.args.held.now.session.database in
    let settled : AreNoted tables c.settle.new.noted c.settle.new.statements = rw c.catalog.ensures.tables at c.settle.ensures.noted in
    are-noted tables c.settle.new.noted c.resolve_settled.new.statements (settled.current c.in_ok-settle.ensures.current) c.resolve_settled.ensures.right

pub returns-clause-right : goal.returns-clause-right
returns-clause-right c = on-ok c.resolve_settled.result c.resolve_settled.ensures.right

pub returns-clause-same : goal.returns-clause-same
returns-clause-same c = λ number. c.resolve_settled.ensures.same number ∙ c.settle.ensures.same number

pub returns-clause-missing : goal.returns-clause-missing
returns-clause-missing c = λ none.
    let number = c.args.number in
    c.resolve_settled.ensures.missing
    (none-seen-before (named c.settle.new.statements number) (named c.args.statements.now number) (sym (c.settle.ensures.same number)) none)

pub returns-clause-refused : goal.returns-clause-refused
returns-clause-refused c =
    IfErr-weaker c.resolve_settled.result _ _
    (λ e says. same-unresolved c.args.held.now.session.database c.args.statements.now c.settle.new.statements c.args.number e c.settle.ensures.same says)
    c.resolve_settled.ensures.refused
