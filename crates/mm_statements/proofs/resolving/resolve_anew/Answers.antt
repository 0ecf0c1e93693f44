use Rattle.std.proofs.Common.{◌≡◌, sym, subst, Some}
use Rattle.std.proofs.lemmas.Result.{err_from_is_err_and}
use Rattle.std.specs.List.{Contains}
use Rattle.mm_prepared.specs.Kept.{named}
use Rattle.mm_statements.specs.Resolving.{LineMeans}
use Rattle.mm_statements.specs.Right.{IsRight}
use Rattle.mm_statements.proofs.Executing.{set-known, unmeant-refusing}
use Rattle.mm_statements.proofs.Marks.{spelled-unbroken}
use Rattle.mm_statements.proofs.Right.{resolve-right}
use Rattle.mm_statements.proofs.resolving.resolve_anew.Goals as goal

pub new-line-requires : goal.new-line-requires
new-line-requires c = λ found.
    let p = c.in-Some.prepared.now in
    let right : IsRight c.args.held.now.session.database p = c.requires c.args.number p (sym c.in-Some.ensures) in
    spelled-unbroken p.line right.statement right.spelled (subst (λ l. Contains l 10) c.as_str.ensures found)

pub returns-in_err-resolution-clause-refused : goal.returns-in_err-resolution-clause-refused
returns-in_err-resolution-clause-refused c =
    let tables = c.args.held.now.session.database in
    let p = c.in-Some.prepared.now in
    let there : named c.args.statements.now c.args.number ≡ Some p = sym c.in-Some.ensures in
    let right : IsRight tables p = c.requires c.args.number p there in
    let e = err_from_is_err_and c.from_residual.result c.from_residual.ensures.1 in
    rw (e.1, e.2)
    (λ other.
    unmeant-refusing tables c.args.statements.now c.args.number p _ there right
    (rw (c.catalog.ensures.tables, c.new-line.ensures, c.as_str.ensures) at (c.in_err-resolution.ensures.refused other)))

pub returns-clause-right : goal.returns-clause-right
returns-clause-right c =
    let tables = c.args.held.now.session.database in
    let p = c.in-Some.prepared.now in
    let r = c.in_ok-resolution.resolution in
    let means : LineMeans tables p.line r = rw (c.catalog.ensures.tables, c.new-line.ensures, c.as_str.ensures) at c.in_ok-resolution.ensures.means in
    resolve-right tables c.args.statements.now c.set_resolution.new.self c.args.number p r c.set_resolution.result c.set_resolution.ensures.set
    c.set_resolution.ensures.unchanged (sym c.in-Some.ensures) means c.requires

pub returns-clause-known : goal.returns-clause-known
returns-clause-known c =
    set-known c.args.statements.now c.set_resolution.new.self c.args.number c.in-Some.prepared.now c.in_ok-resolution.resolution c.set_resolution.result
    c.set_resolution.ensures.set c.set_resolution.ensures.none (sym c.in-Some.ensures)
