use Rattle.std.proofs.Common.{◌≡◌, ◌∙◌, ap, sym, subst, refl, replicate, Some}
use Rattle.std.proofs.lemmas.Result.{err_from_is_err_and}
use Rattle.plain_tables.specs.declared.value.Value.TheVariants as value
use Rattle.plain_streams.specs.Requests.{without_return}
use Rattle.plain_statements.specs.StatementSpelling.{marks}
use Rattle.mm_statements.specs.Databases.{NowNames}
use Rattle.mm_shared.specs.Noted.{noted_tables}
use Rattle.mm_statements.specs.Resolving.{LineMeans}
use Rattle.mm_statements.specs.Right.{AreNoted, AreRight}
use Rattle.mm_statements.proofs.Executing.{on-err, unchanged}
use Rattle.mm_statements.proofs.NotedMeanings.{are-noted}
use Rattle.mm_statements.proofs.Preparing.{is-prepared, prepared-right, unmeant-unprepared, unprepared-for, unread-unprepared}
use Rattle.mm_statements.proofs.Right.{names-right, same-right}
use Rattle.mm_statements.proofs.Seen.{named-seen, names-before, names-seen, state_of}
use Rattle.mm_statements.proofs.database.Database.prepare.Goals as goal

pub returns-in_err-line-clause-refused : goal.returns-in_err-line-clause-refused
returns-in_err-line-clause-refused c =
    let tables = c.args.self.now.session.database in
    let e = err_from_is_err_and c.from_residual.result c.from_residual.ensures.1 in
    rw (e.1, e.2) (unprepared-for tables (without_return c.args.line.now) _ (λ other. unread-unprepared tables (without_return c.args.line.now) _ c.in_err-line.ensures.unread))

pub returns-in_err-resolution-clause-refused : goal.returns-in_err-resolution-clause-refused
returns-in_err-resolution-clause-refused c =
    let e = err_from_is_err_and c.from_residual-in_err-resolution.result c.from_residual-in_err-resolution.ensures.1 in
    rw (← c.self.view_is, ← c.in_ok-line.ensures.text, e.1, e.2)
    (unprepared-for c.self.inside.held.session.database c.in_ok-line.line _
    (λ other.
    unmeant-unprepared c.self.inside.held.session.database c.in_ok-line.line _ c.in_ok-line.ensures.readable
    (rw c.catalog.ensures.tables at (c.in_err-resolution.ensures.refused other))))

pub settle-requires : goal.settle-requires
settle-requires c = rw c.catalog-2.ensures.tables c.self.invariant

pub returns-in_err-settle-clause-refused : goal.returns-in_err-settle-clause-refused
returns-in_err-settle-clause-refused c =
    let e = err_from_is_err_and c.from_residual-in_err-settle.result c.from_residual-in_err-settle.ensures.1 in
    rw (e.1, e.2) tt

pub returns-in_err-settle-clause-unchanged : goal.returns-in_err-settle-clause-unchanged
returns-in_err-settle-clause-unchanged c =
    let s = c.self.inside.held in
    rw (← c.self.view_is)
    (on-err c.from_residual-in_err-settle.result (unchanged s s c.self.inside.statements c.settle.new.statements refl c.settle.ensures.same))

pub returns-in_err-statement-clause-unchanged : goal.returns-in_err-statement-clause-unchanged
returns-in_err-statement-clause-unchanged c =
    let s = c.self.inside.held in
    let settled = c.settle.new.statements in
    rw (← c.self.view_is)
    (on-err c.from_residual-in_err-statement.result
    (unchanged s s c.self.inside.statements c.prepare.new.self refl
    (λ number. named-seen settled c.prepare.new.self c.in_err-statement.ensures.unchanged number ∙ c.settle.ensures.same number)))

pub invariant_of-self : goal.invariant_of-self
invariant_of-self c = rw c.catalog-2.ensures.tables at c.settle.ensures.noted

pub invariant_of-self-in_err-statement : goal.invariant_of-self-in_err-statement
invariant_of-self-in_err-statement c =
    let settled : AreNoted c.self.inside.held.session.database c.settle.new.noted c.settle.new.statements =
    rw c.catalog-2.ensures.tables at c.settle.ensures.noted in
    record {
      right = same-right (noted_tables c.settle.new.noted) c.settle.new.statements c.prepare.new.self c.in_err-statement.ensures.unchanged settled.right;
      current = settled.current;
    }

pub invariant_of-self-2 : goal.invariant_of-self-2
invariant_of-self-2 c =
    let tables = c.self.inside.held.session.database in
    let line = c.as_str-2.result.now in
    let places = c.count_marks-places.result in
    let r = c.in_ok-resolution.resolution in
    let counted : places ≡ marks line = c.count_marks-places.ensures ∙ ap marks (c.as_bytes.ensures.value ∙ (c.as_str.ensures ∙ sym c.as_str-2.ensures)) in
    let means : LineMeans tables line r = rw (c.catalog.ensures.tables, ← c.as_str-2.ensures) at c.in_ok-resolution.ensures.means in
    let settled : AreNoted tables c.settle.new.noted c.settle.new.statements = rw c.catalog-2.ensures.tables at c.settle.ensures.noted in
    let right : AreRight tables c.settle.new.statements = rw c.catalog-2.ensures.tables at c.in_ok-settle.ensures.right in
    are-noted tables c.settle.new.noted c.prepare.new.self (settled.current c.in_ok-settle.ensures.current)
    (names-right tables c.settle.new.statements c.prepare.new.self c.in_ok-statement.statement
    (Some (record { line = line; bound = replicate places value.Null; resolution = Some r })) c.in_ok-statement.ensures.kept
    (prepared-right tables line places r counted means) right)

pub returns-clause-prepared : goal.returns-clause-prepared
returns-clause-prepared c =
    let tables = c.self.inside.held.session.database in
    let line = c.in_ok-line.line in
    let places = c.count_marks-places.result in
    let r = c.in_ok-resolution.resolution in
    let counted : places ≡ marks line = c.count_marks-places.ensures ∙ ap marks (c.as_bytes.ensures.value ∙ c.as_str.ensures) in
    let means : LineMeans tables line r = rw c.catalog.ensures.tables at c.in_ok-resolution.ensures.means in
    rw (← c.self.view_is, ← c.in_ok-line.ensures.text) (is-prepared tables line places r c.in_ok-line.ensures.readable counted means)

pub returns-clause-kept : goal.returns-clause-kept
returns-clause-kept c =
    let s = c.self.inside.held in
    let settled = c.settle.new.statements in
    let new = c.prepare.new.self in
    let n = c.in_ok-statement.statement in
    let places = c.count_marks-places.result in
    rw (← c.self.view_is)
    (subst (λ l. NowNames (state_of s c.self.inside.statements) (state_of s new) n (Some (record { line = l; values = replicate places value.Null })))
    (c.as_str-2.ensures ∙ c.in_ok-line.ensures.text)
    (names-before s c.self.inside.statements settled new n (Some (record { line = c.as_str-2.result.now; values = replicate places value.Null })) c.settle.ensures.same
    (names-seen s s settled new n (Some (record { line = c.as_str-2.result.now; bound = replicate places value.Null; resolution = Some c.in_ok-resolution.resolution }))
    c.in_ok-statement.ensures.kept)))
