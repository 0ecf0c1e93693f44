use Rattle.std.proofs.Common.{◌≡◌, ◌∙◌, ◌++◌, List, ap, sym, refl, Err}
use Rattle.std.proofs.lemmas.Result.{err_from_is_err_and}
use Rattle.plain_tables.specs.Databases.{Database}
use Rattle.plain_tables.specs.declared.value.Value.{Value}
use Rattle.mm_catalog.specs.Seen.{database_of}
use Rattle.mm_cells.specs.Values.{values_of}
use Rattle.mm_statements.specs.Columns.{columns_of_query, columns_of_template}
use Rattle.mm_statements.specs.declared.faults.ExecuteFault.TheVariants as fault
use Rattle.mm_statements.proofs.ColumnsTold.{known-told, none-told, unresolved-untold}
use Rattle.mm_statements.proofs.Executing.{unchanged}
use Rattle.mm_statements.proofs.Seen.{statement-none}
use Rattle.mm_statements.proofs.database.Database.columns.Goals as goal

pub returns-in_err-resolve-clause-missing : goal.returns-in_err-resolve-clause-missing
returns-in_err-resolve-clause-missing c =
    let e = err_from_is_err_and c.from_residual.result c.from_residual.ensures.1 in
    rw (← c.self.view_is, e.1, e.2)
    (λ none.
    let declined = c.in_err-resolve.ensures.missing (statement-none c.self.inside.held c.self.inside.statements c.args.number none) in
    let same : c.in_err-resolve.field-0.0 ≡ fault.NoSuchStatement = cc in
    ap Err same)

pub returns-in_err-resolve-clause-declined : goal.returns-in_err-resolve-clause-declined
returns-in_err-resolve-clause-declined c =
    let e = err_from_is_err_and c.from_residual.result c.from_residual.ensures.1 in
    rw (← c.self.view_is, e.1, e.2)
    (unresolved-untold c.self.inside.held c.self.inside.statements c.args.number _ c.in_err-resolve.ensures.refused)

pub returns-in_err-resolve-clause-unchanged : goal.returns-in_err-resolve-clause-unchanged
returns-in_err-resolve-clause-unchanged c =
    let s = c.self.inside.held in
    rw (← c.self.view_is) (unchanged s s c.self.inside.statements c.resolve.new.statements refl c.resolve.ensures.same)

pub returns-in_err-push_columns-clause-declined : goal.returns-in_err-push_columns-clause-declined
returns-in_err-push_columns-clause-declined c =
    let e = err_from_is_err_and c.from_residual-in_err-push_columns.result c.from_residual-in_err-push_columns.ensures.1 in
    rw (← c.self.view_is, e.1, e.2) (λ other. absurd (other c.in_err-push_columns.ensures.no_memory))

pub returns-in_err-push_columns-clause-unchanged : goal.returns-in_err-push_columns-clause-unchanged
returns-in_err-push_columns-clause-unchanged c =
    let s = c.self.inside.held in
    rw (← c.self.view_is) (unchanged s s c.self.inside.statements c.resolve.new.statements refl c.resolve.ensures.same)

pub returns-in_default-clause-told : goal.returns-in_default-clause-told
returns-in_default-clause-told c =
    let s = c.self.inside.held in
    let template = c.resolution_of-resolution.result.now.template in
    rw (← c.self.view_is)
    (known-told s c.self.inside.statements c.resolve.new.statements c.args.number c.resolution_of-resolution.result.now (values_of c.clear.new.self) c.in_ok-resolve.ensures.known
    c.in_ok-resolve.ensures.right c.resolve.ensures.same c.resolution_of-resolution.ensures (c.clear.ensures ∙ sym (none-told s.session.database template c.in_default.not-Select)))

pub returns-in_default-clause-unchanged : goal.returns-in_default-clause-unchanged
returns-in_default-clause-unchanged c =
    let s = c.self.inside.held in
    rw (← c.self.view_is) (unchanged s s c.self.inside.statements c.resolve.new.statements refl c.resolve.ensures.same)

pub returns-clause-told : goal.returns-clause-told
returns-clause-told c =
    let s = c.self.inside.held in
    let query = c.in-Select.query in
    let told : values_of c.push_columns.new.cells ≡ columns_of_template s.session.database c.resolution_of-resolution.result.now.template =
    c.in_ok-push_columns.ensures.pushed
    ∙ ap (λ (vs : List Value). vs ++ columns_of_query (database_of c.catalog.result.now) query) c.clear.ensures
    ∙ ap (λ (tables : Database). columns_of_query tables query) c.catalog.ensures.tables
    ∙ sym (ap (columns_of_template s.session.database) c.in-Select.is) in
    rw (← c.self.view_is)
    (known-told s c.self.inside.statements c.resolve.new.statements c.args.number c.resolution_of-resolution.result.now (values_of c.push_columns.new.cells) c.in_ok-resolve.ensures.known
    c.in_ok-resolve.ensures.right c.resolve.ensures.same c.resolution_of-resolution.ensures told)

pub returns-clause-unchanged : goal.returns-clause-unchanged
returns-clause-unchanged c =
    let s = c.self.inside.held in
    rw (← c.self.view_is) (unchanged s s c.self.inside.statements c.resolve.new.statements refl c.resolve.ensures.same)
