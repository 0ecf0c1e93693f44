use Rattle.std.proofs.Common.{◌≡◌, None, position, sym, subst, ◌∙◌}
use Rattle.std.proofs.lemmas.Result.{err_from_is_err_and}
use Rattle.plain_tables.specs.Databases.{is_named}
use Rattle.mm_catalog.specs.Seen.{database_of}
use Rattle.mm_session.specs.IndexAnswers.{not_utf8, no_memory, no_such_table}
use Rattle.mm_session.proofs.Indexes.{no_place}
use Rattle.mm_session.proofs.execute.ReadExecutor.table_named.Goals as goal

pub returns-in_default-clause-refused : goal.returns-in_default-clause-refused
returns-in_default-clause-refused c = not_utf8 c.in_default.ensures.cases.0

pub returns-clause-refused : goal.returns-clause-refused
returns-clause-refused c =
    let name : c.in_ok-name.name ≡ c.args.name.now = c.in_ok-name.ensures.copy ∙ c.in-Ok.ensures.cases.0 in
    no_such_table (subst (λ n. position (is_named n) (database_of c.args.catalog.now) ≡ None) name (no_place _ _ (sym c.table_number.ensures ∙ c.in-None.is)))

pub returns-in_err-name-clause-refused : goal.returns-in_err-name-clause-refused
returns-in_err-name-clause-refused c =
    let e = err_from_is_err_and c.from_residual.result c.from_residual.ensures.1 in
    rw (e.1, e.2) no_memory
