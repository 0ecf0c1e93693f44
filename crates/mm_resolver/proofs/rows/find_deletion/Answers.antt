use Rattle.std.proofs.Common.{rules, ◌≡◌, ◌∙◌, List, [], length, map, sym, ap}
use Rattle.std.specs.Prelude.{Err}
use Rattle.std.proofs.lemmas.List.{length-map}
use Rattle.plain_tables.specs.Queries.{column_meant}
use Rattle.plain_statements.specs.Slots.{compared_need, condition_needs, first_refusal}
use Rattle.plain_statements.specs.declared.resolution.SlotTest.{SlotTest}
use Rattle.plain_statements.specs.declared.statement.SlotCond.{SlotCond}
use Rattle.plain_statements.specs.declared.statement.Statement.TheVariants as statement
use Rattle.mm_resolver.specs.Naming.{columns_of}
use Rattle.mm_resolver.specs.Checks.{delete_late}
use Rattle.mm_resolver.proofs.Answered.{means-so}
use Rattle.mm_resolver.proofs.Holes.{none-wanted}
use Rattle.mm_resolver.proofs.StatementMeanings.{delete-found, delete-missed, refused}
use Rattle.mm_resolver.proofs.rows.find_deletion.Goals as goal

pub returns-in_err-tests-clause-refused : goal.returns-in_err-tests-clause-refused
returns-in_err-tests-clause-refused g c =
    let tables = g.S.Schemas.database c.args.schemas.now in
    let conditions : List SlotCond = map g.C.AsCondition.as_condition c.args.conditions in
    let is : c.from_residual-in_err-tests.result ≡ Err c.in_err-tests.field-0.0 = search rules in
    rw is (λ other.
    let missed = c.in_err-tests.ensures.missed other in
    refused tables (statement.Delete c.args.table.now conditions) c.in_err-tests.field-0.0
    (delete-missed tables c.args.table.now c.in_ok-named_table.named_table c.in_ok-named_table.ensures.found conditions (rw c.from_ref.ensures.value at missed)
    ∙ ap (λ e. Err e) (sym (c.in_err-tests.ensures.refused other))))

pub returns-clause-found : goal.returns-clause-found
returns-clause-found g c =
    let tables = g.S.Schemas.database c.args.schemas.now in
    let conditions : List SlotCond = map g.C.AsCondition.as_condition c.args.conditions in
    let tests : List SlotTest = map g.C.AsCondition.as_test c.in_ok-tests.tests in
    let found = c.in_ok-tests.ensures in
    let named_table = c.in_ok-named_table.named_table in
    let columns = columns_of named_table in
    let own = c.from_ref.ensures.value in
    let asked = found.wanted [] c.new-wanted.ensures in
    record {
      needs = condition_needs tables columns conditions;
      late = delete_late (length tests);
      asked = rw own at asked;
      behind = c.delete_late-last.ensures ∙ ap (λ n. first_refusal (delete_late n)) (c.len.ensures ∙ sym (length-map c.in_ok-tests.tests g.C.AsCondition.as_test));
      holes = none-wanted (λ (d : SlotCond). d.slot) (λ d. column_meant columns d.column) (λ d joined. compared_need tables joined.column.kind d.op) conditions;
      means =
          means-so tables (statement.Delete c.args.table.now conditions) _
          (delete-found tables c.args.table.now named_table c.in_ok-named_table.ensures.found conditions (rw own at found.named) tests (rw own at found.tests));
    }
