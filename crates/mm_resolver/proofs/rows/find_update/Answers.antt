use Rattle.std.proofs.Common.{rules, ◌≡◌, ◌∙◌, List, [], ◌++◌, length, map, sym, ap}
use Rattle.std.specs.Prelude.{Err}
use Rattle.std.specs.Str.{bytes_eq}
use Rattle.std.proofs.lemmas.List.{length-map}
use Rattle.plain_tables.specs.Effects.{repeats}
use Rattle.plain_tables.specs.Queries.{column_meant}
use Rattle.plain_statements.specs.Slots.{compared_need, condition_needs, first_refusal, setting_needs, slot_setting_name, stored_need}
use Rattle.plain_statements.specs.declared.resolution.SlotAssignment.{SlotAssignment}
use Rattle.plain_statements.specs.declared.resolution.SlotTest.{SlotTest}
use Rattle.plain_statements.specs.declared.statement.SlotCond.{SlotCond}
use Rattle.plain_statements.specs.declared.statement.SlotSetting.{SlotSetting}
use Rattle.plain_statements.specs.declared.statement.Statement.TheVariants as statement
use Rattle.mm_resolver.specs.Naming.{columns_of}
use Rattle.mm_resolver.specs.Checks.{update_late}
use Rattle.mm_resolver.proofs.Answered.{means-so}
use Rattle.mm_resolver.proofs.Holes.{none-wanted, none-wanted-of-both}
use Rattle.mm_resolver.proofs.Sources.{map-map}
use Rattle.mm_resolver.proofs.StatementMeanings.{conditions-missed, refused, settings-missed, update-found, update-twice}
use Rattle.mm_resolver.proofs.rows.find_update.Goals as goal
use Rattle.mm_resolver.proofs.rows.find_update.Goals.{After-repeats_name-repeated}
use Rattle.mm_resolver.proofs.rows.find_update.Given.{Over}

-- whether a column is set twice, as the settings to slots tell it
twice : (g : Over) (c : After-repeats_name-repeated g) → c.repeats_name-repeated.result ≡ repeats bytes_eq (map (λ s. s.column) (map g.A.AsSetting.as_setting c.args.settings))
twice g c =
    c.repeats_name-repeated.ensures
    ∙ ap (repeats bytes_eq)
    (ap (map _) c.as_slice.ensures ∙ sym (λ i. map (λ s. g.met.A.AsSetting.same_name s i) c.args.settings) ∙ map-map (λ (s : SlotSetting). s.column) g.A.AsSetting.as_setting c.args.settings)

pub returns-in_err-assignments-clause-refused : goal.returns-in_err-assignments-clause-refused
returns-in_err-assignments-clause-refused g c =
    let tables = g.S.Schemas.database c.args.schemas.now in
    let settings : List SlotSetting = map g.A.AsSetting.as_setting c.args.settings in
    let conditions : List SlotCond = map g.C.AsCondition.as_condition c.args.conditions in
    let is : c.from_residual-in_err-assignments.result ≡ Err c.in_err-assignments.field-0.0 = search rules in
    rw is (λ other.
    let missed = c.in_err-assignments.ensures.missed other in
    refused tables (statement.Update c.args.table.now settings conditions) c.in_err-assignments.field-0.0
    (settings-missed tables c.args.table.now c.in_ok-named_table.named_table c.in_ok-named_table.ensures.found settings conditions
    (rw c.from_ref.ensures.value at missed) ∙ ap (λ e. Err e) (sym (c.in_err-assignments.ensures.refused other))))

pub returns-in_err-tests-clause-refused : goal.returns-in_err-tests-clause-refused
returns-in_err-tests-clause-refused g c =
    let tables = g.S.Schemas.database c.args.schemas.now in
    let settings : List SlotSetting = map g.A.AsSetting.as_setting c.args.settings in
    let conditions : List SlotCond = map g.C.AsCondition.as_condition c.args.conditions in
    let is : c.from_residual-in_err-tests.result ≡ Err c.in_err-tests.field-0.0 = search rules in
    rw is (λ other.
    let missed = c.in_err-tests.ensures.missed other in
    refused tables (statement.Update c.args.table.now settings conditions) c.in_err-tests.field-0.0
    (conditions-missed tables c.args.table.now c.in_ok-named_table.named_table c.in_ok-named_table.ensures.found settings conditions
    (rw c.from_ref.ensures.value at c.in_ok-assignments.ensures.named) (rw c.from_ref-2.ensures.value at missed)
    ∙ ap (λ e. Err e) (sym (c.in_err-tests.ensures.refused other))))

pub returns-then-repeated-clause-refused : goal.returns-then-repeated-clause-refused
returns-then-repeated-clause-refused g c =
    let at = goal.at.returns-then-repeated-clause-refused g c in
    let tables = g.S.Schemas.database c.args.schemas.now in
    let settings : List SlotSetting = map g.A.AsSetting.as_setting c.args.settings in
    let conditions : List SlotCond = map g.C.AsCondition.as_condition c.args.conditions in
    λ other. refused tables (statement.Update c.args.table.now settings conditions) _
    (update-twice tables c.args.table.now c.in_ok-named_table.named_table c.in_ok-named_table.ensures.found settings conditions
    (rw c.from_ref.ensures.value at c.in_ok-assignments.ensures.named) (rw c.from_ref-2.ensures.value at c.in_ok-tests.ensures.named)
    (sym (twice g at.After-repeats_name-repeated) ∙ c.if-repeated.true))

pub returns-clause-found : goal.returns-clause-found
returns-clause-found g c =
    let at = goal.at.returns-clause-found g c in
    let tables = g.S.Schemas.database c.args.schemas.now in
    let settings : List SlotSetting = map g.A.AsSetting.as_setting c.args.settings in
    let conditions : List SlotCond = map g.C.AsCondition.as_condition c.args.conditions in
    let set : List SlotAssignment = map g.A.AsSetting.as_assignment c.in_ok-assignments.assignments in
    let tests : List SlotTest = map g.C.AsCondition.as_test c.in_ok-tests.tests in
    let assigned = c.in_ok-assignments.ensures in
    let tested = c.in_ok-tests.ensures in
    let named_table = c.in_ok-named_table.named_table in
    let columns = columns_of named_table in
    let own = c.from_ref.ensures.value in
    let own-2 = c.from_ref-2.ensures.value in
    let first = assigned.wanted [] c.new-wanted.ensures in
    let both = tested.wanted (setting_needs tables columns settings) (rw own at first) in
    let behind : c.update_late-last.result ≡ first_refusal (update_late set (length tests)) =
    c.update_late-last.ensures
    ∙ ap (λ xs. first_refusal (update_late (map g.A.AsSetting.as_assignment xs) c.len.result)) c.as_slice-2.ensures
    ∙ ap (λ n. first_refusal (update_late set n)) (c.len.ensures ∙ sym (length-map c.in_ok-tests.tests g.C.AsCondition.as_test)) in
    record {
      needs = setting_needs tables columns settings ++ condition_needs tables columns conditions;
      late = update_late set (length tests);
      asked = rw own-2 at both;
      behind = behind;
      holes =
          none-wanted-of-both (map (λ s. s.slot) settings) (map (λ d. d.slot) conditions) (setting_needs tables columns settings) (condition_needs tables columns conditions)
          (none-wanted (λ (s : SlotSetting). s.slot) (λ s. column_meant columns (slot_setting_name s)) (λ s joined. stored_need tables joined.column.kind) settings)
          (none-wanted (λ (d : SlotCond). d.slot) (λ d. column_meant columns d.column) (λ d joined. compared_need tables joined.column.kind d.op) conditions);
      means =
          means-so tables (statement.Update c.args.table.now settings conditions) _
          (update-found tables c.args.table.now named_table c.in_ok-named_table.ensures.found settings conditions (rw own at assigned.named) (rw own-2 at tested.named)
          (sym (twice g at.After-repeats_name-repeated) ∙ c.if-repeated.false) set tests (rw own at assigned.assignments) (rw own-2 at tested.tests));
    }
