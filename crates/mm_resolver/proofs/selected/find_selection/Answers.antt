use Rattle.std.proofs.Common.{rules, ◌≡◌, ◌∙◌, List, [], sym, ap, arith, map}
use Rattle.std.specs.Prelude.{Err, length, zip}
use Rattle.std.specs.List.{remove}
use Rattle.std.proofs.lemmas.List.{length-map}
use Rattle.plain_tables.specs.Effects.{Check}
use Rattle.plain_tables.specs.Queries.{column_meant}
use Rattle.plain_tables.specs.Resolving.{shown_of}
use Rattle.plain_statements.specs.declared.resolution.SlotSource.{SlotSource}
use Rattle.plain_statements.specs.declared.resolution.Template.TheVariants as template
use Rattle.plain_statements.specs.declared.statement.SlotCond.{SlotCond}
use Rattle.plain_statements.specs.declared.statement.Statement.TheVariants as statement
use Rattle.plain_statements.specs.Filling.{filled_condition}
use Rattle.plain_statements.specs.Slots.{compared_need, condition_needs, first_refusal, opened}
use Rattle.mm_resolver.specs.declared.scope.Scope.{Scope}
use Rattle.mm_resolver.specs.Naming.{columns_of_all}
use Rattle.mm_resolver.specs.Select.{select_late}
use Rattle.mm_resolver.specs.Slots.{slot_joined_by, slot_query}
use Rattle.mm_resolver.proofs.Answered.{means-so}
use Rattle.mm_resolver.proofs.Holes.{none-wanted}
use Rattle.mm_resolver.proofs.Sources.{behind-seen, first-seen}
use Rattle.mm_resolver.proofs.StatementMeanings.{items-missed, refused, select-checked, selection-is, tests-missed}
use Rattle.mm_resolver.proofs.selected.find_selection.Goals as goal

pub returns-in_err-scope-clause-refused : goal.returns-in_err-scope-clause-refused
returns-in_err-scope-clause-refused g c =
    let conditions : List SlotCond = map g.C.AsCondition.as_condition c.args.conditions in
    let is : c.from_residual.result ≡ Err c.in_err-scope.field-0.0 = search rules in
    rw is (λ other distinct values. c.in_err-scope.ensures.refused other distinct c.args.items (map (filled_condition values) conditions))

pub returns-in_err-shown-clause-refused : goal.returns-in_err-shown-clause-refused
returns-in_err-shown-clause-refused g c =
    let tables = g.S.Schemas.database c.args.schemas.now in
    let conditions : List SlotCond = map g.C.AsCondition.as_condition c.args.conditions in
    let is : c.from_residual-in_err-shown.result ≡ Err c.in_err-shown.field-0.0 = search rules in
    rw is (λ other distinct. refused tables (statement.Select distinct c.args.items c.args.table.now c.args.joins.now conditions) c.in_err-shown.field-0.0
    (items-missed tables distinct c.args.items c.args.table.now c.args.joins.now conditions c.in_ok-scope.scope c.in_ok-scope.ensures.found (c.in_err-shown.ensures.missed other)
    ∙ ap (λ e. Err e) (sym (c.in_err-shown.ensures.refused other))))

pub returns-in_err-sources-clause-refused : goal.returns-in_err-sources-clause-refused
returns-in_err-sources-clause-refused g c =
    let tables = g.S.Schemas.database c.args.schemas.now in
    let conditions : List SlotCond = map g.C.AsCondition.as_condition c.args.conditions in
    let is : c.from_residual-in_err-sources.result ≡ Err c.in_err-sources.field-0.0 = search rules in
    rw is (λ other distinct.
    let missed = c.in_err-sources.ensures.missed other in
    refused tables (statement.Select distinct c.args.items c.args.table.now c.args.joins.now conditions) c.in_err-sources.field-0.0
    (tests-missed tables distinct c.args.items c.args.table.now c.args.joins.now conditions c.in_ok-scope.scope c.in_ok-scope.ensures.found c.in_ok-shown.ensures.named
    (rw c.deref.ensures.value at missed)
    ∙ ap (λ e. Err e) (sym (c.in_err-sources.ensures.refused other))))

pub returns-in_err-check_joined-clause-refused : goal.returns-in_err-check_joined-clause-refused
returns-in_err-check_joined-clause-refused g c =
    let tables = g.S.Schemas.database c.args.schemas.now in
    let conditions : List SlotCond = map g.C.AsCondition.as_condition c.args.conditions in
    let e = c.in_err-check_joined.field-0.0 in
    let is : c.from_residual-in_err-check_joined.result ≡ Err e = search rules in
    let told = rw (c.check_joined.ensures, c.in_ok-shown.ensures.shown) at c.in_err-check_joined.was in
    rw is (λ _ distinct.
    let checked = select-checked tables distinct c.args.items c.args.table.now c.args.joins.now conditions c.in_ok-scope.scope c.in_ok-scope.ensures.found c.in_ok-shown.ensures.named
    (rw c.deref.ensures.value at c.in_ok-sources.ensures.named) in
    refused tables (statement.Select distinct c.args.items c.args.table.now c.args.joins.now conditions) e (rw told at checked))

pub returns-clause-found : goal.returns-clause-found
returns-clause-found g c = λ distinct.
    let tables = g.S.Schemas.database c.args.schemas.now in
    let conditions : List SlotCond = map g.C.AsCondition.as_condition c.args.conditions in
    let scope : Scope = c.in_ok-scope.scope in
    let columns = columns_of_all scope.tables.items in
    let joined = c.in_ok-scope.ensures.found in
    let sources = c.in_ok-sources.ensures in
    let checked = select-checked tables distinct c.args.items c.args.table.now c.args.joins.now conditions scope joined c.in_ok-shown.ensures.named (rw c.deref.ensures.value at sources.named) in
    let passed = rw (c.check_joined.ensures, c.in_ok-shown.ensures.shown) at c.in_ok-check_joined.was in
    let asked = sources.wanted [] c.new-wanted.ensures in
    let sides : c.len-2.result ≡ length scope.sides.items = omega (arith, c.len-2.ensures, scope.sides.ok.0) in
    let late : List Check = select_late (shown_of columns c.args.items) (length conditions) (length scope.sides.items) in
    let many : c.len.result ≡ length conditions = c.len.ensures ∙ sym (length-map c.args.conditions g.C.AsCondition.as_condition) in
    let behind : c.select_late-last.result ≡ first_refusal late = rw (c.in_ok-shown.ensures.shown, many, sides) at c.select_late-last.ensures in
    let needs = condition_needs tables columns conditions in
    let source = g.C.AsCondition.as_source in
    let first : SlotSource = source c.remove-source.result in
    let all : List SlotSource = map source c.in_ok-sources.sources in
    let joins : map g.C.AsCondition.as_joined c.in_ok-joins.joins ≡ map (λ s. slot_joined_by s.0 s.1) (zip (remove all 0) scope.sides.items) =
    c.in_ok-joins.ensures
    ∙ ap (λ (ss : List SlotSource). map (λ s. slot_joined_by s.0 s.1) (zip ss scope.sides.items)) (ap (map source) c.remove-source.ensures.rest ∙ behind-seen source c.in_ok-sources.sources) in
    let selected = selection-is tables distinct c.args.items c.args.table.now c.args.joins.now conditions scope joined passed
    first all (rw c.deref.ensures.value at sources.sources) (first-seen source c.in_ok-sources.sources c.remove-source.result c.remove-source.ensures.value) in
    record {
      needs = needs;
      late = late;
      asked = rw c.deref.ensures.value at asked;
      behind = behind;
      holes = none-wanted (λ (d : SlotCond). d.slot) (λ d. column_meant columns d.column) (λ d on. compared_need tables on.column.kind d.op) conditions;
      means =
          means-so tables (statement.Select distinct c.args.items c.args.table.now c.args.joins.now conditions) _
          ((rw passed at checked)
          ∙ ap (opened needs late) selected
          ∙ (λ i. opened needs late (template.Select (slot_query distinct (sym c.in_ok-shown.ensures.shown i) first (sym joins i)))));
    }
