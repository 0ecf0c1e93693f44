use Rattle.std.proofs.Common.{◌≡◌, false, Some, get_or, sym, ap, ◌∙◌}
use Rattle.std.specs.List.{slice_get}
use Rattle.std.proofs.lemmas.List.{get_or_default}
use Rattle.std.proofs.lemmas.Option.{slice_get-get_or}
use Rattle.std.proofs.lemmas.Result.{on_err_weaker}
use Rattle.plain_tables.specs.declared.numbers.TableNumber.{TableNumber}
use Rattle.mm_relation.specs.State.{RelationState}
use Rattle.mm_catalog.specs.Linked.{target_at}
use Rattle.mm_catalog.proofs.Gaining.{gains_when, led_when, undone}
use Rattle.mm_catalog.proofs.Uncounting.{gained_when}
use Rattle.mm_catalog.proofs.create.+count_targets.Goals as goal

pub returns-then-is_err-clause-unchanged : goal.returns-then-is_err-clause-unchanged
returns-then-is_err-clause-unchanged t c =
    let n = c.in-Some.table in
    let leads : target_at c.args.relation.now.targets c.args.column.0 ≡ Some n = sym c.target_number.ensures ∙ c.in-Some.is in
    let within = c.requires.within c.args.column.0 n leads in
    on_err_weaker c.count_targets-counted.result
    (λ back. undone c.args.relations.now c.count_targets-counted.new.relations n c.index-relations-table.result c.index-relations-table-2.result c.index-relations-table-then-is_err.result c.keep_counts.new.self c.forget_counts.new.self within
    (sym c.is_counted.ensures.value ∙ c.if-is_counted.false) c.in_ok-keep_counts.ensures.ok back c.forget_counts.ensures)
    c.count_targets-counted.ensures.unchanged

pub returns-else-is_err-clause-gained : goal.returns-else-is_err-clause-gained
returns-else-is_err-clause-gained t c =
    let n = c.in-Some.table in
    let s : RelationState = get_or c.args.relations.now n c.index-relations-table-2.result in
    let leads : target_at c.args.relation.now.targets c.args.column.0 ≡ Some n = sym c.target_number.ensures ∙ c.in-Some.is in
    let there : slice_get c.args.relations.now n ≡ Some s = slice_get-get_or c.args.relations.now n c.index-relations-table-2.result (c.requires.within c.args.column.0 n leads) in
    gains_when c.args.relations.now c.count_targets-counted.new.relations n s c.count_targets-counted.result there (rw c.in_ok-keep_counts.ensures.ok at c.count_targets-counted.ensures.gained)

pub returns-else-is_err-clause-counted : goal.returns-else-is_err-clause-counted
returns-else-is_err-clause-counted t c =
    let n = c.in-Some.table in
    let s : RelationState = get_or c.args.relations.now n c.index-relations-table-2.result in
    let leads : target_at c.args.relation.now.targets c.args.column.0 ≡ Some n = sym c.target_number.ensures ∙ c.in-Some.is in
    let there : slice_get c.args.relations.now n ≡ Some s = slice_get-get_or c.args.relations.now n c.index-relations-table-2.result (c.requires.within c.args.column.0 n leads) in
    led_when c.args.relations.now c.count_targets-counted.new.relations n c.args.column.0 s c.args.relation.now.targets c.count_targets-counted.result there leads (rw c.in_ok-keep_counts.ensures.ok at c.count_targets-counted.ensures.gained)
    c.count_targets-counted.ensures.counted

pub returns-else-is_err-clause-listed : goal.returns-else-is_err-clause-listed
returns-else-is_err-clause-listed t c =
    let n = c.in-Some.table in
    let table : TableNumber = record { 0 = n } in
    let s : RelationState = get_or c.args.relations.now n c.index-relations-table-2.result in
    let leads : target_at c.args.relation.now.targets c.args.column.0 ≡ Some n = sym c.target_number.ensures ∙ c.in-Some.is in
    let within = c.requires.within c.args.column.0 n leads in
    let there : slice_get c.args.relations.now n ≡ Some s = slice_get-get_or c.args.relations.now n c.index-relations-table-2.result within in
    let none : s.counted ≡ false =
    ap (λ (u : RelationState). u.counted) (get_or_default c.args.relations.now n c.index-relations-table-2.result c.index-relations-table.result within) ∙ sym c.is_counted.ensures.value ∙ c.if-is_counted.false in
    gained_when c.args.relations.now c.count_targets-counted.new.relations s c.args.gained.now.items c.push.new.self.items c.count_targets-counted.new.gained.items table c.count_targets-counted.result there none
    c.in_ok-push.ensures.items (rw c.in_ok-keep_counts.ensures.ok at c.count_targets-counted.ensures.listed)
