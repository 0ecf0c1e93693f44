use Rattle.std.proofs.Common.{rules, ◌≡◌, ◌++◌, ◌∷◌, [], ◌∙◌, length, map, sym, ap, subst, arith, List}
use Rattle.std.specs.Prelude.{Err}
use Rattle.std.specs.Option.{option_map}
use Rattle.std.proofs.lemmas.Iterator.Adapters.{YieldsList-from_vec}
use Rattle.std.proofs.lemmas.Iterator.Consumers.{YieldsList-turn}
use Rattle.std.proofs.lemmas.List.{map_push}
use Rattle.plain_tables.specs.Effects.{misses}
use Rattle.plain_tables.specs.Queries.{column_meant}
use Rattle.plain_tables.specs.declared.condition.ColName.{ColName}
use Rattle.plain_statements.specs.declared.statement.SlotCond.{SlotCond}
use Rattle.plain_statements.specs.declared.resolution.SlotTest.{SlotTest}
use Rattle.plain_statements.specs.Slots.{compared_need, condition_needs, slot_condition_names, slot_tests_of}
use Rattle.mm_resolver.specs.Naming.{columns_of_all}
use Rattle.mm_resolver.specs.Slots.{slot_test_at}
use Rattle.mm_resolver.specs.Wanted.{Adds}
use Rattle.mm_resolver.proofs.Adding.{adds-more}
use Rattle.mm_resolver.proofs.Named.{missed_at, named_more, made_more}
use Rattle.mm_resolver.proofs.Sources.{map-map}
use Rattle.mm_resolver.proofs.slots.tests.Goals as goal

pub returns-in_err-place-clause-missed : goal.returns-in_err-place-clause-missed
returns-in_err-place-clause-missed g c =
    let is : c.from_residual-in_err-place.result ≡ Err c.in_err-place.field-0.0 = search rules in
    let columns = columns_of_all c.args.tables.now in
    let gives = c.into_iter-condition-iterator.ensures.into_iter_gives in
    let conditions = c.into_vec-conditions.result in
    let turn = YieldsList-turn (YieldsList-from_vec conditions.items gives.0 (omega (arith, gives.1, conditions.ok.0))) c.loop-condition.yielded c.loop-condition.condition-iterator c.loop-condition.yielded_by c.next.result c.next.new.self c.in-Some.condition c.in-Some.is c.next.ensures.steps in
    let seen = g.C.AsCondition.as_condition in
    rw is (λ other.
    ap (λ cs. misses columns (slot_condition_names (map seen cs))) (sym c.into_vec-conditions.ensures)
    ∙ ap (misses columns) (sym (map-map (λ (d : SlotCond). d.column) seen conditions.items))
    ∙ missed_at columns (λ d. (seen d).column) conditions.items (length c.loop-condition.yielded) c.in-Some.condition turn.0 turn.1 (c.in_err-place.ensures.missed other))

pub loop-condition-preserved : goal.loop-condition-preserved
loop-condition-preserved g c =
    let tables = g.S.Schemas.database c.args.schemas.now in
    let columns = columns_of_all c.args.tables.now in
    let seen = g.C.AsCondition.as_condition in
    let given : List SlotCond = map seen c.loop-condition.yielded in
    let condition : SlotCond = seen c.in-Some.condition in
    let place = c.in_ok-place.place in
    let column : SlotCond → ColName = λ d. d.column in
    let pushed : c.push.new.self.items ≡ c.loop-condition.tests.items ++ c.at.result ∷ [] = search rules in
    let more : map seen (c.loop-condition.yielded ++ c.in-Some.condition ∷ []) ≡ given ++ condition ∷ [] = map_push seen c.loop-condition.yielded c.in-Some.condition in
    record {
      can_next = tt;
      is_finite = tt;
      tests =
          ap (map g.C.AsCondition.as_test) pushed
          ∙ map_push g.C.AsCondition.as_test c.loop-condition.tests.items c.at.result
          ∙ ap (λ (ts : List SlotTest). ts ++ g.C.AsCondition.as_test c.at.result ∷ []) c.loop-condition.invariant.tests
          ∙ ap (λ (t : SlotTest). slot_tests_of columns given ++ t ∷ []) c.at.ensures
          ∙ sym (made_more columns column given condition place c.in_ok-place.ensures.place slot_test_at)
          ∙ ap (slot_tests_of columns) (sym more);
      wanted =
          subst (λ (cs : List SlotCond). Adds (condition_needs tables columns cs) c.args.wanted.now c.place_condition.new.wanted) (sym more)
          (adds-more (λ d. option_map (λ joined. (d.slot, compared_need tables joined.column.kind d.op)) (column_meant columns d.column)) given condition
          _ _ _ c.loop-condition.invariant.wanted c.in_ok-place.ensures.wanted);
      named =
          ap (λ (cs : List SlotCond). misses columns (slot_condition_names cs)) more
          ∙ named_more columns column given condition place c.in_ok-place.ensures.place c.loop-condition.invariant.named;
    }
