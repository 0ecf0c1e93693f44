use Rattle.std.proofs.Common.{rules, ◌≡◌, ◌∷◌, ◌++◌, [], ◌∙◌, length, map, refl, sym, ap, subst, arith, List, drop}
use Rattle.std.specs.Prelude.{Err}
use Rattle.std.specs.List.{enumerate_from}
use Rattle.std.specs.Option.{option_map}
use Rattle.std.proofs.lemmas.Iterator.Adapters.{YieldsList-from_vec}
use Rattle.std.proofs.lemmas.Iterator.Consumers.{YieldsList-turn}
use Rattle.std.proofs.lemmas.List.{length-map, map_push, take_at}
use Rattle.plain_tables.specs.Effects.{misses}
use Rattle.plain_tables.specs.Queries.{column_meant}
use Rattle.plain_tables.specs.declared.condition.ColName.{ColName}
use Rattle.plain_tables.specs.declared.numbers.TableNumber.{TableNumber}
use Rattle.plain_statements.specs.declared.statement.SlotCond.{SlotCond}
use Rattle.plain_statements.specs.declared.resolution.SlotSource.{SlotSource}
use Rattle.plain_statements.specs.declared.resolution.SlotTest.{SlotTest}
use Rattle.plain_statements.specs.Slots.{compared_need, condition_needs, slot_condition_names}
use Rattle.mm_resolver.specs.Naming.{columns_of_all}
use Rattle.mm_resolver.specs.Slots.{slot_source_on, slot_test_at, with_slot_test}
use Rattle.mm_resolver.specs.Wanted.{Adds}
use Rattle.mm_resolver.proofs.Adding.{adds-more, adds-none}
use Rattle.mm_resolver.proofs.Named.{missed_at, named_more}
use Rattle.mm_resolver.proofs.Sources.{length-on, map-map, source_added, untested_are}
use Rattle.mm_resolver.proofs.selected.sources.Goals as goal

abbrev source_with : TableNumber → List SlotTest → SlotSource
source_with n tests = record { table = n; tests = tests }

abbrev column : SlotCond → ColName
column d = d.column

pub loop-condition-init : goal.loop-condition-init
loop-condition-init g c = record {
  can_next = tt;
  is_finite = tt;
  sources = c.in_ok-sources.ensures ∙ untested_are column slot_test_at source_with (columns_of_all c.args.tables.now) 0 c.args.tables.now;
  wanted = adds-none _;
  named = refl;
}

pub returns-in_err-place-clause-missed : goal.returns-in_err-place-clause-missed
returns-in_err-place-clause-missed g c =
    let is : c.from_residual-in_err-place.result ≡ Err c.in_err-place.field-0.0 = search rules in
    let columns = columns_of_all c.args.tables.now in
    let gives = c.into_iter-condition-iterator.ensures.into_iter_gives in
    let conditions = c.into_vec-condition-items.result in
    let turn = YieldsList-turn (YieldsList-from_vec conditions.items gives.0 (omega (arith, gives.1, conditions.ok.0))) c.loop-condition.yielded c.loop-condition.condition-iterator c.loop-condition.yielded_by c.next.result c.next.new.self c.in-Some.condition c.in-Some.is c.next.ensures.steps in
    let seen = g.C.AsCondition.as_condition in
    rw is (λ other.
    ap (λ cs. misses columns (slot_condition_names (map seen cs))) (sym c.into_vec-condition-items.ensures)
    ∙ ap (misses columns) (sym (map-map column seen conditions.items))
    ∙ missed_at columns (λ d. (seen d).column) conditions.items (length c.loop-condition.yielded) c.in-Some.condition turn.0 turn.1 (c.in_err-place.ensures.missed other))

pub add_test-requires : goal.add_test-requires
add_test-requires g c =
    let tables = c.args.tables.now in
    let seen = g.C.AsCondition.as_condition in
    let source = g.C.AsCondition.as_source in
    let many = length-on column slot_test_at source_with (columns_of_all tables) (map seen c.loop-condition.yielded) tables in
    omega (arith, c.in_ok-place.ensures.within, many, length-map c.as_mut_slice.result.now source, ap length (ap (map source) c.as_mut_slice.ensures.value ∙ c.loop-condition.invariant.sources))

pub loop-condition-preserved : goal.loop-condition-preserved
loop-condition-preserved g c =
    let database = g.S.Schemas.database c.args.schemas.now in
    let tables = c.args.tables.now in
    let columns = columns_of_all tables in
    let seen = g.C.AsCondition.as_condition in
    let source = g.C.AsCondition.as_source in
    let given : List SlotCond = map seen c.loop-condition.yielded in
    let condition : SlotCond = seen c.in-Some.condition in
    let place = c.in_ok-place.place in
    let before = c.loop-condition.sources in
    let more : map seen (c.loop-condition.yielded ++ c.in-Some.condition ∷ []) ≡ given ++ condition ∷ [] = map_push seen c.loop-condition.yielded c.in-Some.condition in
    let all = take_at c.add_test.new.sources (drop (length c.add_test.new.sources) before.items) before.len
    (omega (arith, c.add_test.auto.sources, ap length c.as_mut_slice.ensures.value, before.ok.0)) in
    record {
      can_next = tt;
      is_finite = tt;
      sources =
          ap (map source) all
          ∙ source_added column slot_test_at source_with columns given condition with_slot_test (λ _ _ _. refl) place c.in_ok-place.ensures.place tables
          (map source c.as_mut_slice.result.now) (map source c.add_test.new.sources) (g.C.AsCondition.as_test c.at.result)
          (ap (map source) c.as_mut_slice.ensures.value ∙ c.loop-condition.invariant.sources) c.in_ok-place.ensures.within c.at.ensures c.in_ok-add_test.ensures
          ∙ ap (λ (cs : List SlotCond). map (slot_source_on columns cs) (enumerate_from 0 tables)) (sym more);
      wanted =
          subst (λ (cs : List SlotCond). Adds (condition_needs database columns cs) c.args.wanted.now c.place_condition.new.wanted) (sym more)
          (adds-more (λ d. option_map (λ joined. (d.slot, compared_need database joined.column.kind d.op)) (column_meant columns d.column)) given condition
          _ _ _ c.loop-condition.invariant.wanted c.in_ok-place.ensures.wanted);
      named =
          ap (λ (cs : List SlotCond). misses columns (slot_condition_names cs)) more
          ∙ named_more columns column given condition place c.in_ok-place.ensures.place c.loop-condition.invariant.named;
    }
