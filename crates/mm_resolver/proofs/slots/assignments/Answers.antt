use Rattle.std.proofs.Common.{rules, ◌≡◌, ◌++◌, ◌∷◌, [], ◌∙◌, length, map, sym, ap, subst, arith, List}
use Rattle.std.specs.Prelude.{Err}
use Rattle.std.specs.Option.{option_map}
use Rattle.std.proofs.lemmas.Iterator.Adapters.{YieldsList-from_vec}
use Rattle.std.proofs.lemmas.Iterator.Consumers.{YieldsList-turn}
use Rattle.std.proofs.lemmas.List.{map_push}
use Rattle.plain_tables.specs.Effects.{misses}
use Rattle.plain_tables.specs.Queries.{column_meant}
use Rattle.plain_statements.specs.declared.resolution.SlotAssignment.{SlotAssignment}
use Rattle.plain_statements.specs.declared.statement.SlotSetting.{SlotSetting}
use Rattle.plain_statements.specs.Slots.{setting_needs, slot_assignments_of, slot_setting_name, stored_need}
use Rattle.mm_resolver.specs.Naming.{columns_of_all}
use Rattle.mm_resolver.specs.Slots.{slot_assignment_at}
use Rattle.mm_resolver.specs.Wanted.{Adds}
use Rattle.mm_resolver.proofs.Adding.{adds-more}
use Rattle.mm_resolver.proofs.Named.{missed_at, named_more, made_more}
use Rattle.mm_resolver.proofs.Sources.{map-map}
use Rattle.mm_resolver.proofs.slots.assignments.Goals as goal

pub returns-in_err-place-clause-missed : goal.returns-in_err-place-clause-missed
returns-in_err-place-clause-missed g c =
    let is : c.from_residual-in_err-place.result ≡ Err c.in_err-place.field-0.0 = search rules in
    let columns = columns_of_all c.args.tables.now in
    let gives = c.into_iter-setting-iterator.ensures.into_iter_gives in
    let settings = c.into_vec-settings.result in
    let turn = YieldsList-turn (YieldsList-from_vec settings.items gives.0 (omega (arith, gives.1, settings.ok.0))) c.loop-setting.yielded c.loop-setting.setting-iterator c.loop-setting.yielded_by c.next.result c.next.new.self c.in-Some.setting c.in-Some.is c.next.ensures.steps in
    let seen = g.A.AsSetting.as_setting in
    rw is (λ other.
    ap (λ ss. misses columns (map slot_setting_name (map seen ss))) (sym c.into_vec-settings.ensures)
    ∙ ap (misses columns) (sym (map-map slot_setting_name seen settings.items))
    ∙ missed_at columns (λ s. slot_setting_name (seen s)) settings.items (length c.loop-setting.yielded) c.in-Some.setting turn.0 turn.1 (c.in_err-place.ensures.missed other))

pub loop-setting-preserved : goal.loop-setting-preserved
loop-setting-preserved g c =
    let tables = g.S.Schemas.database c.args.schemas.now in
    let columns = columns_of_all c.args.tables.now in
    let seen = g.A.AsSetting.as_setting in
    let given : List SlotSetting = map seen c.loop-setting.yielded in
    let setting : SlotSetting = seen c.in-Some.setting in
    let place = c.in_ok-place.place in
    let pushed : c.push.new.self.items ≡ c.loop-setting.assignments.items ++ c.at.result ∷ [] = search rules in
    let more : map seen (c.loop-setting.yielded ++ c.in-Some.setting ∷ []) ≡ given ++ setting ∷ [] = map_push seen c.loop-setting.yielded c.in-Some.setting in
    record {
      can_next = tt;
      is_finite = tt;
      assignments =
          ap (map g.A.AsSetting.as_assignment) pushed
          ∙ map_push g.A.AsSetting.as_assignment c.loop-setting.assignments.items c.at.result
          ∙ ap (λ (as' : List SlotAssignment). as' ++ g.A.AsSetting.as_assignment c.at.result ∷ []) c.loop-setting.invariant.assignments
          ∙ ap (λ (a : SlotAssignment). slot_assignments_of columns given ++ a ∷ []) c.at.ensures
          ∙ sym (made_more columns slot_setting_name given setting place c.in_ok-place.ensures.place slot_assignment_at)
          ∙ ap (slot_assignments_of columns) (sym more);
      wanted =
          subst (λ (ss : List SlotSetting). Adds (setting_needs tables columns ss) c.args.wanted.now c.place_setting.new.wanted) (sym more)
          (adds-more (λ s. option_map (λ joined. (s.slot, stored_need tables joined.column.kind)) (column_meant columns (slot_setting_name s))) given setting
          _ _ _ c.loop-setting.invariant.wanted c.in_ok-place.ensures.wanted);
      named =
          ap (λ (ss : List SlotSetting). misses columns (map slot_setting_name ss)) more
          ∙ named_more columns slot_setting_name given setting place c.in_ok-place.ensures.place c.loop-setting.invariant.named;
    }
