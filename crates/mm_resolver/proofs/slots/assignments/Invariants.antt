use Rattle.std.proofs.Common.{◌≡◌, false, map}
use Rattle.plain_tables.specs.Effects.{misses}
use Rattle.plain_statements.specs.Slots.{setting_needs, slot_assignments_of, slot_setting_name}
use Rattle.mm_resolver.specs.Naming.{columns_of_all}
use Rattle.mm_resolver.specs.Wanted.{Adds}
use Rattle.mm_resolver.proofs.slots.assignments.Given as goal

abbrev pub invariant-loop-setting : goal.invariant-loop-setting
invariant-loop-setting g l = record {
  can_next : (goal.iterator-loop-setting g).can_next l.setting-iterator;
  is_finite : (goal.iterator-loop-setting g).is_finite l.setting-iterator;
  assignments : map g.A.AsSetting.as_assignment l.assignments.items ≡ slot_assignments_of (columns_of_all l.tables) (map g.A.AsSetting.as_setting l.yielded);
  wanted : Adds (setting_needs (g.S.Schemas.database l.schemas) (columns_of_all l.tables) (map g.A.AsSetting.as_setting l.yielded)) l.initial.wanted l.wanted;
  named : misses (columns_of_all l.tables) (map slot_setting_name (map g.A.AsSetting.as_setting l.yielded)) ≡ false;
}
