use Rattle.std.proofs.Common.{◌≡◌, false, map}
use Rattle.plain_tables.specs.Effects.{misses}
use Rattle.plain_statements.specs.Slots.{condition_needs, slot_condition_names, slot_tests_of}
use Rattle.mm_resolver.specs.Naming.{columns_of_all}
use Rattle.mm_resolver.specs.Wanted.{Adds}
use Rattle.mm_resolver.proofs.slots.tests.Given as goal

abbrev pub invariant-loop-condition : goal.invariant-loop-condition
invariant-loop-condition g l = record {
  can_next : (goal.iterator-loop-condition g).can_next l.condition-iterator;
  is_finite : (goal.iterator-loop-condition g).is_finite l.condition-iterator;
  tests : map g.C.AsCondition.as_test l.tests.items ≡ slot_tests_of (columns_of_all l.tables) (map g.C.AsCondition.as_condition l.yielded);
  wanted : Adds (condition_needs (g.S.Schemas.database l.schemas) (columns_of_all l.tables) (map g.C.AsCondition.as_condition l.yielded)) l.initial.wanted l.wanted;
  named : misses (columns_of_all l.tables) (slot_condition_names (map g.C.AsCondition.as_condition l.yielded)) ≡ false;
}
