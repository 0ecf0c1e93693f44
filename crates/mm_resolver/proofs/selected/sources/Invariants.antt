use Rattle.std.proofs.Common.{◌≡◌, false, map}
use Rattle.std.specs.List.{enumerate_from}
use Rattle.plain_tables.specs.Effects.{misses}
use Rattle.plain_statements.specs.Slots.{condition_needs, slot_condition_names}
use Rattle.mm_resolver.specs.Naming.{columns_of_all}
use Rattle.mm_resolver.specs.Slots.{slot_source_on}
use Rattle.mm_resolver.specs.Wanted.{Adds}
use Rattle.mm_resolver.proofs.selected.sources.Given as goal

abbrev pub invariant-loop-condition : goal.invariant-loop-condition
invariant-loop-condition g l = record {
  can_next : (goal.iterator-loop-condition g).can_next l.condition-iterator;
  is_finite : (goal.iterator-loop-condition g).is_finite l.condition-iterator;
  sources : map g.C.AsCondition.as_source l.sources.items ≡ map (slot_source_on (columns_of_all l.tables) (map g.C.AsCondition.as_condition l.yielded)) (enumerate_from 0 l.tables);
  wanted : Adds (condition_needs (g.S.Schemas.database l.schemas) (columns_of_all l.tables) (map g.C.AsCondition.as_condition l.yielded)) l.initial.wanted l.wanted;
  named : misses (columns_of_all l.tables) (slot_condition_names (map g.C.AsCondition.as_condition l.yielded)) ≡ false;
}
