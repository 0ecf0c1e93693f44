use Rattle.std.proofs.Common.{◌≡◌, map}
use Rattle.mm_resolver.specs.Slots.{slot_joined_by}
use Rattle.mm_resolver.proofs.scope.Scope.joins.Given as goal

abbrev pub invariant-loop-source : goal.invariant-loop-source
invariant-loop-source g l = map g.C.AsCondition.as_joined l.joins.items ≡ map (λ s. slot_joined_by (g.C.AsCondition.as_source s.0) s.1) l.yielded
