use Rattle.std.proofs.Common.{◌≡◌, map}
use Rattle.plain_statements.specs.Filling.{slot_value}
use Rattle.mm_prepared.proofs.many.rows_of_insert.Given as goal

abbrev pub invariant-loop-values : goal.invariant-loop-values
invariant-loop-values l = l.made ≡ map (λ values. map (slot_value values) l.slots) l.yielded
