use Rattle.std.proofs.Common.{◌≡◌, ◌-◌, ◌≤◌, vec_len}
use Rattle.std.specs.Prelude.{replicate}
use Rattle.plain_tables.specs.declared.value.Value.TheVariants as value
use Rattle.mm_prepared.proofs.bound.Bound.new.Given as goal

abbrev pub invariant-loop-values : goal.invariant-loop-values
invariant-loop-values l = record {
  nulls : l.values.items ≡ replicate (vec_len l.values) value.Null;
  within : vec_len l.values ≤ l.places;
}

abbrev pub decreases-loop-values : goal.decreases-loop-values
decreases-loop-values l = l.places - vec_len l.values
