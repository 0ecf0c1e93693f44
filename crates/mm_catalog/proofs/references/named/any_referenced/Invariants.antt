use Rattle.std.proofs.Common.{ℕ, ◌<◌, get_or}
use Rattle.part_raw.specs.declared.tuple_ref.TupleRef.{TupleRef}
use Rattle.mm_catalog.specs.Deleted.{IsFree}
use Rattle.mm_catalog.proofs.references.named.any_referenced.Given as goal

abbrev pub invariant-loop-r : goal.invariant-loop-r
invariant-loop-r l = (k : ℕ) (d : TupleRef) → k < l.r-index → IsFree l.relation (get_or l.rows k d)
