use Rattle.std.proofs.Common.{◌≡◌, ℕ, ◌<◌, length, get_or}
use Rattle.mm_relation.specs.declared.index.IndexOn.{IndexOn}
use Rattle.mm_relation.specs.Indexes.{seen, HasFewSpares}
use Rattle.mm_relation.proofs.indexes.shed_each.Given as goal

abbrev pub invariant-loop-on : goal.invariant-loop-on
invariant-loop-on l = record {
  same : (k : ℕ) (d : IndexOn) → k < length l.fn.indexes → seen (get_or l.indexes k d) ≡ seen (get_or l.fn.indexes k d);
  few : (k : ℕ) (d : IndexOn) → k < l.on-index → HasFewSpares (get_or l.indexes k d);
}
