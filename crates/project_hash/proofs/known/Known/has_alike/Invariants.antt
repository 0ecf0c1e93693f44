use Rattle.std.proofs.Common.{◌≡◌, ◌++◌}
use Rattle.std.specs.List.{All}
use Rattle.lin_hash.specs.Rest.{chain_rest}
use Rattle.mm_index.specs.Bag.{IsSameBag, with_hash}
use Rattle.project_hash.specs.Table.{row_state}
use Rattle.project_hash.proofs.known.Known.has_alike.Given as goal

-- none of the chain so far shows the same
abbrev pub invariant-loop-r : goal.invariant-loop-r
invariant-loop-r g l = record {
  chain : IsSameBag (l.yielded ++ chain_rest l.r-iterator) (with_hash l.hash l.self.by_hash.entries);
  others : All (λ r. l.row.values ≡ (row_state l.table r).values → ⊥) l.yielded;
}
