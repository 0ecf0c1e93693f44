-- How a hash stands: how long its chains are.
use Rattle.std.specs.Prelude.{◌≡◌, ◌==◌, ℕ, ◌+◌, ◌*◌, ◌^◌, ◌<◌, ◌≤◌, List, length}
use Rattle.std.specs.List.{count_by}
use Rattle.part_raw.specs.declared.tuple_ref.TupleRef.{TupleRef}
use Rattle.lin_hash.specs.Address.{bucket_of}
use Rattle.lin_hash.specs.declared.shape.HashShape.{HashShape}

-- how many entries belong to a bucket, by the level and the mark: the length of its chain
abbrev pub chain_length : (level mark bucket : ℕ) → List (ℕ × TupleRef) → ℕ
chain_length level mark bucket entries = count_by (λ e. bucket_of level mark e.0 == bucket) entries

-- in so many buckets, whose number says the level and the mark, the longest chain of these entries has this length
pub record IsLongestChain (buckets : ℕ) (entries : List (ℕ × TupleRef)) (longest : ℕ) : Type 0 where
  pub level : ℕ
  pub mark : ℕ
  pub number : buckets ≡ 4 * 2 ^ level + mark
  pub marked : mark < 4 * 2 ^ level
  pub within : (bucket : ℕ) → bucket < buckets → chain_length level mark bucket entries ≤ longest
  pub reached : (bucket : ℕ) × (bucket < buckets) × (chain_length level mark bucket entries ≡ longest)

-- what is told of a hash with these entries
pub record HasHashShape (entries : List (ℕ × TupleRef)) (shape : HashShape) : Type 0 where
  pub items : shape.items ≡ length entries
  pub first : 4 ≤ shape.buckets
  pub dense : length entries ≤ 2 * shape.buckets
  pub longest : IsLongestChain shape.buckets entries shape.longest
