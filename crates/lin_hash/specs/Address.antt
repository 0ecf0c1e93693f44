-- Which bucket a hash belongs to.
use Rattle.std.specs.Prelude.{◌≡◌, ℕ, ◌+◌, ◌*◌, ◌%◌, ◌^◌, ◌<◌, ◌≤◌, List, [], length, slice_index_or, All, nat_lt, if◌then◌else◌}

-- the bucket by the long modulus where the short one leads below the mark, to a bucket that was split, and by the
-- short modulus elsewhere
abbrev pub bucket_by : (short mark hash : ℕ) → ℕ
bucket_by short mark hash = if nat_lt (hash % short) mark then hash % (2 * short) else hash % short

-- at a level there are 4 * 2 ^ level buckets before its first split
abbrev pub bucket_of : (level mark hash : ℕ) → ℕ
bucket_of level mark hash = bucket_by (4 * 2 ^ level) mark hash

-- each entry stands in the bucket of its hash
pub record IsPlaced {A : Type 0} (short mark : ℕ) (buckets : List (List (ℕ × A))) : Type 0 where
  pub at : (i : ℕ) → i < length buckets → All (λ e. bucket_by short mark e.0 ≡ i) (slice_index_or buckets i [])

-- there are as many buckets as the level and the mark say, and each entry stands in its own
pub record IsAddressed {A : Type 0} (level mark : ℕ) (buckets : List (List (ℕ × A))) : Type 0 where
  pub low : level ≤ 30
  pub marked : mark < 4 * 2 ^ level
  pub number : length buckets ≡ 4 * 2 ^ level + mark
  pub placed : IsPlaced (4 * 2 ^ level) mark buckets
