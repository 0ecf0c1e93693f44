-- The two ends of a few bytes.
use Rattle.std.specs.Prelude.{◌≡◌, ℕ, ◌-◌, ◌≤◌, List, drop, length, take}

-- the first eight and the last eight of eight to sixteen bytes
pub record AreEndsOf (bytes first last : List ℕ) : Type 0 where
  pub few : length bytes ≤ 16
  pub enough : 8 ≤ length bytes
  pub front : first ≡ take 8 bytes
  pub back : last ≡ drop (length bytes - 8) bytes
