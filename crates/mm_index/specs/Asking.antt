-- What asking does to a probe.
use Rattle.std.specs.Prelude.{◌≡◌, ℕ, ◌+◌, ◌-◌, ◌^◌, ◌≤◌, if◌then◌else◌, nat_lt}
use Rattle.std.specs.declared.cmp.Ordering.{Ordering}

-- a count after one more: one higher, or the greatest 64-bit number where it was that already
abbrev pub counted : ℕ → ℕ
counted n = if nat_lt n (2 ^ 64 - 1) then n + 1 else n

-- A probe that was only asked: what it answers stays, it may still be asked whatever it could be asked, and its count has not fallen.
pub record IsOnlyAsked {P R : Type 0} (is_sound : P → Type 0) (can_place : P → R → Type 0) (place : P → R → Ordering) (asked : P → ℕ) (old new : P) : Type 0 where
  pub answers : place new ≡ place old
  pub sound : is_sound old → is_sound new
  pub may_ask : (r : R) → can_place old r → can_place new r
  pub count : asked old ≤ asked new
