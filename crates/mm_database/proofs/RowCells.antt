-- Rows: what statements have shown, where that of one is changed.
use Rattle.std.proofs.Common.{◌≡◌, ◌≢◌, ◌<◌, ℕ, zero, suc, List, [], ◌∷◌, Some, refl, ap, arith, length}
use Rattle.std.specs.Prelude.{slice_get, slice_set}

-- what stands at another place
pub set-other : {A : Type 0} (xs : List A) (n k : ℕ) (x y : A) → k ≢ n → slice_get xs k ≡ Some y → slice_get (slice_set xs n x) k ≡ Some y
set-other [] n k x y apart there = there
set-other (z ∷ xs) zero zero x y apart there = absurd (apart refl)
set-other (z ∷ xs) zero (suc k) x y apart there = there
set-other (z ∷ xs) (suc n) zero x y apart there = there
set-other (z ∷ xs) (suc n) (suc k) x y apart there = set-other xs n k x y (λ e. apart (ap suc e)) there

-- what is put into a place stands there
pub set-same : {A : Type 0} (xs : List A) (n : ℕ) (x : A) → n < length xs → slice_get (slice_set xs n x) n ≡ Some x
set-same [] n x within = absurd (omega arith)
set-same (z ∷ xs) zero x within = refl
set-same (z ∷ xs) (suc n) x within = set-same xs n x (omega arith)
