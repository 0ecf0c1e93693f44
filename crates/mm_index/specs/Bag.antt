-- Lists read as bags: what is held and how often counts, and the order does not.
use Rattle.std.specs.Prelude.{◌≡◌, ◌==◌, ℕ, Bool, List, ◌++◌, count_by, filter, map}

-- the two lists hold the same elements, each as often: whatever the test, as many pass it in the one as in the other
pub record IsSameBag {A : Type 0} (xs ys : List A) : Type 0 where
  pub count : (test : A → Bool) → count_by test xs ≡ count_by test ys

-- the new list is the old one, followed by the elements of the bag in some order
abbrev pub AppendsBag : {A : Type 0} → List A → List A → List A → Type 0
AppendsBag {A} old new bag = (found : List A) × (new ≡ old ++ found) × IsSameBag found bag

-- what the entries hold under a hash, each as often as it stands there
abbrev pub with_hash : {A : Type 0} → ℕ → List (ℕ × A) → List A
with_hash hash entries = map (λ e. e.1) (filter (λ e. e.0 == hash) entries)
