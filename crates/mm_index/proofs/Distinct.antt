-- Lists that repeat nothing, as bags: their members decide.
use Rattle.std.proofs.Common.{◌≡◌, ◌≢◌, Bool, List, length, sym, ◌∙◌}
use Rattle.std.specs.Bool.{Decides}
use Rattle.std.specs.Cmp.{IsEquivalence}
use Rattle.std.specs.List.{filter, AllPairs, Contains}
use Rattle.std.specs.Set.{is_member}
use Rattle.std.proofs.lemmas.Bool.Decides.{same_from_decides}
use Rattle.std.proofs.lemmas.List.Kept.{AllPairs-filter}
use Rattle.std.proofs.lemmas.List.Sums.{length-filter}
use Rattle.std.proofs.lemmas.Map.Made.{is_member-Decides, length-from_same_keys, length-from_keys, IsDistinct-from_AllPairs, IsDistinct-from_count, AllPairs-from_IsDistinct}
use Rattle.mm_index.specs.Bag.{IsSameBag}
use Rattle.mm_index.proofs.Bags.{IsSameBag-sym, Contains-same_bag, length-same_bag}
use Rattle.common_lemmas.proofs.Elements.{Contains-filter, Contains-from_filter}

module _ {A : Type 0} (same : A → A → Bool) (decides : (a b : A) → Decides (same a b) (a ≡ b)) (laws : IsEquivalence same) where
  same_members : (xs ys : List A) → ((x : A) → Contains xs x → Contains ys x) → ((x : A) → Contains ys x → Contains xs x) → (x : A) → is_member same xs x ≡ is_member same ys x
  same_members xs ys into from x =
      let there = is_member-Decides decides ys x in
      same_from_decides (is_member same xs x) (is_member same ys x) (is_member-Decides decides xs x)
      (λ e. from x (there.0 e), λ h. there.1 (into x h))

  length-same_members : (xs ys : List A) → AllPairs (λ a b. a ≢ b) xs → AllPairs (λ a b. a ≢ b) ys → ((x : A) → Contains xs x → Contains ys x) → ((x : A) → Contains ys x → Contains xs x) → length xs ≡ length ys
  length-same_members xs ys once_xs once_ys into from =
      length-from_same_keys laws xs ys (IsDistinct-from_AllPairs decides xs once_xs) (IsDistinct-from_AllPairs decides ys once_ys) (same_members xs ys into from)

  -- two such lists with the same members are the same bag
  pub IsSameBag-from_members : (xs ys : List A) → AllPairs (λ a b. a ≢ b) xs → AllPairs (λ a b. a ≢ b) ys → ((x : A) → Contains xs x → Contains ys x) → ((x : A) → Contains ys x → Contains xs x) → IsSameBag xs ys
  IsSameBag-from_members xs ys once_xs once_ys into from = record {
    count = λ test.
        sym (length-filter test xs)
        ∙ length-same_members (filter test xs) (filter test ys) (AllPairs-filter (λ a b. a ≢ b) test xs once_xs) (AllPairs-filter (λ a b. a ≢ b) test ys once_ys)
        (λ x h. let both = Contains-from_filter test xs x h in Contains-filter test ys x (into x both.0) both.1)
        (λ x h. let both = Contains-from_filter test ys x h in Contains-filter test xs x (from x both.0) both.1)
        ∙ length-filter test ys;
  }

  -- the same bag repeats nothing either
  pub AllPairs-same_bag : (xs ys : List A) → IsSameBag xs ys → AllPairs (λ a b. a ≢ b) xs → AllPairs (λ a b. a ≢ b) ys
  AllPairs-same_bag xs ys bag once =
      let members = same_members xs ys (λ x h. Contains-same_bag same decides xs ys x bag h) (λ x h. Contains-same_bag same decides ys xs x (IsSameBag-sym bag) h) in
      AllPairs-from_IsDistinct decides ys
      (IsDistinct-from_count laws ys (sym (length-from_keys laws xs ys (IsDistinct-from_AllPairs decides xs once) members) ∙ length-same_bag xs ys bag))
