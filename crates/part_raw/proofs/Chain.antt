-- The list of the open partitions, by their links.
use Rattle.std.proofs.Common.{◌≡◌, ◌≢◌, ℕ, zero, suc, ◌<◌, Bool, true, false, Option, Some, None, refl, sym, ap, ◌∙◌, inl, inr, arith, subst}
use Rattle.std.proofs.lemmas.Bool.{cases_eq, true≢false}
use Rattle.part_raw.specs.Open.{IsOpenList}

module _ (is_open : ℕ → Bool) (next : ℕ → Option ℕ) where
  -- a list of none names none first
  pub none_first : (count : ℕ) → IsOpenList is_open next count None → count ≡ 0
  none_first zero is = refl
  none_first (suc count) is = absurd is

  -- the first of a list, and the list from its next on
  pub first_of : (count part : ℕ) → IsOpenList is_open next count (Some part) → (rest : ℕ) × (count ≡ suc rest) × (is_open part ≡ true) × IsOpenList is_open next rest (next part)
  first_of zero part is = absurd is
  first_of (suc rest) part is = (rest, refl, is.0, is.1)

  -- the lists from one partition on are as long as each other
  same_count : (m n : ℕ) (first : Option ℕ) → IsOpenList is_open next m first → IsOpenList is_open next n first → m ≡ n
  same_count zero zero first a b = refl
  same_count zero (suc n) None a b = absurd b
  same_count zero (suc n) (Some part) a b = absurd a
  same_count (suc m) zero None a b = absurd a
  same_count (suc m) zero (Some part) a b = absurd b
  same_count (suc m) (suc n) None a b = absurd a
  same_count (suc m) (suc n) (Some part) a b = ap suc (same_count m n (next part) a.1 b.1)

-- all partitions but this one are open as before, and name the same next
pub record SameBeside (is_open is_open' : ℕ → Bool) (next next' : ℕ → Option ℕ) (at : ℕ) : Type 0 where
  pub opens : (other : ℕ) → other ≢ at → is_open' other ≡ is_open other
  pub nexts : (other : ℕ) → other ≢ at → next' other ≡ next other

module _ (is_open is_open' : ℕ → Bool) (next next' : ℕ → Option ℕ) (at : ℕ) (same : SameBeside is_open is_open' next next' at) where
  -- a list that does not meet the partition stays
  keep_apart : (count : ℕ) (first : Option ℕ) → ((n part : ℕ) → n < count → IsOpenList is_open next (suc n) (Some part) → part ≢ at)
      → IsOpenList is_open next count first → IsOpenList is_open' next' count first
  keep_apart zero None apart is = tt
  keep_apart zero (Some part) apart is = absurd is
  keep_apart (suc count) None apart is = absurd is
  keep_apart (suc count) (Some part) apart is =
      let differs = apart count part (omega arith) is in (
        same.opens part differs ∙ is.0,
        subst (λ (first : Option ℕ). IsOpenList is_open' next' count first) (sym (same.nexts part differs)) (keep_apart count (next part) (λ n p below. apart n p (omega arith)) is.1),
      )

  -- the list stays where the partition was not open
  keep_closed : (count : ℕ) (first : Option ℕ) → is_open at ≡ false → IsOpenList is_open next count first → IsOpenList is_open' next' count first
  keep_closed count first closed is = keep_apart count first (λ n part below here e. true≢false (sym here.0 ∙ ap is_open e ∙ closed)) is

  -- the list from the next on stays where the partition is the first
  pub keep_rest : (count rest : ℕ) (first : Option ℕ) → rest < count → IsOpenList is_open next count (Some at) → IsOpenList is_open next rest first → IsOpenList is_open' next' rest first
  keep_rest count rest first shorter whole is =
      keep_apart rest first (λ n part below here e.
      let there = subst (λ (k : ℕ). IsOpenList is_open next (suc n) (Some k)) e here in
      let as_long = same_count is_open next (suc n) count (Some at) there whole in
      omega arith) is

  -- the list stays where the partition too is open as before, and names the same next
  pub keep_all : (count : ℕ) (first : Option ℕ) → is_open' at ≡ is_open at → next' at ≡ next at → IsOpenList is_open next count first → IsOpenList is_open' next' count first
  keep_all count first open_too next_too is =
      let opens : (other : ℕ) → is_open other ≡ is_open' other = λ other. elim (cases_eq other at) [
        | inl e ↦ ap is_open e ∙ sym open_too ∙ ap is_open' (sym e)
        | inr differs ↦ sym (same.opens other differs)
      ] in
      let nexts : (other : ℕ) → next other ≡ next' other = λ other. elim (cases_eq other at) [
        | inl e ↦ ap next e ∙ sym next_too ∙ ap next' (sym e)
        | inr differs ↦ sym (same.nexts other differs)
      ] in
      subst (λ (links : (ℕ → Bool) × (ℕ → Option ℕ)). IsOpenList links.0 links.1 count first) (λ i. (λ other. opens other i, λ other. nexts other i)) is

  -- the partition is put in front of the list, as it is open from now on
  pub put_first : (count : ℕ) (first : Option ℕ) → is_open at ≡ false → is_open' at ≡ true → next' at ≡ first → IsOpenList is_open next count first → IsOpenList is_open' next' (suc count) (Some at)
  put_first count first closed opened names is =
      (opened, subst (λ (rest : Option ℕ). IsOpenList is_open' next' count rest) (sym names) (keep_closed count first closed is))
