-- Sums over a list of which some elements change what they add.
use Rattle.std.proofs.Common.{◌≡◌, ◌≢◌, ℕ, suc, ◌+◌, ◌*◌, List, [], ◌∷◌, refl, sym, ap, ◌∙◌, subst, arith, length, inl, inr}
use Rattle.std.specs.List.{AllPairs, Contains, sum_by}
use Rattle.std.proofs.Math.Nat.{suc-mul, zero-mul}
use Rattle.std.proofs.lemmas.List.Sums.{sum_by-cons}
use Rattle.common_lemmas.proofs.Elements.{Contains-cons, Contains-cons_cases}
use Rattle.part_raw.specs.declared.tuple_ref.TupleRef.{TupleRef}
use Rattle.part_raw.proofs.Lookup.{same_or_other}

sum_same : (f g : TupleRef → ℕ) (xs : List TupleRef) → ((x : TupleRef) → Contains xs x → g x ≡ f x) → sum_by g xs ≡ sum_by f xs
sum_same f g [] same = refl
sum_same f g (x ∷ xs) same =
    let first = same x (0, omega arith, refl) in
    let rest = sum_same f g xs (λ y h. same y (Contains-cons x xs y h)) in
    omega (arith, first, rest, sum_by-cons f x xs, sum_by-cons g x xs)

not_again : (x : TupleRef) (xs : List TupleRef) → AllPairs (λ q r. q ≢ r) (x ∷ xs) → Contains xs x → ⊥
not_again x xs apart h = apart 0 (suc h.0) x (omega arith) (omega (arith, h.1)) (sym h.2)

rest_apart : (x : TupleRef) (xs : List TupleRef) → AllPairs (λ q r. q ≢ r) (x ∷ xs) → AllPairs (λ q r. q ≢ r) xs
rest_apart x xs apart i j d below within = apart (suc i) (suc j) d (omega arith) (omega arith)

-- one element adds another number
sum_one : (f g : TupleRef → ℕ) (r : TupleRef) → ((x : TupleRef) → x ≢ r → g x ≡ f x) → (xs : List TupleRef) → AllPairs (λ q r. q ≢ r) xs → Contains xs r → sum_by g xs + f r ≡ sum_by f xs + g r
sum_one f g r same [] apart h = absurd (omega (arith, h.1))
sum_one f g r same (x ∷ xs) apart h =
    let left = sum_by-cons g x xs in
    let right = sum_by-cons f x xs in
    elim (same_or_other r x) [
      | inl e ↦
          let rest = sum_same f g xs (λ y there. same y (λ is. not_again x xs apart (subst (Contains xs) (is ∙ e) there))) in
          let one : g r ≡ g x = ap g e in
          let other : f r ≡ f x = ap f e in
          omega (arith, left, right, rest, one, other)
      | inr differs ↦
          let there : Contains xs r = elim (Contains-cons_cases x xs r h) [ inl e ↦ absurd (differs e) | inr behind ↦ behind ] in
          let rest = sum_one f g r same xs (rest_apart x xs apart) there in
          let one = same x (λ e. differs (sym e)) in
          omega (arith, left, right, rest, one)
    ]

abbrev at_or : TupleRef → ℕ → (TupleRef → ℕ) → TupleRef → ℕ
at_or r n f x = elim (same_or_other x r) as (λ _. ℕ) [ inl e ↦ n | inr other ↦ f x ]

at_itself : (r : TupleRef) (n : ℕ) (f : TupleRef → ℕ) → at_or r n f r ≡ n
at_itself r n f = elim (same_or_other r r) as (λ o. elim o as (λ _. ℕ) [ inl e ↦ n | inr other ↦ f r ] ≡ n) [
  | inl e ↦ refl
  | inr other ↦ absurd (other refl)
]

at_other : (r : TupleRef) (n : ℕ) (f : TupleRef → ℕ) (x : TupleRef) → x ≢ r → at_or r n f x ≡ f x
at_other r n f x differs = elim (same_or_other x r) as (λ o. elim o as (λ _. ℕ) [ inl e ↦ n | inr other ↦ f x ] ≡ f x) [
  | inl e ↦ absurd (differs e)
  | inr other ↦ refl
]

-- the elements of a second list add other numbers
pub sum_changed : (f g : TupleRef → ℕ) (xs rs : List TupleRef) → AllPairs (λ q r. q ≢ r) xs → AllPairs (λ q r. q ≢ r) rs → ((r : TupleRef) → Contains rs r → Contains xs r) → ((x : TupleRef) → (Contains rs x → ⊥) → g x ≡ f x) → sum_by g xs + sum_by f rs ≡ sum_by f xs + sum_by g rs
sum_changed f g xs [] apart once inside same =
    let all = sum_same f g xs (λ x h. same x (λ there. absurd (omega (arith, there.1)))) in
    omega (arith, all)
sum_changed f g xs (r ∷ rs) apart once inside same =
    let h : TupleRef → ℕ = at_or r (g r) f in
    let here : h r ≡ g r = at_itself r (g r) f in
    let away : (x : TupleRef) → x ≢ r → h x ≡ f x = at_other r (g r) f in
    let rest = sum_changed h g xs rs apart (rest_apart r rs once) (λ q there. inside q (Contains-cons r rs q there))
    (λ x never. elim (same_or_other x r) [
      | inl e ↦ ap g e ∙ sym here ∙ ap h (sym e)
      | inr other ↦ same x (λ there. elim (Contains-cons_cases r rs x there) [ inl e ↦ other e | inr behind ↦ never behind ]) ∙ sym (away x other)
    ]) in
    let others : sum_by h rs ≡ sum_by f rs = sum_same f h rs (λ x there. away x (λ e. not_again r rs once (subst (Contains rs) e there))) in
    let one = sum_one f h r away xs apart (inside r (0, omega arith, refl)) in
    omega (arith, rest, others, one, here, sum_by-cons f r rs, sum_by-cons g r rs)

-- elements that differ by so much each
pub sum_shifted : (f g come : TupleRef → ℕ) (n : ℕ) (rs : List TupleRef) → ((r : TupleRef) → Contains rs r → g r + come r ≡ f r + n) → sum_by g rs + sum_by come rs ≡ sum_by f rs + length rs * n
sum_shifted f g come n [] each = let none : 0 * n ≡ 0 = zero-mul n in omega (arith, none)
sum_shifted f g come n (r ∷ rs) each =
    let rest = sum_shifted f g come n rs (λ q h. each q (Contains-cons r rs q h)) in
    let first = each r (0, omega arith, refl) in
    let one : suc (length rs) * n ≡ length rs * n + n = suc-mul (length rs) n in
    omega (arith, rest, first, one, sum_by-cons f r rs, sum_by-cons g r rs, sum_by-cons come r rs)
