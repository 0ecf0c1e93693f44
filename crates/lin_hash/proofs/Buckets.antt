-- Each entry stays in the bucket of its hash.
use Rattle.std.proofs.Common.{◌≡◌, ◌≢◌, ℕ, ◌+◌, ◌*◌, ◌%◌, ◌<◌, ◌≤◌, not, cond, ◌==◌, inl, inr, List, [], ◌∷◌, ◌++◌, length, get_or, set, refl, sym, ◌∙◌, arith}
use Rattle.std.specs.List.{All, count_by}
use Rattle.std.proofs.lemmas.List.{get_or-set_same, get_or-set_other, length-set, get_or_append_left, length-append}
use Rattle.std.proofs.lemmas.List.Elements.{All-head, All-tail, All-cons, All-same, All-append}
use Rattle.std.proofs.Math.Seq.{get_or-append_seam}
use Rattle.std.proofs.lemmas.List.Sums.{get_or-le-sum_by}
use Rattle.std.proofs.lemmas.Bool.{cases_lt, eq-eqb, cases_eq}
use Rattle.std.proofs.lemmas.Bool.Decides.{eqb_tells}
use Rattle.common_lemmas.proofs.Elements.{All-append_parts}
use Rattle.mm_index.specs.Bag.{IsSameBag}
use Rattle.lin_hash.specs.Address.{bucket_by, IsPlaced}
use Rattle.mm_index.proofs.Bags.{IsSameBag-sym}
use Rattle.lin_hash.proofs.Addresses.{bucket_by-kept, bucket_by-moved, bucket_by-next, bucket_by-at, bucket_by-at_next, short-from_next, bucket_by-up}
use Rattle.lin_hash.proofs.Moves.{count_by-cons}

-- 1 for a number that is another one
abbrev miss : ℕ → ℕ → ℕ
miss i m = cond (not (m == i)) 1 0

miss-same : (i m : ℕ) → m ≡ i → miss i m ≡ 0
miss-same i m e = rw (eq-eqb m i e) refl

same-from_miss : (i m : ℕ) → miss i m ≡ 0 → m ≡ i
same-from_miss i m e = elim (eqb_tells m i) [ inl same ↦ same.1 | inr other ↦ let one : miss i m ≡ 1 = rw other.0 refl in absurd (omega arith) ]

-- what holds of all elements of a bag holds in each order of it
module _ {A : Type 0} (n : A → ℕ) (i : ℕ) where
  none_elsewhere : (xs : List A) → All (λ e. n e ≡ i) xs → count_by (λ e. not (n e == i)) xs ≡ 0
  none_elsewhere [] h = refl
  none_elsewhere (x ∷ xs) h =
      let rest = none_elsewhere xs (All-tail (λ e. n e ≡ i) x xs h) in
      let here = miss-same i (n x) (All-head (λ e. n e ≡ i) x xs h) in
      omega (arith, rest, here, count_by-cons (λ e. not (n e == i)) x xs)

  pub All-same_bag : (xs ys : List A) → IsSameBag xs ys → All (λ e. n e ≡ i) xs → All (λ e. n e ≡ i) ys
  All-same_bag xs ys bag h = λ k d inside.
      let at : miss i (n (get_or ys k d)) ≤ count_by (λ e. not (n e == i)) ys = get_or-le-sum_by (λ e. miss i (n e)) ys k d inside in
      let none = sym (bag.count (λ e. not (n e == i))) ∙ none_elsewhere xs h in
      same-from_miss i (n (get_or ys k d)) (omega (arith, at, none))

-- one bucket is replaced
pub IsPlaced-set : {A : Type 0} (short mark : ℕ) (bs : List (List (ℕ × A))) (i : ℕ) (new : List (ℕ × A)) → i < length bs → IsPlaced short mark bs → All (λ e. bucket_by short mark e.0 ≡ i) new → IsPlaced short mark (set bs i new)
IsPlaced-set {A} short mark bs i new inside placed h = record {
  at = λ k within.
      elim (cases_eq k i) [
        | inl same ↦
            All-same (λ e. bucket_by short mark e.0 ≡ k) (get_or (set bs i new) k []) new (rw same (get_or-set_same bs i new [] inside))
            (rw same h)
        | inr apart ↦
            All-same (λ e. bucket_by short mark e.0 ≡ k) (get_or (set bs i new) k []) (get_or bs k []) (get_or-set_other bs i k new [] apart)
            (placed.at k (rw length-set at within))
      ];
}

module _ {A : Type 0} (short mark : ℕ) (bs : List (List (ℕ × A))) (placed : IsPlaced short mark bs) where
  pub IsPlaced-added : (e : ℕ × A) (i : ℕ) (new : List (ℕ × A)) → i < length bs → bucket_by short mark e.0 ≡ i → new ≡ e ∷ get_or bs i [] → IsPlaced short mark (set bs i new)
  IsPlaced-added e i new inside here is =
      IsPlaced-set short mark bs i new inside placed
      (All-same (λ d. bucket_by short mark d.0 ≡ i) new (e ∷ get_or bs i []) is
      (All-cons (λ d. bucket_by short mark d.0 ≡ i) e (get_or bs i []) here (placed.at i inside)))

  pub IsPlaced-taken : (e : ℕ × A) (i : ℕ) (new : List (ℕ × A)) → i < length bs → IsSameBag (get_or bs i []) (e ∷ new) → IsPlaced short mark (set bs i new)
  IsPlaced-taken e i new inside bag =
      IsPlaced-set short mark bs i new inside placed
      (All-tail (λ d. bucket_by short mark d.0 ≡ i) e new
      (All-same_bag (λ d. bucket_by short mark d.0) i (get_or bs i []) (e ∷ new) bag (placed.at i inside)))

-- a list of buckets and one more at the end
pub IsPlaced-push : {A : Type 0} (short mark : ℕ) (bs : List (List (ℕ × A))) (last : List (ℕ × A)) → IsPlaced short mark bs → All (λ e. bucket_by short mark e.0 ≡ length bs) last → IsPlaced short mark (bs ++ last ∷ [])
IsPlaced-push {A} short mark bs last placed h = record {
  at = λ k within.
      let longer : length (bs ++ last ∷ []) ≡ length bs + 1 = length-append bs (last ∷ []) in
      elim (cases_lt k (length bs)) [
        | inl below ↦
            All-same (λ e. bucket_by short mark e.0 ≡ k) (get_or (bs ++ last ∷ []) k []) (get_or bs k []) (get_or_append_left bs (last ∷ []) [] k below)
            (placed.at k below)
        | inr from ↦
            let same : k ≡ length bs = omega arith in
            rw same (All-same (λ e. bucket_by short mark e.0 ≡ length bs) (get_or (bs ++ last ∷ []) (length bs) []) last (get_or-append_seam bs last [] []) h)
      ];
}

pub IsPlaced-front : {A : Type 0} (short mark : ℕ) (bs : List (List (ℕ × A))) (last : List (ℕ × A)) → IsPlaced short mark (bs ++ last ∷ []) → IsPlaced short mark bs
IsPlaced-front short mark bs last placed = record {
  at = λ k within.
      let longer : length (bs ++ last ∷ []) ≡ length bs + 1 = length-append bs (last ∷ []) in
      All-same (λ e. bucket_by short mark e.0 ≡ k) (get_or bs k []) (get_or (bs ++ last ∷ []) k []) (sym (get_or_append_left bs (last ∷ []) [] k within))
      (placed.at k (omega arith));
}

-- where all buckets were split, the next level begins
pub IsPlaced-up : {A : Type 0} (short : ℕ) (bs : List (List (ℕ × A))) → 0 < short → IsPlaced short short bs → IsPlaced (2 * short) 0 bs
IsPlaced-up short bs pos placed = record { at = λ i within k d l. sym (bucket_by-up short _ pos) ∙ placed.at i within k d l }

pub IsPlaced-down : {A : Type 0} (short : ℕ) (bs : List (List (ℕ × A))) → 0 < short → IsPlaced (2 * short) 0 bs → IsPlaced short short bs
IsPlaced-down short bs pos placed = record { at = λ i within k d l. bucket_by-up short _ pos ∙ placed.at i within k d l }

module _ {A : Type 0} (short mark : ℕ) (bs : List (List (ℕ × A))) (pos : 0 < short) (within : mark < short) where
  -- the buckets but that at the mark are the same before and after a split
  moved_on : IsPlaced short mark bs → length bs ≡ short + mark → (i : ℕ) → i < length bs → i ≢ mark → All (λ e. bucket_by short (mark + 1) e.0 ≡ i) (get_or bs i [])
  moved_on placed number i inside apart = λ k d l.
      let here = placed.at i inside k d l in
      bucket_by-next short mark _ pos within (λ e. apart (sym here ∙ bucket_by-at short mark _ pos within e)) ∙ here

  pub IsPlaced-split : (kept moved : List (ℕ × A)) → IsPlaced short mark bs → length bs ≡ short + mark → IsSameBag (get_or bs mark []) (kept ++ moved) → All (λ e. e.0 % (2 * short) ≢ short + mark) kept → All (λ e. e.0 % (2 * short) ≡ short + mark) moved → IsPlaced short (mark + 1) (set bs mark kept ++ moved ∷ [])
  IsPlaced-split kept moved placed number bag stays goes =
      let inside : mark < length bs = omega arith in
      let were : All (λ e. bucket_by short mark e.0 ≡ mark) (kept ++ moved) =
      All-same_bag (λ e. bucket_by short mark e.0) mark (get_or bs mark []) (kept ++ moved) bag (placed.at mark inside) in
      let kept_were : All (λ e. bucket_by short mark e.0 ≡ mark) kept = (All-append_parts (λ e. bucket_by short mark e.0 ≡ mark) kept moved were).0 in
      let left : IsPlaced short (mark + 1) (set bs mark kept) = record {
        at = λ i in_set.
            elim (cases_eq i mark) [
              | inl same ↦
                  All-same (λ e. bucket_by short (mark + 1) e.0 ≡ i) (get_or (set bs mark kept) i []) kept (rw same (get_or-set_same bs mark kept [] inside))
                  (rw same (λ k d l. bucket_by-kept short mark _ pos within (kept_were k d l) (stays k d l)))
              | inr apart ↦
                  All-same (λ e. bucket_by short (mark + 1) e.0 ≡ i) (get_or (set bs mark kept) i []) (get_or bs i []) (get_or-set_other bs mark i kept [] apart)
                  (moved_on placed number i (rw length-set at in_set) apart)
            ];
      } in
      let long : length (set bs mark kept) ≡ short + mark = length-set bs mark kept ∙ number in
      IsPlaced-push short (mark + 1) (set bs mark kept) moved left (rw long (λ k d l. bucket_by-moved short mark _ pos within (goes k d l)))

  -- the last split is undone
  pub IsPlaced-fold : (last new : List (ℕ × A)) → IsPlaced short (mark + 1) (bs ++ last ∷ []) → length bs ≡ short + mark → IsSameBag new (last ++ get_or bs mark []) → IsPlaced short mark (set bs mark new)
  IsPlaced-fold last new placed number bag =
      let inside : mark < length bs = omega arith in
      let front = IsPlaced-front short (mark + 1) bs last placed in
      let longer : length (bs ++ last ∷ []) ≡ length bs + 1 = length-append bs (last ∷ []) in
      let at_last : All (λ e. bucket_by short (mark + 1) e.0 ≡ length bs) last =
      All-same (λ e. bucket_by short (mark + 1) e.0 ≡ length bs) last (get_or (bs ++ last ∷ []) (length bs) []) (sym (get_or-append_seam bs last [] []))
      (placed.at (length bs) (omega arith)) in
      let back : All (λ e. bucket_by short mark e.0 ≡ mark) (last ++ get_or bs mark []) =
      All-append (λ e. bucket_by short mark e.0 ≡ mark) last (get_or bs mark [])
      (λ k d l. bucket_by-at short mark _ pos within (short-from_next short mark _ pos within (inr (at_last k d l ∙ number))))
      (λ k d l. bucket_by-at short mark _ pos within (short-from_next short mark _ pos within (inl (front.at mark inside k d l)))) in
      let new_here = All-same_bag (λ e. bucket_by short mark e.0) mark (last ++ get_or bs mark []) new (IsSameBag-sym bag) back in
      record {
        at = λ i in_set.
            elim (cases_eq i mark) [
              | inl same ↦
                  All-same (λ e. bucket_by short mark e.0 ≡ i) (get_or (set bs mark new) i []) new (rw same (get_or-set_same bs mark new [] inside))
                  (rw same new_here)
              | inr apart ↦
                  let was_in : i < length bs = rw length-set at in_set in
                  All-same (λ e. bucket_by short mark e.0 ≡ i) (get_or (set bs mark new) i []) (get_or bs i []) (get_or-set_other bs mark i new [] apart)
                  (λ k d l.
                  let there = front.at i was_in k d l in
                  sym (bucket_by-next short mark _ pos within (λ e. elim (bucket_by-at_next short mark _ pos within e) [
                    | inl low ↦ apart (sym there ∙ low)
                    | inr high ↦ absurd (let far : i ≡ short + mark = sym there ∙ high in omega arith)
                  ])) ∙ there)
            ];
      }
