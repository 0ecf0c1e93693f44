-- A loop that changes each element of a list in turn.
use Rattle.std.proofs.Common.{◌≡◌, ◌≢◌, ◌≤◌, ap, ◌<◌, ◌+◌, ℕ, suc, List, [], ◌∷◌, map, refl, sym, ◌∙◌, arith, subst, length, get_or, inl, inr, get_or-set_same, get_or-set_other}
use Rattle.std.proofs.Math.ListN.{set}
use Rattle.std.proofs.Math.Seq.{take-append_seam}
use Rattle.std.specs.List.{All, refill}
use Rattle.std.proofs.Common.{drop}
use Rattle.std.proofs.lemmas.List.{get_or_default}
use Rattle.std.proofs.lemmas.Bool.{cases_order}
use Rattle.mm_relation.specs.declared.index.IndexOn.{IndexOn}
use Rattle.mm_relation.specs.Indexes.{Each, Indexes}

-- The elements before this place have changed so, and the others stand as they stood.
pub record AreChanged {A : Type 0} (P : A → A → Type 0) (old now : List A) (i : ℕ) : Type 0 where
  pub done : (k : ℕ) (d : A) → k < i → P (get_or old k d) (get_or now k d)
  pub left : (k : ℕ) (d : A) → i ≤ k → get_or now k d ≡ get_or old k d

module _ {A : Type 0} {P : A → A → Type 0} {old now : List A} {i : ℕ} (so_far : AreChanged P old now i) (d : A) (inside : i < length old) where
  -- what held of each element holds of the next one to change
  pub still_holds : (Q : A → Type 0) → All Q old → Q (get_or now i d)
  still_holds Q all = subst Q (sym (so_far.left i d (omega arith))) (all i d inside)

  -- one element more
  pub changed_more : (x : A) → i < length now → P (get_or now i d) x → AreChanged P old (set now i x) (i + 1)
  changed_more x within here = record {
    done = λ k e l. elim (cases_order k i) [
      | inl same ↦ rw (same, get_or-set_same now i x e within) (subst (λ a. P a x) (so_far.left i d (omega arith) ∙ get_or_default old i d e inside) here)
      | inr (inl before) ↦ let ne : k ≢ i = omega arith in rw (get_or-set_other now i k x e ne) (so_far.done k e before)
      | inr (inr after) ↦ absurd (omega arith)
    ];
    left = λ k e l. let ne : k ≢ i = omega arith in get_or-set_other now i k x e ne ∙ so_far.left k e (omega arith);
  }

-- what holds of each element and of what it was still does once one is another
pub keeps_more : {A : Type 0} (P : A → A → Type 0) (old now : List A) (i : ℕ) (d x : A) → length now ≡ length old → i < length old → (P (get_or old i d) (get_or now i d) → P (get_or old i d) x)
    → ((k : ℕ) (e : A) → k < length old → P (get_or old k e) (get_or now k e)) → (k : ℕ) (e : A) → k < length old → P (get_or old k e) (get_or (set now i x) k e)
keeps_more P old now i d x long inside here before k e l = elim (cases_order k i) [
  | inl same ↦
      let within : i < length now = omega arith in
      rw (same, get_or-set_same now i x e within) (subst (λ a. P a x) (get_or_default old i d e inside) (here (before i d inside)))
  | inr (inl less) ↦ let ne : k ≢ i = omega arith in rw (get_or-set_other now i k x e ne) (before k e l)
  | inr (inr more) ↦ let ne : k ≢ i = omega arith in rw (get_or-set_other now i k x e ne) (before k e l)
]

-- lists that look alike at each place through a map
pub same_mapped : {A B : Type 0} (f : A → B) (old new : List A) → length new ≡ length old → ((k : ℕ) (d : A) → k < length old → f (get_or new k d) ≡ f (get_or old k d)) → map f new ≡ map f old
same_mapped f [] [] n each = refl
same_mapped f (x ∷ xs) (y ∷ ys) n each =
    let first : f y ≡ f x = each 0 x (omega arith) in
    let rest : map f ys ≡ map f xs = same_mapped f xs ys (omega arith) (λ k d l. each (suc k) d (omega arith)) in
    λ i. first i ∷ rest i
same_mapped f old new n each = absurd (omega arith)

-- a list that was lent whole ends as what was written
refilled : {A : Type 0} (xs ws : List A) → length ws ≡ length xs → refill (length xs) xs ws ≡ ws
refilled xs ws same = rw (← same) (take-append_seam ws (drop (length ws) xs))

-- each index of a list that was lent whole has changed
pub each_changed : (P : IndexOn → IndexOn → Type 0) (old lent new : Indexes) → lent ≡ old → length new ≡ length lent → ((k : ℕ) (d : IndexOn) → k < length lent → P (get_or lent k d) (get_or new k d)) → Each P old (refill (length old) old new)
each_changed P old lent new same long each =
    let count : length new ≡ length old = long ∙ ap length same in
    let whole = refilled old new count in
    record { count = ap length whole ∙ count; at = rw whole (rw same at each) }

-- and looks as it did
pub each_alike : {A B : Type 0} (f : A → B) (old lent new : List A) → lent ≡ old → length new ≡ length lent → ((k : ℕ) (d : A) → k < length lent → f (get_or new k d) ≡ f (get_or lent k d)) → map f (refill (length old) old new) ≡ map f old
each_alike f old lent new same long each =
    let count : length new ≡ length old = long ∙ ap length same in
    ap (map f) (refilled old new count) ∙ same_mapped f old new count (rw same at each)

-- and what held of each still does
pub each_keeps : {A : Type 0} (Q : A → Type 0) (old lent new : List A) → lent ≡ old → length new ≡ length lent → ((k : ℕ) (d : A) → k < length lent → Q (get_or lent k d) → Q (get_or new k d)) → All Q old → All Q (refill (length old) old new)
each_keeps Q old lent new same long each all =
    let count : length new ≡ length old = long ∙ ap length same in
    rw (refilled old new count) (λ k d l. let inside : k < length old = omega (arith, l, count) in (rw same at each) k d inside (all k d inside))
