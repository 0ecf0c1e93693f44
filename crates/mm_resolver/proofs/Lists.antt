-- What a list's elements mean, where some may mean nothing, and the first that passes a test.
use Rattle.std.proofs.Common.{◌≡◌, ℕ, suc, ◌<◌, ◌≤◌, Bool, true, false, cond, ltb, List, [], ◌∷◌, length, Option, Some, None, is_some, refl, sym, ap, ◌∙◌, position, arith, inl, inr}
use Rattle.std.specs.Prelude.{not, ◌||◌}
use Rattle.std.specs.List.{find, position_or_len, list_any, filter_map, cons_option}
use Rattle.std.proofs.lemmas.Bool.{ltb-false, cases_Bool, false≢true}
use Rattle.std.proofs.lemmas.List.Folds.{find_at}
use Rattle.std.proofs.lemmas.Option.{slice_get_past, cond_some}
use Rattle.common_lemmas.proofs.Maps.{length-filter_map_within}
use Rattle.common_lemmas.proofs.Places.{slice_get-inside}
use Rattle.common_lemmas.proofs.Tests.{position_found}

-- ---- the first that passes

-- the place that `position` gives is the place
pub position_or_len-position : {X : Type 0} (p : X → Bool) (xs : List X) (i : ℕ) → position p xs ≡ Some i → position_or_len p xs ≡ i
position_or_len-position p xs i h = (cond_some (ltb (position_or_len p xs) (length xs)) (position_or_len p xs) i h).1

none-past : (b : Bool) (i n : ℕ) → ltb i n ≡ b → cond b (Some i) None ≡ None → n ≤ i
none-past true i n below h = cc
none-past false i n above h = ltb-false i n above

pub none_found : {X : Type 0} (p : X → Bool) (xs : List X) → position p xs ≡ None → find p xs ≡ None
none_found p xs h =
    find_at p xs ∙ slice_get_past xs (position_or_len p xs) (none-past (ltb (position_or_len p xs) (length xs)) (position_or_len p xs) (length xs) refl h)

-- one is found where one has a place
pub is_some-found : {X : Type 0} (p : X → Bool) (xs : List X) → is_some (find p xs) ≡ is_some (position p xs)
is_some-found p xs = by (position p xs) refl
  where
    by : (o : Option ℕ) → position p xs ≡ o → is_some (find p xs) ≡ is_some o
    by None e = ap is_some (none_found p xs e)
    by (Some i) e = let (within, found) = position_found p xs i e in ap is_some (found ∙ (slice_get-inside xs i within).1)

-- ---- what is left out

module _ {X Y : Type 0} (f : X → Option Y) where
  -- whether one of them means nothing
  abbrev pub leaves_out : List X → Bool
  leaves_out xs = list_any (λ x. not (is_some (f x))) xs

  pub length-made : (xs : List X) → leaves_out xs ≡ false → length (filter_map f xs) ≡ length xs
  length-made [] h = refl
  length-made (x ∷ xs) h =
      elim (f x) as (λ o. (not (is_some o) || leaves_out xs) ≡ false → length (cons_option o (filter_map f xs)) ≡ suc (length xs)) [
        | None ↦ λ e. absurd (false≢true (sym e))
        | Some y ↦ λ e. ap suc (length-made xs e)
      ] h

  fewer : (xs : List X) → leaves_out xs ≡ true → length (filter_map f xs) < length xs
  fewer [] h = absurd (false≢true h)
  fewer (x ∷ xs) h =
      let rest = length-filter_map_within f xs in
      elim (f x) as (λ o. (not (is_some o) || leaves_out xs) ≡ true → length (cons_option o (filter_map f xs)) < suc (length xs)) [
        | None ↦ λ e. omega arith
        | Some y ↦ λ e. let less = fewer xs e in omega arith
      ] h

  pub left_out : (xs : List X) → length (filter_map f xs) < length xs → leaves_out xs ≡ true
  left_out xs less = elim (cases_Bool (leaves_out xs)) [
    | inl some ↦ some
    | inr none ↦ absurd (omega (arith, length-made xs none))
  ]

  pub none_left_out : (xs : List X) → length xs ≤ length (filter_map f xs) → leaves_out xs ≡ false
  none_left_out xs all = elim (cases_Bool (leaves_out xs)) [
    | inl some ↦ absurd (omega (arith, fewer xs some))
    | inr none ↦ none
  ]
