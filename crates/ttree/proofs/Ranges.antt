-- A range, by the references that a walk yields.
use Rattle.std.proofs.lemmas.Bool.{false≢true}
use Rattle.common_lemmas.proofs.Orders.{Greater-from_neither}
use Rattle.std.proofs.Common.{◌≡◌, ◌≢◌, ◌+◌, ◌<◌, true, List, [], ◌∷◌, ◌++◌, length, get_or, refl, sym, ap, subst, ◌∙◌, cond, arith, Ordering}
use Rattle.std.specs.List.{All, filter}
use Rattle.std.specs.declared.cmp.Ordering.TheVariants.{Less, Equal, Greater}
use Rattle.std.specs.Ordering.{is_eq, is_ge}
use Rattle.std.proofs.lemmas.List.{get_or-append-add, length-append}
use Rattle.std.proofs.lemmas.List.Elements.{All-nil, All-filter, filter_passes}
use Rattle.std.proofs.lemmas.List.Kept.{IsNonDecreasingBy-filter}
use Rattle.std.specs.Ordering.{ordering_index}
use Rattle.mm_index.specs.Range.{NeverFalls, in_range, from_range}
use Rattle.common_lemmas.proofs.Filters.{filter_first}
use Rattle.ttree.proofs.Cuts.{above_begin}

module _ {A : Type 0} (place : A → Ordering) where
  once : (o : Ordering) (x : A) (ys zs : List A) → filter (λ r. is_eq (place r)) ys ≡ zs → place x ≡ o
      → filter (λ r. is_eq (place r)) (cond (is_ge o) (x ∷ ys) ys) ≡ cond (is_eq o) (x ∷ zs) zs
  once Less x ys zs e p = e
  once Equal x ys zs e p = rw (p, e) refl
  once Greater x ys zs e p = rw (p, e) refl

  -- what is in the range is not below it
  in_range_from : (xs : List A) → in_range place (from_range place xs) ≡ in_range place xs
  in_range_from [] = refl
  in_range_from (x ∷ xs) = once (place x) x (from_range place xs) (in_range place xs) (in_range_from xs) refl

  not_below : (o : Ordering) → is_ge o ≡ true → o ≢ Less
  not_below o h e = false≢true (sym (ap is_ge e) ∙ h)

  module _ (xs ys zs : List A) (split : from_range place xs ≡ ys ++ zs) where
    -- an element that is not below the range
    pub All-left : (P : A → Type 0) → All P xs → (d : A) → 0 < length zs → P (get_or zs 0 d)
    All-left P h d s =
        let all : All P (ys ++ zs) = subst (λ (ws : List A). All P ws) split (All-filter (λ r. is_ge (place r)) P xs h) in
        subst P (get_or-append-add ys zs 0 d) (all (length ys + 0) d (omega (arith, length-append ys zs)))

    rest_above : NeverFalls place xs → (d : A) → 0 < length zs → place (get_or zs 0 d) ≢ Equal → All (λ r. place r ≡ Greater) zs
    rest_above in_order d s n =
        let order : NeverFalls place (ys ++ zs) =
        subst (λ (ws : List A). NeverFalls place ws) split (IsNonDecreasingBy-filter (λ r. ordering_index (place r)) (λ r. is_ge (place r)) xs in_order) in
        let pass : All (λ r. is_ge (place r) ≡ true) (ys ++ zs) = subst (λ (ws : List A). All (λ r. is_ge (place r) ≡ true) ws) split (filter_passes (λ r. is_ge (place r)) xs) in
        let first : is_ge (place (get_or zs 0 d)) ≡ true = subst (λ (x : A). is_ge (place x) ≡ true) (get_or-append-add ys zs 0 d) (pass (length ys + 0) d (omega (arith, length-append ys zs))) in
        above_begin place ys zs order d s (Greater-from_neither (place (get_or zs 0 d)) (not_below (place (get_or zs 0 d)) first) n)

    ended : All (λ r. place r ≡ Equal) ys → All (λ r. place r ≡ Greater) zs → in_range place xs ≡ ys
    ended equal above =
        sym (in_range_from xs) ∙ ap (in_range place) split
        ∙ filter_first (λ r. is_eq (place r)) ys zs (λ k d l. ap is_eq (equal k d l)) (λ k d l. ap is_eq (above k d l))

    -- the range is what was yielded, where the next is not in it
    pub in_range_before : NeverFalls place xs → All (λ r. place r ≡ Equal) ys → (d : A) → 0 < length zs → place (get_or zs 0 d) ≢ Equal → in_range place xs ≡ ys
    in_range_before in_order equal d s n = ended equal (rest_above in_order d s n)

  -- or where there is none
  pub in_range_all : (xs ys : List A) → from_range place xs ≡ ys ++ [] → All (λ r. place r ≡ Equal) ys → in_range place xs ≡ ys
  in_range_all xs ys split equal = ended xs ys [] split equal (All-nil (λ r. place r ≡ Greater))
