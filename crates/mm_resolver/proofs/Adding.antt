-- What is asked of the values of slots, one list behind another.
use Rattle.std.proofs.Common.{◌≡◌, ℕ, ◌<◌, List, [], ◌∷◌, ◌++◌, map, take, get_or, length, Option, refl, sym, ap, subst, ◌∙◌, ◌+◌, arith, append-nil, append_assoc}
use Rattle.std.specs.Prelude.{◌||◌}
use Rattle.std.specs.List.{filter_map, zip}
use Rattle.std.proofs.lemmas.List.{map-append, take_more}
use Rattle.std.proofs.lemmas.List.Elements.{filter_map-append}
use Rattle.std.proofs.lemmas.Slice.Zip.{get_or-zip, length-zip}
use Rattle.common_lemmas.proofs.Tests.{or_false}
use Rattle.plain_tables.specs.declared.schema.Column.{Column}
use Rattle.plain_tables.specs.declared.value.Value.{Value}
use Rattle.plain_statements.specs.declared.statement.Slot.{Slot}
use Rattle.plain_statements.specs.declared.statement.Slot.TheVariants.{Given, Hole}
use Rattle.plain_statements.specs.declared.resolution.Need.{Need}
use Rattle.plain_statements.specs.Finishing.{is_wrong, is_past}
use Rattle.plain_statements.specs.Slots.{Needed, is_given, wants_of, want_of}
use Rattle.mm_resolver.specs.declared.wanted.Wanted.{Wanted}
use Rattle.mm_resolver.specs.Wanted.{IsWantedOf, Adds}
use Rattle.mm_resolver.proofs.Named.{any_more}

-- ---- one slot more

module _ (before after : Wanted) where
  -- a slot more, by what it adds to each part
  adds-one : (x : Needed) → after.wants ≡ before.wants ++ wants_of (x ∷ []) → after.given_wrong ≡ (before.given_wrong || is_given is_wrong x)
      → after.given_past ≡ (before.given_past || is_given is_past x) → Adds (x ∷ []) before after
  adds-one x wants wrong past needs h = record {
    wants = wants ∙ ap (λ ws. ws ++ wants_of (x ∷ [])) h.wants ∙ sym (filter_map-append want_of needs (x ∷ []));
    wrong = wrong ∙ ap (λ b. b || is_given is_wrong x) h.wrong ∙ sym (any_more (is_given is_wrong) needs x (is_given is_wrong x) refl);
    past = past ∙ ap (λ b. b || is_given is_past x) h.past ∙ sym (any_more (is_given is_past) needs x (is_given is_past x) refl);
  }

  -- a given value is judged
  pub adds-given : (v : Value) (need : Need) → after.wants ≡ before.wants → after.given_wrong ≡ (before.given_wrong || is_wrong v need)
      → after.given_past ≡ (before.given_past || is_past v need) → Adds ((Given v, need) ∷ []) before after
  adds-given v need wants wrong past = adds-one (Given v, need) (wants ∙ sym (append-nil before.wants)) wrong past

  -- what a value has to be that comes is kept
  pub adds-hole : (n : ℕ) (need : Need) → after.wants ≡ before.wants ++ record { hole = n; need = need } ∷ [] → after.given_wrong ≡ before.given_wrong
      → after.given_past ≡ before.given_past → Adds ((Hole n, need) ∷ []) before after
  adds-hole n need wants wrong past =
      adds-one (Hole n, need) wants (wrong ∙ sym (or_false before.given_wrong)) (past ∙ sym (or_false before.given_past))

-- ---- more of them

pub adds-none : (wanted : Wanted) → Adds [] wanted wanted
adds-none wanted needs h = subst (λ xs. IsWantedOf xs wanted) (sym (append-nil needs)) h

pub adds-both : (xs ys : List Needed) (first second third : Wanted) → Adds xs first second → Adds ys second third → Adds (xs ++ ys) first third
adds-both xs ys first second third f s needs h =
    subst (λ zs. IsWantedOf zs third) (append_assoc needs xs ys) (s (needs ++ xs) (f needs h))

-- one element more, of whose values this is asked
pub adds-more : {X : Type 0} (ask : X → Option Needed) (given : List X) (x : X) (first second third : Wanted)
    → Adds (filter_map ask given) first second → Adds (filter_map ask (x ∷ [])) second third → Adds (filter_map ask (given ++ x ∷ [])) first third
adds-more ask given x first second third f s =
    subst (λ xs. Adds xs first third) (sym (filter_map-append ask given (x ∷ [])))
    (adds-both (filter_map ask given) (filter_map ask (x ∷ [])) first second third f s)

-- ---- the values of a row

-- the pairs of two lists, with one more
pub pairs_more : {A B C : Type 0} (f : A × B → C) (xs : List A) (ys : List B) (n : ℕ) (x : A) (y : B) → n < length xs → n < length ys
    → x ≡ get_or xs n x → y ≡ get_or ys n y → map f (take (n + 1) (zip xs ys)) ≡ map f (take n (zip xs ys)) ++ f (x, y) ∷ []
pairs_more f xs ys n x y within also at there =
    let inside : n < length (zip xs ys) = omega (arith, length-zip xs ys) in
    ap (map f) (take_more (zip xs ys) n (x, y) inside)
    ∙ map-append f (take n (zip xs ys)) (get_or (zip xs ys) n (x, y) ∷ [])
    ∙ ap (λ p. map f (take n (zip xs ys)) ++ f p ∷ []) (get_or-zip xs ys n (x, y) within also)
    ∙ ap (λ a. map f (take n (zip xs ys)) ++ f (a, get_or ys n y) ∷ []) (sym at)
    ∙ ap (λ b. map f (take n (zip xs ys)) ++ f (x, b) ∷ []) (sym there)

-- a value of a row, seen as a slot, and what it has to be
abbrev pub asked-of : {B : Type 0} (seen : B → Slot) (need : Column → Need) → Column × B → Needed
asked-of seen need p = (seen p.1, need p.0)

-- the values of a row, each seen as a slot
pub zip-seen : {B : Type 0} (seen : B → Slot) (need : Column → Need) (xs : List Column) (ys : List B)
    → map (λ (p : Column × Slot). (p.1, need p.0)) (zip xs (map seen ys)) ≡ map (asked-of seen need) (zip xs ys)
zip-seen seen need [] ys = refl
zip-seen seen need (x ∷ xs) [] = refl
zip-seen seen need (x ∷ xs) (y ∷ ys) = ap (λ (rest : List Needed). (seen y, need x) ∷ rest) (zip-seen seen need xs ys)
