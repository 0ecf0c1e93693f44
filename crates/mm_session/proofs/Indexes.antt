-- What is told of the indexes of a table, where one more is told.
use Rattle.std.proofs.Common.{◌≡◌, ℕ, ◌<◌, List, [], ◌∷◌, ◌++◌, Option, Some, None, inl, inr, length, get_or, refl, sym, ap, ◌∙◌, subst, arith, append_assoc}
use Rattle.std.specs.List.{flat_map}
use Rattle.std.specs.Option.{option_map}
use Rattle.std.proofs.lemmas.Bool.{cases_lt}
use Rattle.std.proofs.lemmas.Grind.{flat_map-append}
use Rattle.std.proofs.lemmas.List.{append-nil, length-append, get_or_append_left}
use Rattle.std.proofs.Math.Seq.{get_or-append_seam}
use Rattle.mm_catalog.specs.Indexes.{TellsIndex}
use Rattle.mm_catalog.specs.State.{CatalogState}
use Rattle.mm_catalog.specs.declared.indexes.TableIndex.{TableIndex}

module _ (c : CatalogState) (table : ℕ) (told : List TableIndex) (x : TableIndex) where
  pub told_more : ((k : ℕ) (d : TableIndex) → k < length told → TellsIndex c table k (get_or told k d)) → TellsIndex c table (length told) x
      → (k : ℕ) (d : TableIndex) → k < length (told ++ x ∷ []) → TellsIndex c table k (get_or (told ++ x ∷ []) k d)
  told_more each more k d within =
      let longer = length-append told (x ∷ []) in
      elim (cases_lt k (length told)) [
        | inl below ↦ subst (TellsIndex c table k) (sym (get_or_append_left told (x ∷ []) d k below)) (each k d below)
        | inr from ↦
            let last : k ≡ length told = omega (arith, longer, within) in
            rw last (subst (TellsIndex c table (length told)) (sym (get_or-append_seam told x [] d)) more)
      ]

-- a record more
pub records_more : {A B : Type 0} (f : A → List B) (before after now : List B) (xs : List A) (x : A) → before ≡ now ++ flat_map f xs → after ≡ before ++ f x
    → after ≡ now ++ flat_map f (xs ++ x ∷ [])
records_more f before after now xs x was added =
    added ∙ ap (λ text. text ++ f x) was ∙ append_assoc now (flat_map f xs) (f x)
    ∙ ap (λ text. now ++ (flat_map f xs ++ text)) (sym (append-nil (f x))) ∙ ap (λ text. now ++ text) (sym (flat_map-append f xs (x ∷ [])))

-- where no table has a number, none has a place
pub no_place : {X : Type 0} (number : ℕ → X) (place : Option ℕ) → option_map number place ≡ None → place ≡ None
no_place number None is = refl
no_place number (Some n) is = absurd (cc)
