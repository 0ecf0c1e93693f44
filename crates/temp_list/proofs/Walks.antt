-- What a walk of a list has given so far, and what it gives next.
use Rattle.std.proofs.Common.{◌≡◌, ◌∙◌, Bool, true, false, cond, List, [], ◌∷◌, ◌++◌, ap, subst, append-nil, filter}
use Rattle.std.specs.List.{All}
use Rattle.std.proofs.lemmas.List.Elements.{All-head, filter-append}
use Rattle.common_lemmas.proofs.Elements.{All-append_parts}

-- what holds of each holds of the next
pub holds_next : {A : Type 0} (P : A → Type 0) (all front rest : List A) (x : A) → all ≡ front ++ x ∷ rest → All P all → P x
holds_next P all front rest x split each = All-head P x rest (All-append_parts P front (x ∷ rest) (subst (All P) split each)).1

-- the next passes a test, or it does not
pub next_passes : {A : Type 0} (p : A → Bool) (xs : List A) (x : A) → p x ≡ true → filter p (xs ++ x ∷ []) ≡ filter p xs ++ x ∷ []
next_passes p xs x so = filter-append p xs (x ∷ []) ∙ ap (λ b. filter p xs ++ cond b (x ∷ []) []) so

pub next_fails : {A : Type 0} (p : A → Bool) (xs : List A) (x : A) → p x ≡ false → filter p (xs ++ x ∷ []) ≡ filter p xs
next_fails p xs x so = filter-append p xs (x ∷ []) ∙ ap (λ b. filter p xs ++ cond b (x ∷ []) []) so ∙ append-nil (filter p xs)
