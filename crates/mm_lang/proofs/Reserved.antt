-- The reserved words of so many letters.
use Rattle.std.proofs.Common.{◌≡◌, ◌∙◌, ℕ, Bool, true, false, cond, ◌||◌, List, [], ◌∷◌, length, nat_eq, ap, refl, subst, arith}
use Rattle.std.proofs.lemmas.Grind.{common_steps}
use Rattle.std.proofs.lemmas.Bool.Decides.{nat_tests}
use Rattle.std.proofs.lemmas.Slice.Eq.{bytes_eq-Decides}
use Rattle.std.specs.List.{list_any}
use Rattle.std.specs.Str.{bytes_eq}
use Rattle.plain_tables.specs.Names.{is_reserved, reserved_words}

-- those of some words that have so many letters
abbrev pub of_length : ℕ → List (List ℕ) → List (List ℕ)
of_length n [] = []
of_length n (w ∷ ws) = cond (nat_eq n (length w)) (w ∷ of_length n ws) (of_length n ws)

differs : (word w : List ℕ) → nat_eq (length word) (length w) ≡ false → bytes_eq word w ≡ false
differs word w other = grind (arith, common_steps, nat_tests, bytes_eq-Decides)

by_length : (b : Bool) (word w : List ℕ) (ws : List (List ℕ)) → nat_eq (length word) (length w) ≡ b → list_any (bytes_eq word) ws ≡ list_any (bytes_eq word) (of_length (length word) ws)
    → list_any (bytes_eq word) (w ∷ ws) ≡ list_any (bytes_eq word) (cond b (w ∷ of_length (length word) ws) (of_length (length word) ws))
by_length true word w ws same rest = ap (λ r. bytes_eq word w || r) rest
by_length false word w ws other rest = ap (λ r. r || list_any (bytes_eq word) ws) (differs word w other) ∙ rest

any_of_length : (word : List ℕ) (ws : List (List ℕ)) → list_any (bytes_eq word) ws ≡ list_any (bytes_eq word) (of_length (length word) ws)
any_of_length word [] = refl
any_of_length word (w ∷ ws) = by_length (nat_eq (length word) (length w)) word w ws refl (any_of_length word ws)

-- A word is reserved if it is one of those that have as many letters.
pub reserved_of_length : (word : List ℕ) (n : ℕ) → length word ≡ n → is_reserved word ≡ list_any (bytes_eq word) (of_length n reserved_words)
reserved_of_length word n long = subst (λ k. is_reserved word ≡ list_any (bytes_eq word) (of_length k reserved_words)) long (any_of_length word reserved_words)
