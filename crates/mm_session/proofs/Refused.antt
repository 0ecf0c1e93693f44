-- The number that a refusal's text begins with.
use Rattle.std.proofs.Common.{◌≡◌, ℕ, List, [], ◌∷◌, ◌++◌, refl, sym, ap, ◌∙◌, append-nil, arith, get_or}
use Rattle.std.specs.Fmt.{digits}
use Rattle.std.specs.Prelude.{◌+◌, ◌-◌, ◌*◌, ◌/◌, ◌%◌, decimal}
use lib.Chars.{codes}
use Rattle.plain_tables.specs.AnswerText.{answer_text, refusal_text, record_part}
use Rattle.plain_tables.specs.Refusals.{number_of, text_of}
use Rattle.plain_tables.specs.declared.refusal.Refusal.{Refusal}
use Rattle.plain_tables.specs.declared.refusal.Refusal.TheVariants.{LineTooLong}
use Rattle.plain_streams.proofs.Runs.{error_is_refused}
use Rattle.mm_session.specs.Refused.{TellsRefusal}

-- two digits
pub decimal-number : (r : Refusal) → decimal (number_of r) ≡ (48 + number_of r / 10) ∷ (48 + number_of r % 10) ∷ []
unfolding digits
decimal-number LineTooLong = refl
decimal-number other = refl

-- what stands behind the number
behind_number : Refusal → List ℕ → List ℕ
behind_number r more = ((codes " " ++ (text_of r ++ record_part r)) ++ 10 ∷ []) ++ more

-- the text of a refusal, and what stands behind it
refusal_text-begins : (r : Refusal) (more : List ℕ)
    → refusal_text r ++ more ≡ codes "error " ++ (48 + number_of r / 10) ∷ (48 + number_of r % 10) ∷ behind_number r more
unfolding behind_number
refusal_text-begins r more = rw (decimal-number r) refl

-- A text that begins with error tells the number of the two digits that come next.
pub tells-error : (answer words : List ℕ) (number : ℕ) → answer ≡ codes "error " ++ words
    → ((r : Refusal) (rest : List ℕ) → words ≡ (48 + number_of r / 10) ∷ (48 + number_of r % 10) ∷ rest → number ≡ number_of r)
    → TellsRefusal answer number
tells-error answer words number begins tells = record {
  refused = refused;
  unrefused = λ none. absurd (none words begins);
  outcome = λ o is.
      let (r, same) = error_is_refused o words (sym is ∙ begins) in
      rw same (refused r [] (is ∙ ap answer_text same ∙ sym (append-nil (refusal_text r))));
} where
  behind : (xs ys : List ℕ) → codes "error " ++ xs ≡ codes "error " ++ ys → xs ≡ ys
  behind xs ys e = cc

  refused : (r : Refusal) (more : List ℕ) → answer ≡ refusal_text r ++ more → number ≡ number_of r
  refused r more is = tells r (behind_number r more) (behind _ _ (sym begins ∙ is ∙ refusal_text-begins r more))

-- the number that two digits are
digits_make : (n : ℕ) → (48 + n / 10 - 48) * 10 + (48 + n % 10 - 48) ≡ n
digits_make n = omega arith

pub number-of_digits : (words : List ℕ) (r : Refusal) (rest : List ℕ) → words ≡ (48 + number_of r / 10) ∷ (48 + number_of r % 10) ∷ rest
    → (get_or words 0 0 - 48) * 10 + (get_or words 1 0 - 48) ≡ number_of r
number-of_digits words r rest is = rw is (digits_make (number_of r))
