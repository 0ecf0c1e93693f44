-- Which refusal an answer tells.
use Rattle.std.specs.Prelude.{◌≡◌, ◌≢◌, ℕ, List, ◌++◌}
use lib.Chars.{codes}
use Rattle.plain_tables.specs.Effects.{Outcome, Done, Changed, Rows, Dumped, Listed, Refused}
use Rattle.plain_tables.specs.Refusals.{number_of}
use Rattle.plain_tables.specs.AnswerText.{answer_text, refusal_text}
use Rattle.plain_tables.specs.declared.refusal.Refusal.{Refusal}

-- the number of the refusal that an outcome is, or 0
abbrev pub refusal_number : Outcome → ℕ
refusal_number (Refused r) = number_of r
refusal_number Done = 0
refusal_number (Changed n) = 0
refusal_number (Rows names rows) = 0
refusal_number (Dumped name block) = 0
refusal_number (Listed tables) = 0

-- An answer that begins with the text of a refusal tells its number. One that doesn't begin with error tells 0. And so the
-- answer to an outcome tells whether that is a refusal, and which.
pub record TellsRefusal (answer : List ℕ) (number : ℕ) : Type 0 where
  pub refused : (r : Refusal) (more : List ℕ) → answer ≡ refusal_text r ++ more → number ≡ number_of r
  pub unrefused : ((words : List ℕ) → answer ≢ codes "error " ++ words) → number ≡ 0
  pub outcome : (o : Outcome) → answer ≡ answer_text o → number ≡ refusal_number o
