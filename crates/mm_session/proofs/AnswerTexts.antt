-- Answers that are written out, and the effects that they answer.
use Rattle.std.proofs.Common.{◌≡◌, ℕ, ◌<◌, ◌≤◌, true, false, List, [], length, refl, sym, subst, ◌∙◌, inl, inr}
use Rattle.std.specs.Fmt.{digits}
use Rattle.std.specs.Str.{IsUtf8}
use lib.Chars.{codes}
use Rattle.plain_tables.specs.Databases.{Database}
use Rattle.plain_tables.specs.CsvReading.{Record}
use Rattle.plain_tables.specs.Effects.{Effect, Changed, refused}
use Rattle.plain_tables.specs.Commands.{effect_of}
use Rattle.plain_tables.specs.AnswerText.{answer_text, refusal_text}
use Rattle.plain_tables.specs.Spelling.{Spells}
use Rattle.plain_tables.specs.declared.command.Command.{Command}
use Rattle.plain_tables.specs.declared.command.Limits.{Limits}
use Rattle.plain_tables.specs.declared.refusal.Refusal.{Refusal}
use Rattle.plain_tables.specs.declared.refusal.Refusal.TheVariants.{LineTooLong, NotUtf8, NotACommand}
use Rattle.mm_csv.specs.BlockReading.{block_records}
use Rattle.plain_streams.specs.Requests.{Request, IsReadable, is_silent}
use Rattle.plain_streams.specs.Runs.{Answers, HasBlock, line_of}
use Rattle.plain_streams.specs.Runs as runs
use Rattle.mm_session.specs.Answered.{DoesNothing, Obeys, Declines, no_memory, not_a_command, refuses}
use Rattle.mm_session.specs.Reads.{IsTold}

pub answer_text-one : answer_text (Changed 1) ≡ codes "ok 1\n"
unfolding digits
answer_text-one = refl

pub refusal_text-too_long : refusal_text LineTooLong ≡ codes "error 10 line too long\n"
unfolding digits
refusal_text-too_long = refl

pub refusal_text-not_utf8 : refusal_text NotUtf8 ≡ codes "error 11 not UTF-8\n"
unfolding digits
refusal_text-not_utf8 = refl

-- a command that was not done declines the line that spells it
pub declines : (records : List Record) (limits : Limits) (old new : Database) (line : List ℕ) (c : Command) (why : Refusal) → Spells line c
    → DoesNothing (effect_of records limits old c) old new why → Declines records limits old line why
declines records limits old new line c why spells h = elim h.1 [
  | inl none ↦ subst (Declines records limits old line) (sym none) no_memory
  | inr refuses_so ↦ refuses c why spells refuses_so
]

module _ (limits : Limits) (tables : Database) (request : Request) where
  abbrev AnswersSo : Database → List ℕ → Type 0
  AnswersSo new answer = Answers limits tables request answer new

  pub answers-too_long : (answer : List ℕ) → 8192 < length (line_of request) → answer ≡ codes "error 10 line too long\n" → AnswersSo tables answer
  answers-too_long answer long is =
      subst (AnswersSo tables) (refusal_text-too_long ∙ sym is) (runs.effect (refused tables LineTooLong) (runs.too_long long))

  pub answers-not_utf8 : (answer : List ℕ) → length (line_of request) ≤ 8192 → ¬ (IsUtf8 (line_of request)) → answer ≡ codes "error 11 not UTF-8\n"
      → AnswersSo tables answer
  answers-not_utf8 answer short bad is =
      subst (AnswersSo tables) (refusal_text-not_utf8 ∙ sym is) (runs.effect (refused tables NotUtf8) (runs.not_utf8 short bad))

  module _ (readable : IsReadable (line_of request)) where
    pub answers-silent : (answer : List ℕ) → is_silent (line_of request) ≡ true → answer ≡ [] → AnswersSo tables answer
    answers-silent answer says is = subst (AnswersSo tables) (sym is) (runs.silent readable says)

    module _ (heard : is_silent (line_of request) ≡ false) (has : HasBlock limits request) where
      abbrev records : List Record
      records = block_records request.block

      pub answers-obeyed : (new : Database) (answer : List ℕ) → Obeys records limits tables (line_of request) new answer → AnswersSo new answer
      answers-obeyed new answer (c, spells, does) =
          subst (AnswersSo new) (sym does.1) (subst (λ d. AnswersSo d (answer_text (effect_of records limits tables c).outcome)) does.0
          (runs.effect (effect_of records limits tables c) (runs.command c readable heard spells has)))

      declined : (refusal : Refusal) → Declines records limits tables (line_of request) refusal → AnswersSo tables (refusal_text refusal)
      declined refusal no_memory = runs.no_memory readable heard has
      declined refusal (not_a_command none) = runs.effect (refused tables NotACommand) (runs.not_a_command readable heard none)
      declined refusal (refuses c r spells is) =
          subst (λ (e : Effect). AnswersSo e.database (answer_text e.outcome)) is
          (runs.effect (effect_of records limits tables c) (runs.command c readable heard spells has))

      pub answers-declined : (refusal : Refusal) (answer : List ℕ) → Declines records limits tables (line_of request) refusal → answer ≡ refusal_text refusal
          → AnswersSo tables answer
      answers-declined refusal answer why is = subst (AnswersSo tables) (sym is) (declined refusal why)

      pub answers-told : (answer : List ℕ) → IsTold records limits tables (line_of request) answer → AnswersSo tables answer
      answers-told answer told = elim told [
        | inl obeyed ↦ answers-obeyed tables answer obeyed
        | inr (why, declined, is) ↦ answers-declined why answer declined is
      ]
