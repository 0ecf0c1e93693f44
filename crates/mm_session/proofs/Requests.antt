-- Answers to requests that are refused before anything is done.
use Rattle.std.proofs.Common.{◌≡◌, ℕ, ◌<◌, ◌≤◌, Bool, true, false, List, length, refl, sym, subst, ◌∙◌}
use Rattle.std.specs.Fmt.{digits}
use Rattle.std.specs.Prelude.{if◌then◌else◌}
use lib.Chars.{codes}
use Rattle.plain_tables.specs.Databases.{Database}
use Rattle.plain_tables.specs.Effects.{refused}
use Rattle.plain_tables.specs.AnswerText.{refusal_text}
use Rattle.plain_tables.specs.declared.command.Limits.{Limits}
use Rattle.plain_tables.specs.declared.refusal.Refusal.TheVariants.{BlockTooLong, BlockCutShort, NoMemory}
use Rattle.plain_streams.specs.Requests.{Request, Asks}
use Rattle.plain_streams.specs.Runs.{Answers, HasBlock}
use Rattle.plain_streams.specs.Runs as runs
use Rattle.mm_session.proofs.Asks.{asks-heard}

refusal_text-block_too_long : refusal_text BlockTooLong ≡ codes "error 12 block too long\n"
unfolding digits
refusal_text-block_too_long = refl

refusal_text-block_cut_short : refusal_text BlockCutShort ≡ codes "error 13 block cut short\n"
unfolding digits
refusal_text-block_cut_short = refl

refusal_text-no_memory : refusal_text NoMemory ≡ codes "error 90 no memory\n"
unfolding digits
refusal_text-no_memory = refl

module _ (limits : Limits) (tables : Database) (request : Request) (answer : List ℕ) where
  module _ (n : ℕ) (asks : Asks request.line n) where
    pub answers-block_too_long : limits.block < n → answer ≡ codes "error 12 block too long\n" → Answers limits tables request answer tables
    answers-block_too_long long is =
        subst (λ a. Answers limits tables request a tables) (refusal_text-block_too_long ∙ sym is)
        (runs.effect (refused tables BlockTooLong) (runs.block_too_long n asks long))

    pub answers-block_cut_short : n ≤ limits.block → length request.block < n → answer ≡ codes "error 13 block cut short\n" → Answers limits tables request answer tables
    answers-block_cut_short within short is =
        subst (λ a. Answers limits tables request a tables) (refusal_text-block_cut_short ∙ sym is)
        (runs.effect (refused tables BlockCutShort) (runs.block_cut_short n asks within short))

    pub answers-no_memory : HasBlock limits request → answer ≡ codes "error 90 no memory\n" → Answers limits tables request answer tables
    answers-no_memory has is =
        subst (λ a. Answers limits tables request a tables) (refusal_text-no_memory ∙ sym is)
        (runs.no_memory asks.0 (asks-heard request.line n asks) has)

-- a block that passes the limit, or was cut short
pub answers-refused_block : (limits : Limits) (tables : Database) (request : Request) (n : ℕ) (passes : Bool) → Asks request.line n
    → (passes ≡ true → limits.block < n) → (passes ≡ false → n ≤ limits.block) → length request.block < n
    → Answers limits tables request (if passes then codes "error 12 block too long\n" else codes "error 13 block cut short\n") tables
answers-refused_block limits tables request n true asks long within short = answers-block_too_long limits tables request _ n asks (long refl) refl
answers-refused_block limits tables request n false asks long within short = answers-block_cut_short limits tables request _ n asks (within refl) short refl
