-- Each request, and so each run, keeps a database sound, and changes nothing where its answer is an error.
use Rattle.std.proofs.Common.{◌≡◌, ℕ, List, [], ◌∷◌, ◌++◌, arith, refl, ap, get_or}
use lib.Chars.{codes}
use Rattle.plain_tables.specs.Databases.{Database}
use Rattle.plain_tables.specs.Effects.{Effect, Outcome, Listed, Refused}
use Rattle.plain_tables.specs.References.{IsSound}
use Rattle.plain_tables.specs.AnswerText.{answer_text}
use Rattle.plain_tables.specs.ResolvedLaws.{KeepsIfRefused}
use Rattle.plain_tables.specs.declared.refusal.Refusal.{Refusal}
use Rattle.plain_tables.specs.declared.refusal.Refusal.TheVariants.{LineTooLong, NotUtf8, NotACommand, BlockTooLong, BlockCutShort}
use Rattle.plain_tables.specs.declared.command.Limits.{Limits}
use Rattle.plain_tables.proofs.Changes.{refusal_keeps, refused_keeps}
use Rattle.plain_tables.proofs.Effects.{effect_satisfies}
use Rattle.plain_tables.proofs.Given.{spellable_are_given}
use Rattle.plain_tables.proofs.ResolvedCommands.{effects_keep_sound}
use Rattle.plain_tables.proofs.Spellable.{spelled-spellable}
use Rattle.mm_csv.specs.BlockReading.{block_records}
use Rattle.plain_streams.proofs.RunSteps.{AnswersAll-keeps}
use Rattle.plain_streams.specs.Requests.{Request}
use Rattle.plain_streams.specs.Division.{last_request}
use Rattle.plain_streams.specs.Runs.{IsEffect, too_long, not_utf8, not_a_command, block_too_long, block_cut_short, command, Answers, effect, RunsStaySound, line_of}

-- ---- sound databases

request_effect_keeps : (limits : Limits) (tables : Database) (request : Request) (e : Effect) → IsEffect limits tables request e
    → IsSound limits tables → IsSound limits e.database
request_effect_keeps limits tables request e (command c h s spells has) sound =
    effects_keep_sound (block_records request.block) limits tables c (spellable_are_given c (spelled-spellable (line_of request) c spells)) sound
request_effect_keeps limits tables request e other sound = sound

pub answer_keeps : (limits : Limits) (tables : Database) (request : Request) (answer : List ℕ) (after : Database)
    → Answers limits tables request answer after → IsSound limits tables → IsSound limits after
answer_keeps limits tables request answer after (effect e h) sound = request_effect_keeps limits tables request e h sound
answer_keeps limits tables request answer after other sound = sound

pub runs_stay_sound : RunsStaySound
runs_stay_sound limits from stream finished answers after sound (requests, rest, divides, all) =
    AnswersAll-keeps (IsSound limits) limits from (requests ++ last_request finished rest) answers after (answer_keeps limits) all sound

-- ---- errors

-- an answer that begins with another character than e is no error
begins_otherwise : (first : ℕ) (rest words : List ℕ) → first ∷ rest ≡ codes "error " ++ words → first ≡ 101
begins_otherwise first rest words same = ap (λ (s : List ℕ). get_or s 0 0) same

-- an answer that begins with error is that of a refusal
pub error_is_refused : (o : Outcome) (words : List ℕ) → answer_text o ≡ codes "error " ++ words → (why : Refusal) × (o ≡ Refused why)
error_is_refused (Refused why) words same = (why, refl)
error_is_refused (Listed []) words same = let first = begins_otherwise _ _ words same in absurd (omega arith)
error_is_refused other words same = let first = begins_otherwise _ _ words same in absurd (omega arith)

request_keeps : (limits : Limits) (tables : Database) (request : Request) (e : Effect) → IsEffect limits tables request e → KeepsIfRefused tables e
request_keeps limits tables request e (too_long h) = refusal_keeps tables LineTooLong
request_keeps limits tables request e (not_utf8 h u) = refusal_keeps tables NotUtf8
request_keeps limits tables request e (not_a_command h s n) = refusal_keeps tables NotACommand
request_keeps limits tables request e (block_too_long n asks h) = refusal_keeps tables BlockTooLong
request_keeps limits tables request e (block_cut_short n asks few h) = refusal_keeps tables BlockCutShort
request_keeps limits tables request e (command c h s spells has) =
    effect_satisfies (KeepsIfRefused tables) (block_records request.block) limits tables c (refusal_keeps tables) (λ r resolved. refused_keeps limits tables r)

pub errors_change_nothing : (limits : Limits) (tables : Database) (request : Request) (answer words : List ℕ) (after : Database)
    → Answers limits tables request answer after → answer ≡ codes "error " ++ words → after ≡ tables
errors_change_nothing limits tables request answer words after (effect e h) same =
    let refusal = error_is_refused e.outcome words same in request_keeps limits tables request e h refusal.0 refusal.1
errors_change_nothing limits tables request answer words after other same = refl
