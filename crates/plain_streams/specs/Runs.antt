-- Run: the answers to a stream, and the database that it leaves.
use Rattle.std.specs.Prelude.{◌≡◌, ℕ, ◌<◌, ◌≤◌, List, [], ◌∷◌, ◌++◌, Bool, length, IsTrue, IsFalse}
use Rattle.std.specs.Str.{IsUtf8}
use Rattle.plain_tables.specs.Spelling.{Spells}
use Rattle.plain_tables.specs.Databases.{Database}
use Rattle.plain_tables.specs.Effects.{Effect, Refused, refused}
use Rattle.plain_tables.specs.References.{IsSound}
use Rattle.plain_tables.specs.Commands.{effect_of}
use Rattle.plain_tables.specs.AnswerText.{answer_text}
use Rattle.plain_tables.specs.declared.refusal.Refusal.TheVariants.{LineTooLong, NotUtf8, NotACommand, BlockTooLong, BlockCutShort, NoMemory}
use Rattle.plain_tables.specs.declared.command.Limits.{Limits}
use Rattle.plain_tables.specs.declared.command.Command.{Command}
use Rattle.mm_csv.specs.BlockReading.{block_records}
use Rattle.plain_streams.specs.Requests.{Request, IsReadable, Asks, is_silent, without_return}
use Rattle.plain_streams.specs.Division.{Divides, last_request}

-- the line of a request, without a carriage return at its end
abbrev pub line_of : Request → List ℕ
line_of request = without_return request.line

-- The block that the line asks for, if it asks for one, is within the limit and has come whole.
abbrev pub HasBlock : Limits → Request → Type 0
HasBlock limits request = (n : ℕ) → Asks request.line n → (n ≤ limits.block) × (length request.block ≡ n)

-- What a request does that has an answer. If its line is too long or isn't UTF-8, it is refused whatever else it holds. Else,
-- if the line isn't silent, the command that it spells is done; or the request is refused, if the line spells none, or asks
-- for a block that is too long or didn't come whole.
pub data IsEffect (limits : Limits) (tables : Database) (request : Request) : Effect → Type 0 where
  too_long : 8192 < length (line_of request) → IsEffect limits tables request (refused tables LineTooLong)
  not_utf8 : length (line_of request) ≤ 8192 → ¬ (IsUtf8 (line_of request)) → IsEffect limits tables request (refused tables NotUtf8)
  not_a_command : IsReadable (line_of request) → IsFalse (is_silent (line_of request)) → ((c : Command) → ¬ (Spells (line_of request) c))
      → IsEffect limits tables request (refused tables NotACommand)
  block_too_long : (n : ℕ) → Asks request.line n → limits.block < n → IsEffect limits tables request (refused tables BlockTooLong)
  block_cut_short : (n : ℕ) → Asks request.line n → n ≤ limits.block → length request.block < n
      → IsEffect limits tables request (refused tables BlockCutShort)
  command : (c : Command) → IsReadable (line_of request) → IsFalse (is_silent (line_of request)) → Spells (line_of request) c
      → HasBlock limits request → IsEffect limits tables request (effect_of (block_records request.block) limits tables c)

-- The answer to a request, and the database after it. A silent line that is not too long and is UTF-8 has no answer. Any other
-- request is answered by what it does; or that no memory was found, and then nothing has changed. Of a line that is too long
-- or isn't UTF-8, and of a block that is too long or cut short, that is never said.
pub data Answers (limits : Limits) (tables : Database) (request : Request) : List ℕ → Database → Type 0 where
  silent : IsReadable (line_of request) → IsTrue (is_silent (line_of request)) → Answers limits tables request [] tables
  effect : (e : Effect) → IsEffect limits tables request e → Answers limits tables request (answer_text e.outcome) e.database
  no_memory : IsReadable (line_of request) → IsFalse (is_silent (line_of request)) → HasBlock limits request
      → Answers limits tables request (answer_text (Refused NoMemory)) tables

-- the answers to requests in their order, each asked of the database that the one before left
abbrev pub AnswersAll : Limits → Database → List Request → List ℕ → Database → Type 0
AnswersAll limits tables [] answers after = (answers ≡ []) × (after ≡ tables)
AnswersAll limits tables (request ∷ requests) answers after =
    (first : List ℕ) × (others : List ℕ) × (next : Database) × Answers limits tables request first next
    × AnswersAll limits next requests others after × (answers ≡ first ++ others)

-- From a database, a stream that is finished or not has these answers and leaves that database.
abbrev pub RunOf : Limits → Database → List ℕ → Bool → List ℕ → Database → Type 0
RunOf limits from stream finished answers after =
    (requests : List Request) × (rest : List ℕ) × Divides stream requests rest
    × AnswersAll limits from (requests ++ last_request finished rest) answers after

-- ---- laws

-- every database that a run from a sound one reaches is sound
abbrev pub RunsStaySound : Type 0
RunsStaySound =
    (limits : Limits) (from : Database) (stream : List ℕ) (finished : Bool) (answers : List ℕ) (after : Database)
    → IsSound limits from → RunOf limits from stream finished answers after → IsSound limits after
