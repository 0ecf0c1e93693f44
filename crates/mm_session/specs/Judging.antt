-- What a line is that has ended, before it is read as a command.
use Rattle.std.specs.Prelude.{◌≡◌, ℕ, ◌<◌, ◌≤◌, List, ◌++◌, length, IsTrue, IsFalse}
use Rattle.std.specs.Str.{IsUtf8}
use Rattle.plain_tables.specs.Databases.{Database}
use Rattle.plain_tables.specs.declared.command.Limits.{Limits}
use Rattle.plain_streams.specs.Requests.{Takes, IsReadable, without_return, is_silent}
use Rattle.plain_streams.specs.Runs.{Answers}
use Rattle.mm_session.specs.declared.stream.lines.Judged.{Judged}
use Rattle.mm_session.specs.declared.stream.lines.Judged.TheVariants.{TooLong, NotUtf8, Silent, Text}

-- The line, without a carriage return at its end, is too long; or it isn't, and is not UTF-8; or it can be read, and is silent
-- or that text.
abbrev pub IsJudged : List ℕ → Judged → Type 0
IsJudged line TooLong = 8192 < length (without_return line)
IsJudged line NotUtf8 = (length (without_return line) ≤ 8192) × ¬ (IsUtf8 (without_return line))
IsJudged line Silent = IsReadable (without_return line) × IsTrue (is_silent (without_return line))
IsJudged line (Text text) = IsReadable (without_return line) × IsFalse (is_silent (without_return line)) × (text ≡ without_return line)

-- A front of the bytes is the block that the line, which was judged so, takes; the others stand behind it. The request of
-- both has this answer.
abbrev pub AnswersIn : Limits → Database → Judged → List ℕ → List ℕ → List ℕ → Database → Type 0
AnswersIn limits before judged bytes others answer after =
    (block : List ℕ) × (bytes ≡ block ++ others)
    × ((line : List ℕ) → IsJudged line judged
    → Takes line (length block) × Answers limits before (record { line = line; block = block }) answer after)
