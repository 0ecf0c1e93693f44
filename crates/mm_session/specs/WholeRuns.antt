-- What a whole run has read and written.
use Rattle.std.specs.Prelude.{◌≡◌, ℕ, List, [], ◌++◌, Bool, true, false, Option}
use Rattle.std.specs.Io.KnownBytes.{Consumes}
use Rattle.plain_tables.specs.Databases.{Database}
use Rattle.plain_streams.specs.Runs.{RunOf}
use Rattle.plain_tables.specs.declared.command.Limits.{Limits}
use Rattle.plain_tables.specs.declared.command.TheConstants.Limits.{STANDARD}

-- the reader, whose bytes are known or not, gave some bytes of which that holds
abbrev pub Reads : Option (List ℕ) → Option (List ℕ) → (List ℕ → Type 0) → Type 0
Reads before after says = (stream : List ℕ) × Consumes before after stream × says stream

-- From no tables, these are the answers of the finished stream.
abbrev pub IsAnsweredAll : List ℕ → List ℕ → Type 0
IsAnsweredAll stream answers = (after : Database) × RunOf STANDARD [] stream true answers after

-- From no tables, these are the answers of the stream's requests that are whole.
abbrev pub IsAnsweredSoFar : List ℕ → List ℕ → Type 0
IsAnsweredSoFar stream answers = (after : Database) × RunOf STANDARD [] stream false answers after

-- the bytes are the front of the answers of some run over that stream
abbrev pub IsFrontOfRun : Limits → Database → List ℕ → Bool → List ℕ → Type 0
IsFrontOfRun limits from stream finished bytes =
    (answers : List ℕ) × (after : Database) × RunOf limits from stream finished answers after
    × ((more : List ℕ) × (answers ≡ bytes ++ more))

-- From no tables, these are the front of the answers of the stream, finished or not.
abbrev pub IsFrontOfAnswers : List ℕ → List ℕ → Type 0
IsFrontOfAnswers stream bytes = (finished : Bool) × IsFrontOfRun STANDARD [] stream finished bytes
