-- Laws of streams: that answers are unique unless a request runs out of memory, and that declared indexes play no part in them.
use Rattle.std.specs.Prelude.{◌≡◌, ◌≢◌, ℕ, List, Bool, map, IsFalse}
use Rattle.std.specs.List.{AllByRecursion}
use Rattle.plain_tables.specs.AnswerText.{answer_text}
use Rattle.plain_tables.specs.CommandLaws.{is_listing}
use Rattle.plain_tables.specs.Databases.{Database}
use Rattle.plain_tables.specs.Effects.{Refused}
use Rattle.plain_tables.specs.ResolvedLaws.{is_on_indexes, unindexed}
use Rattle.plain_tables.specs.Spelling.{Spells}
use Rattle.plain_tables.specs.declared.command.Command.{Command}
use Rattle.plain_tables.specs.declared.command.Limits.{Limits}
use Rattle.plain_tables.specs.declared.refusal.Refusal.TheVariants.{NoMemory}
use Rattle.plain_streams.specs.Requests.{Request}
use Rattle.plain_streams.specs.Runs.{RunOf, line_of}
use Rattle.mm_session.specs.Each.{RunWhere}
use Rattle.mm_session.specs.Sessions.{IsRequests}

-- the answer is not that no memory was found
abbrev pub FoundMemory : List ℕ → Type 0
FoundMemory answer = answer ≢ answer_text (Refused NoMemory)

-- Two runs of one stream from the same tables, in which memory was found for each request, have the same answers and leave the same
-- tables.
abbrev pub AnswersAreUnique : Type 0
AnswersAreUnique =
    (limits : Limits) (from : Database) (stream : List ℕ) (finished : Bool) (answers others : List ℕ) (after last : Database)
    → RunWhere FoundMemory limits from stream finished answers after → RunWhere FoundMemory limits from stream finished others last
    → (answers ≡ others) × (after ≡ last)

-- the request neither declares, drops nor lists indexes
abbrev pub IsOffIndexes : Request → Type 0
IsOffIndexes request = (c : Command) → Spells (line_of request) c → IsFalse (is_on_indexes c) × IsFalse (is_listing c)

-- Of databases that are alike but for the declared indexes each run of such requests from the one is, with its answers, a run from
-- the other, and what they leave is alike.
abbrev pub StreamsReadNoIndexes : Type 0
StreamsReadNoIndexes =
    (limits : Limits) (from others : Database) (stream : List ℕ) (requests : List Request) (finished : Bool) (answers : List ℕ) (after : Database)
    → IsRequests stream finished requests → AllByRecursion IsOffIndexes requests → map unindexed from ≡ map unindexed others
    → RunOf limits from stream finished answers after
    → (last : Database) × RunOf limits others stream finished answers last × (map unindexed after ≡ map unindexed last)
