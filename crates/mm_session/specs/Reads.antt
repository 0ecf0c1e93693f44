-- Reading requests: which resolved commands would change tables, and what a line or a request means of them.
use Rattle.std.specs.Prelude.{◌≡◌, ◌⊎◌, ℕ, List, Bool, Ok, IsFalse, IsTrue, false, true}
use Rattle.plain_tables.specs.AnswerText.{refusal_text}
use Rattle.plain_tables.specs.CsvReading.{Record}
use Rattle.plain_tables.specs.Databases.{Database}
use Rattle.plain_tables.specs.Resolving.{resolved_of}
use Rattle.plain_tables.specs.Spelling.{Spells}
use Rattle.plain_tables.specs.declared.command.Command.{Command}
use Rattle.plain_tables.specs.declared.command.Limits.{Limits}
use Rattle.plain_tables.specs.declared.refusal.Refusal.{Refusal}
use Rattle.plain_tables.specs.declared.resolved.Resolved.{Resolved}
use Rattle.plain_tables.specs.declared.resolved.Resolved.TheVariants as resolved
use Rattle.mm_csv.specs.BlockReading.{block_records}
use Rattle.plain_streams.specs.Division.{IsWhole}
use Rattle.plain_streams.specs.Requests.{Request, IsReadable, is_silent}
use Rattle.plain_streams.specs.Runs.{line_of}
use Rattle.mm_session.specs.Answered.{Declines, Obeys}

-- Whether a resolved command would change tables: each does but a select, a dump and a listing of the tables.
abbrev pub changes : Resolved → Bool
changes (resolved.Select query) = false
changes (resolved.Dump n) = false
changes resolved.Tables = false
changes r = true

-- the line spells a command that means this of the tables, with these records in its block
abbrev pub MeansBy : List Record → Database → List ℕ → Resolved → Type 0
MeansBy records tables line r = (c : Command) × Spells line c × (resolved_of records tables c ≡ Ok r)

-- The answer is what the command that the line spells shows, or why the line is refused; and the tables are as before.
abbrev pub IsTold : List Record → Limits → Database → List ℕ → List ℕ → Type 0
IsTold records limits tables line answer =
    Obeys records limits tables line tables answer
    ⊎ ((why : Refusal) × Declines records limits tables line why × (answer ≡ refusal_text why))

-- The line of the request can be read, and spells a command that means this of the tables, with the block behind it.
pub record Means (tables : Database) (request : Request) (r : Resolved) : Type 0 where
  pub readable : IsReadable (line_of request)
  pub heard : IsFalse (is_silent (line_of request))
  pub by : MeansBy (block_records request.block) tables (line_of request) r

-- The request is one, and its line spells a command that names and values don't refuse, and that would change tables: it declares or
-- drops, inserts, updates, deletes or loads.
pub record WouldChange (tables : Database) (request : Request) : Type 0 where
  pub whole : IsWhole request
  pub command : Resolved
  pub means : Means tables request command
  pub changes : IsTrue (changes command)
