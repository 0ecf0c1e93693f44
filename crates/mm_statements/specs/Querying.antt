-- Querying: what comes of a line of which no statement is kept.
use Rattle.std.specs.Prelude.{◌≡◌, ℕ, ◌<◌, ◌≤◌, List, [], Bool, true, false, length, IsTrue, Result, Ok}
use Rattle.std.specs.Str.{IsUtf8}
use Rattle.plain_tables.specs.Commands.{effect_of}
use Rattle.plain_tables.specs.Databases.{Database}
use Rattle.plain_tables.specs.Effects.{Effect, refused}
use Rattle.plain_tables.specs.Resolving.{resolved_of}
use Rattle.plain_tables.specs.Spelling.{Spells}
use Rattle.plain_tables.specs.declared.command.Command.{Command}
use Rattle.plain_tables.specs.declared.command.Command.TheVariants.{Insert, Update, Delete, Select}
use Rattle.plain_tables.specs.declared.refusal.Refusal.{Refusal}
use Rattle.plain_tables.specs.declared.refusal.Refusal.TheVariants.{LineTooLong, NotUtf8, NotACommand, NoMemory}
use Rattle.plain_tables.specs.declared.resolved.Resolved.{Resolved}
use Rattle.plain_streams.specs.Division.{IsUnbroken}
use Rattle.plain_streams.specs.Requests.{IsReadable, is_silent}
use Rattle.mm_session.specs.Changing.{IsChange}
use Rattle.mm_session.specs.Counting.{HasRows}
use Rattle.mm_session.specs.Sessions.{State}
use Rattle.mm_statements.specs.declared.faults.QueryFault.{QueryFault}
use Rattle.mm_statements.specs.declared.faults.QueryFault.TheVariants as fault

-- whether a command is an insert, an update, a delete or a select
abbrev pub is_statement : Command → Bool
is_statement (Insert table values) = true
is_statement (Update table settings conditions) = true
is_statement (Delete table conditions) = true
is_statement (Select distinct items table joins conditions) = true
is_statement c = false

-- Why no command is read in a line: it is too long; or it isn't, and is not UTF-8; or it can be read, and has a line feed in it, or is
-- blanks alone or a comment.
pub data IsUnread (line : List ℕ) : Refusal → Type 0 where
  too_long : 8192 < length line → IsUnread line LineTooLong
  not_utf8 : length line ≤ 8192 → ¬ (IsUtf8 line) → IsUnread line NotUtf8
  broken : IsReadable line → ¬ (IsUnbroken line) → IsUnread line NotACommand
  silent : IsReadable line → IsTrue (is_silent line) → IsUnread line NotACommand

-- The line can be read, and spells an insert, an update, a delete or a select, whose effect this is.
pub record IsEffectOfLine (session : State) (line : List ℕ) (effect : Effect) : Type 0 where
  pub readable : IsReadable line
  pub command : Command
  pub statement : IsTrue (is_statement command)
  pub spelled : Spells line command
  pub is : effect ≡ effect_of [] session.limits session.database command

-- Why nothing comes of a line: it isn't read; or it can be, and spells no insert, update, delete or select; or the refusal is the
-- effect of the one that it spells; or there was no memory.
pub data IsUnqueried (session : State) (line : List ℕ) : Refusal → Type 0 where
  unread : (why : Refusal) → IsUnread line why → IsUnqueried session line why
  no_statement : IsReadable line → ((c : Command) → IsTrue (is_statement c) → ¬ (Spells line c)) → IsUnqueried session line NotACommand
  refuses : (why : Refusal) → IsEffectOfLine session line (refused session.database why) → IsUnqueried session line why
  no_memory : IsReadable line → IsUnqueried session line NoMemory

-- The line can be read, and spells an insert, an update, a delete or a select that means this of the tables.
pub record IsMeaningOfLine (tables : Database) (line : List ℕ) (meaning : Result Resolved Refusal) : Type 0 where
  pub readable : IsReadable line
  pub command : Command
  pub statement : IsTrue (is_statement command)
  pub spelled : Spells line command
  pub means : resolved_of [] tables command ≡ meaning

-- The line can be read, and spells an insert, an update or a delete of the tables.
abbrev pub IsChangeOfLine : Database → List ℕ → Type 0
IsChangeOfLine tables line = (command : Resolved) × IsMeaningOfLine tables line (Ok command) × IsChange command

-- The line can be read, and spells what has rows as its effect.
abbrev pub IsSelectOfLine : State → List ℕ → Type 0
IsSelectOfLine session line = (effect : Effect) × IsEffectOfLine session line effect × HasRows effect.outcome (λ n. Unit {0})

-- The refusal is why nothing comes of a line; or the line can be read, and what it shows is too long for cells. A change is declined
-- while another database shares the tables. What is asked to end is a select.
abbrev pub IsUnanswered : State → List ℕ → QueryFault → Type 0
IsUnanswered session line (fault.Refused why) = IsUnqueried session line why
IsUnanswered session line fault.TooLong = IsReadable line
IsUnanswered session line fault.Shared = IsChangeOfLine session.database line
IsUnanswered session line fault.Interrupted = IsSelectOfLine session line
