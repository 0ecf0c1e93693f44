-- Preparing: when a line is kept as a statement, and why it isn't.
use Rattle.std.specs.Prelude.{◌≡◌, ℕ, ◌<◌, ◌≤◌, List, length}
use Rattle.std.specs.Str.{IsUtf8}
use Rattle.plain_tables.specs.Databases.{Database}
use Rattle.plain_tables.specs.declared.refusal.Refusal.{Refusal}
use Rattle.plain_tables.specs.declared.refusal.Refusal.TheVariants.{LineTooLong, NotUtf8, NotACommand}
use Rattle.plain_streams.specs.Requests.{IsReadable}
use Rattle.plain_statements.specs.declared.statement.Statement.{Statement}
use Rattle.plain_statements.specs.declared.resolution.Resolution.{Resolution}
use Rattle.plain_statements.specs.Laws.{Resolves, Refuses}
use Rattle.plain_statements.specs.StatementSpelling.{SpellsStatement, holes_of}
use Rattle.mm_statements.specs.declared.faults.PrepareFault.{PrepareFault}
use Rattle.mm_statements.specs.declared.faults.PrepareFault.TheVariants as fault

-- The line can be read, and spells a statement of so many holes that means something of these tables.
pub record IsPrepared (tables : Database) (line : List ℕ) (places : ℕ) : Type 0 where
  pub readable : IsReadable line
  pub statement : Statement
  pub spelled : SpellsStatement line statement
  pub counted : places ≡ length (holes_of statement)
  pub resolution : Resolution
  pub resolved : Resolves tables statement resolution

-- the line spells no statement
abbrev pub SpellsNone : List ℕ → Type 0
SpellsNone line = (s : Statement) → ¬ (SpellsStatement line s)

-- Why a line is not kept: it is too long; or it isn't, and is not UTF-8; or it can be read, and spells no statement, or one that is
-- refused so, whatever its values are.
pub data IsUnprepared (tables : Database) (line : List ℕ) : Refusal → Type 0 where
  too_long : 8192 < length line → IsUnprepared tables line LineTooLong
  not_utf8 : length line ≤ 8192 → ¬ (IsUtf8 line) → IsUnprepared tables line NotUtf8
  no_statement : IsReadable line → SpellsNone line → IsUnprepared tables line NotACommand
  refuses : (s : Statement) (why : Refusal) → IsReadable line → SpellsStatement line s → Refuses tables s why → IsUnprepared tables line why

-- so it is, or there was no memory
abbrev pub IsUnpreparedFor : Database → List ℕ → PrepareFault → Type 0
IsUnpreparedFor tables line (fault.Refused why) = IsUnprepared tables line why
IsUnpreparedFor tables line fault.NoMemory = Unit {0}
