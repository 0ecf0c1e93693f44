-- What calls on statements do with a database, in the words of the calls of mm_statements.
use Rattle.std.specs.Prelude.{◌≡◌, ◌≢◌, ◌<◌, ◌≤◌, ◌/◌, ℕ, List, [], Some, None, IsSomeAnd, length, replicate, slice_get, slice_set}
use Rattle.std.specs.Option.{option_map_or}
use Rattle.std.specs.Vec.{vec_ptr}
use Rattle.mm_cells.specs.Values.{values_of}
use Rattle.mm_cells.specs.declared.cells.Cells.{Cells}
use Rattle.plain_tables.specs.AnswerText.{refusal_text}
use Rattle.plain_tables.specs.Effects.{Effect}
use Rattle.plain_tables.specs.declared.refusal.Refusal.{Refusal}
use Rattle.plain_tables.specs.declared.refusal.Refusal.TheVariants.{NoMemory}
use Rattle.plain_tables.specs.declared.value.Value.{Value}
use Rattle.plain_tables.specs.declared.value.Value.TheVariants as value
use Rattle.plain_streams.specs.Requests.{without_return}
use Rattle.mm_session.specs.OneRequest.{StaysInStream}
use Rattle.mm_prepared.specs.Kept.{KeptStatement}
use Rattle.mm_statements.specs.Databases.{IsUnchanged, NowNames, SameStatements, statement_at}
use Rattle.mm_statements.specs.Executing.{HasGiven, IsDeclined, IsEffectOf, TellsColumns}
use Rattle.mm_statements.specs.Executing as executing
use Rattle.mm_statements.specs.Preparing.{IsPrepared}
use Rattle.mm_statements.specs.Preparing as preparing
use Rattle.mm_statements.specs.Querying.{IsEffectOfLine}
use Rattle.mm_statements.specs.Querying as querying
use Rattle.mm_statements.specs.declared.database.Executed.{Executed}
use Rattle.mm_statements.specs.declared.database.Executed.TheVariants as gives
use Rattle.mm_prepared.specs.declared.declined.Declined.{Declined}
use Rattle.mm_prepared.specs.declared.declined.Declined.TheVariants as declined
use Rattle.mm_statements.specs.declared.faults.ExecuteFault.TheVariants as fault
use Rattle.mm_database.specs.Calls.{KeepsRows}
use Rattle.mm_database.specs.declared.database.OpenDatabase.{OpenDatabase}
use Rattle.mm_database.specs.declared.statements.Statement.{Statement}
use Rattle.mm_database.specs.declared.rows.Rows.{Rows}

-- the session and the statements are as they were
abbrev pub KeepsAll : OpenDatabase → OpenDatabase → Type 0
KeepsAll old new = IsUnchanged old.inner new.inner

-- Session, statements, answer and all rows are as they were.
pub record KeepsEach (old new : OpenDatabase) : Type 0 where
  pub all : KeepsAll old new
  pub answer : new.answer ≡ old.answer
  pub rows : KeepsRows old new

-- What every other statement and the line last queried have shown, and the columns last asked for, lie where they lay, and are what they
-- were.
pub record KeepsOthers (number : ℕ) (old new : OpenDatabase) : Type 0 where
  pub others : (other : ℕ) (cells : Cells) → other ≢ number → slice_get old.shown.items other ≡ Some cells → slice_get new.shown.items other ≡ Some cells
  pub queried : new.queried ≡ old.queried
  pub columns : new.columns ≡ old.columns

-- What every statement has shown, and the columns last asked for, lie where they lay, and are what they were.
pub record KeepsStatements (old new : OpenDatabase) : Type 0 where
  pub shown : new.shown ≡ old.shown
  pub columns : new.columns ≡ old.columns

-- What every statement and the line last queried have shown lies where it lay, and is what it was.
pub record KeepsShown (old new : OpenDatabase) : Type 0 where
  pub shown : new.shown ≡ old.shown
  pub queried : new.queried ≡ old.queried

-- The line is kept as the statement that it spells, under a number that named none, with a null for each of its places; and the answer is
-- empty.
pub record Prepares (line : List ℕ) (old new : OpenDatabase) (told : Statement) : Type 0 where
  pub prepared : IsPrepared old.inner.session.database (without_return line) told.places
  pub fresh : statement_at old.inner told.number ≡ None
  pub kept : NowNames old.inner new.inner told.number (Some (record { line = without_return line; values = replicate told.places value.Null }))
  pub session : new.inner.session ≡ old.inner.session
  pub shared : new.inner.shared ≡ old.inner.shared
  pub answer : new.answer ≡ []
  pub rows : KeepsRows old new

-- The line spells no statement that can be kept, and the answer is the refusal.
pub record IsUnprepared (line : List ℕ) (old new : OpenDatabase) : Type 0 where
  pub why : Refusal
  pub refused : preparing.IsUnprepared old.inner.session.database (without_return line) why
  pub answer : new.answer ≡ refusal_text why
  pub rows : KeepsRows old new

-- the number names no statement
abbrev pub IsMissing : ℕ → OpenDatabase → Type 0
IsMissing number d = statement_at d.inner number ≡ None

-- the number names a statement, which has no such place
abbrev pub IsPast : ℕ → ℕ → OpenDatabase → Type 0
IsPast number place d = (kept : KeptStatement) × (statement_at d.inner number ≡ Some kept) × (length kept.values ≤ place)

-- why no value was bound
abbrev pub IsUnbound : ℕ → ℕ → OpenDatabase → Declined → Type 0
IsUnbound number place d declined.NoSuchStatement = IsMissing number d
IsUnbound number place d declined.NoSuchPlace = IsPast number place d
IsUnbound number place d declined.NoMemory = Unit {0}

-- The value stands at the place of the statement, and nothing else has changed.
pub record Binds (number place : ℕ) (v : Value) (old new : OpenDatabase) : Type 0 where
  pub kept : KeptStatement
  pub there : statement_at old.inner number ≡ Some kept
  pub bound : NowNames old.inner new.inner number (Some (record kept { values = slice_set kept.values place v }))
  pub session : new.inner.session ≡ old.inner.session
  pub shared : new.inner.shared ≡ old.inner.shared
  pub answer : new.answer ≡ old.answer
  pub rows : KeepsRows old new

-- the values that the statement of a number has shown
abbrev pub shown_by : OpenDatabase → ℕ → List Value
shown_by d number = option_map_or values_of (slice_get d.shown.items number) []

-- The number names no statement, and what that has shown is gone; nothing else has changed.
pub record Finalizes (number : ℕ) (old new : OpenDatabase) : Type 0 where
  pub freed : NowNames old.inner new.inner number None
  pub session : new.inner.session ≡ old.inner.session
  pub shared : new.inner.shared ≡ old.inner.shared
  pub answer : new.answer ≡ old.answer
  pub gone : shown_by new number ≡ []
  pub rows : KeepsOthers number old new

-- The effect of the statement came about beside the stream, and what it shows are its cells.
pub record HasExecuted (number : ℕ) (old new : OpenDatabase) (given : Executed) : Type 0 where
  pub effect : Effect
  pub is : IsEffectOf old.inner number effect
  pub gave : HasGiven new.inner.session effect given (shown_by new number)
  pub stream : StaysInStream old.inner.session new.inner.session
  pub shared : new.inner.shared ≡ old.inner.shared
  pub statements : SameStatements old.inner new.inner

-- what C is told of how many values there are: how many rows were changed; or how many rows they are, and of how many columns
abbrev pub Counts : List Value → Executed → Rows → Type 0
Counts values (gives.Changed count) told = (told.changed ≡ count) × (told.rows ≡ 0) × (told.columns ≡ 0)
Counts values (gives.Rows columns) told = (told.changed ≡ 0) × (told.rows ≡ length values / columns) × (told.columns ≡ columns)

-- What C is told of what an execution gave: how many values there are, where the cells lie that are read as these, and where the bytes
-- of their texts.
pub record Tells (shown : Cells) (given : Executed) (told : Rows) : Type 0 where
  pub counts : Counts (values_of shown) given told
  pub cells : told.cells ≡ vec_ptr shown.cells
  pub texts : told.texts ≡ vec_ptr shown.texts

-- what was given, if it is rows, has columns
abbrev pub HasColumns : Executed → Type 0
HasColumns (gives.Changed count) = Unit {0}
HasColumns (gives.Rows columns) = 0 < columns

-- The effect of the statement came about, and C is told what it gave, and where what it shows lies.
abbrev pub HasTold : ℕ → OpenDatabase → OpenDatabase → Rows → Type 0
HasTold number old new told =
    (given : Executed) × HasExecuted number old new given × IsSomeAnd (slice_get new.shown.items number) (λ cells. Tells cells given told)

-- So it is, and the answer is empty.
pub record Executes (number : ℕ) (old new : OpenDatabase) (told : Rows) : Type 0 where
  pub done : HasTold number old new told
  pub answer : new.answer ≡ []

-- The statement is refused, or there was no memory; that is the answer.
pub record IsUnexecuted (number : ℕ) (old new : OpenDatabase) : Type 0 where
  pub why : Refusal
  pub declined : IsDeclined old.inner number (fault.Refused why)
  pub answer : new.answer ≡ refusal_text why

-- The columns of what the statement shows are kept, and the answer is empty.
pub record KeepsColumns (number : ℕ) (old new : OpenDatabase) : Type 0 where
  pub told : TellsColumns old.inner number (values_of new.columns)
  pub answer : new.answer ≡ []

-- The statement is refused, whatever is bound, or there was no memory; that is the answer.
pub record IsUntold (number : ℕ) (old new : OpenDatabase) : Type 0 where
  pub why : Refusal
  pub untold : executing.IsUntold old.inner number (fault.Refused why)
  pub answer : new.answer ≡ refusal_text why

-- The effect of the line came about beside the stream; what it shows is kept, and C is told what it gave.
pub record HasQueried (line : List ℕ) (old new : OpenDatabase) (told : Rows) (given : Executed) : Type 0 where
  pub effect : Effect
  pub is : IsEffectOfLine old.inner.session (without_return line) effect
  pub gave : HasGiven new.inner.session effect given (values_of new.queried)
  pub tells : Tells new.queried given told
  pub stream : StaysInStream old.inner.session new.inner.session
  pub shared : new.inner.shared ≡ old.inner.shared
  pub statements : SameStatements old.inner new.inner

-- So it is, and the answer is empty.
pub record Queries (line : List ℕ) (old new : OpenDatabase) (told : Rows) : Type 0 where
  pub given : Executed
  pub done : HasQueried line old new told given
  pub answer : new.answer ≡ []

-- Nothing comes of the line, and the answer is the refusal.
pub record IsUnqueried (line : List ℕ) (old new : OpenDatabase) : Type 0 where
  pub why : Refusal
  pub unqueried : querying.IsUnqueried old.inner.session (without_return line) why
  pub answer : new.answer ≡ refusal_text why
