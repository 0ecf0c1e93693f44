-- Effect: a database afterwards and an answer, the checks before it, and what they ask.
use Rattle.std.specs.Prelude.{ℕ, List, [], ◌∷◌, Bool, false, ◌||◌, not, nat_lt, length, map, if◌then◌else◌, None}
use Rattle.std.specs.List.{list_any}
use Rattle.plain_tables.specs.Tables.{Table, Row, with_row}
use Rattle.plain_tables.specs.Databases.{Database}
use Rattle.plain_tables.specs.Queries.{JoinedColumn, fits_one}
use Rattle.plain_tables.specs.declared.value.Value.{Value}
use Rattle.plain_tables.specs.declared.value.Value.TheVariants as value
use Rattle.plain_tables.specs.declared.condition.ColName.{ColName}
use Rattle.plain_tables.specs.declared.condition.Cond.{Cond}
use Rattle.plain_tables.specs.declared.refusal.Refusal.{Refusal}
use Rattle.plain_tables.specs.declared.schema.Schema.{Schema}
use Rattle.plain_tables.specs.declared.schema.Column.{Column}
use Rattle.plain_tables.specs.declared.command.Setting.{Setting}

-- What a command answers: that it is done, how many rows it changed, the rows of a table under the names of
-- their columns, a table's name and the block of its rows, what tables there are, or why it is refused.
pub data Outcome : Type 0 where
  Done : Outcome
  Changed : ℕ → Outcome
  Rows : List (List ℕ) → List Row → Outcome
  Dumped : List ℕ → List ℕ → Outcome
  Listed : Database → Outcome
  Refused : Refusal → Outcome

-- the database afterwards, and the answer
pub record Effect : Type 0 where
  pub database : Database
  pub outcome : Outcome

-- a refusal, which leaves the database as it was
abbrev pub refused : Database → Refusal → Effect
refused tables refusal = record { database = tables; outcome = Refused refusal }

-- ---- checks

-- a check of a command: whether it refuses, and by which refusal
pub record Check : Type 0 where
  pub refuses : Bool
  pub refusal : Refusal

-- Checks are made in their order. The first that refuses is the answer, and then nothing has changed. If none refuses,
-- the command has its effect.
abbrev pub checked : Database → List Check → Effect → Effect
checked tables [] effect = effect
checked tables (check ∷ checks) effect =
    if check.refuses then refused tables check.refusal
    else checked tables checks effect

-- ---- what checks ask

-- whether a list has two elements that this test calls the same
abbrev pub repeats : {X : Type 0} → (X → X → Bool) → List X → Bool
repeats same [] = false
repeats same (x ∷ xs) = list_any (same x) xs || repeats same xs

-- the names of columns
abbrev pub column_names : List Column → List (List ℕ)
column_names columns = map (λ c. c.name) columns

-- whether one of the names fits no column, or several
abbrev pub misses : List JoinedColumn → List ColName → Bool
misses columns names = list_any (λ name. not (fits_one columns name)) names

-- whether a text is past 1,024 bytes
abbrev pub is_long : Value → Bool
is_long value.Null = false
is_long (value.Int z) = false
is_long (value.Text text) = nat_lt 1024 (length text)

-- the columns that conditions name
abbrev pub condition_names : List Cond → List ColName
condition_names conditions = map (λ c. c.column) conditions

-- A setting names a column of the one table, without the table's name.
abbrev pub setting_name : Setting → ColName
setting_name setting = record { table = None; column = setting.column }

-- ---- changed tables

-- a new table has these columns, no index and no rows
abbrev pub new_table : List ℕ → Schema → Table
new_table name schema = record { name = name; columns = schema.columns; indexes = []; rows = [] }

-- the table with one row more
abbrev pub grown_by : Row → Table → Table
grown_by row table = record table { rows = with_row row table.rows }
