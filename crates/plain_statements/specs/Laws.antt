-- Laws of statements.
use Rattle.std.specs.Prelude.{◌≡◌, List, [], map, Result, Err, MatchResult}
use Rattle.plain_tables.specs.Databases.{Database}
use Rattle.plain_tables.specs.ResolvedLaws.{emptied}
use Rattle.plain_tables.specs.Resolving.{resolved_of}
use Rattle.plain_tables.specs.declared.value.Value.{Value}
use Rattle.plain_tables.specs.declared.refusal.Refusal.{Refusal}
use Rattle.plain_statements.specs.declared.statement.Statement.{Statement}
use Rattle.plain_statements.specs.declared.resolution.Resolution.{Resolution}
use Rattle.plain_statements.specs.Filling.{filled}
use Rattle.plain_statements.specs.Finishing.{finished}

-- The resolution is the statement's: whatever values fill it, the filled command means what the finished resolution does.
abbrev pub Resolves : Database → Statement → Resolution → Type 0
Resolves tables s r = (values : List Value) → resolved_of [] tables (filled values s) ≡ finished values r

-- The statement is refused so: whatever values fill it, the filled command is.
abbrev pub Refuses : Database → Statement → Refusal → Type 0
Refuses tables s why = (values : List Value) → resolved_of [] tables (filled values s) ≡ Err why

-- every statement has a resolution, or is refused in one way
abbrev pub FilledIsFinished : Type 0
FilledIsFinished = (tables : Database) (s : Statement) → (m : Result Resolution Refusal) × MatchResult m (Resolves tables s) (Refuses tables s)

-- A resolution stays right as long as the tables have the same names and columns.
abbrev pub ResolutionStays : Type 0
ResolutionStays =
    (tables others : Database) (s : Statement) (r : Resolution) → map emptied tables ≡ map emptied others → Resolves tables s r → Resolves others s r
