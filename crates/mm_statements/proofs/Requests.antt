-- Requests: an answer to a request whose line declares and drops no table leaves the names and columns of tables.
use Rattle.std.proofs.Common.{◌≡◌, ◌∙◌, ℕ, Bool, List, map, true, false, refl, sym, subst, inl, inr, Ok, IfOk}
use Rattle.std.proofs.lemmas.Bool.{cases_Bool, false≢true}
use Rattle.plain_tables.specs.CommandLaws.{table_of}
use Rattle.plain_tables.specs.Databases.{Database}
use Rattle.plain_tables.specs.Doing.{done, with_index, without_index}
use Rattle.plain_tables.specs.Effects.{Check, Effect}
use Rattle.plain_tables.specs.ResolvedLaws.{emptied}
use Rattle.plain_tables.specs.Resolving.{drop_index_checks, index_checks, meaning, number_of, on_column, on_numbered, resolved_of}
use Rattle.plain_tables.specs.Spelling.{Spells}
use Rattle.plain_tables.specs.Tables.{Table}
use Rattle.plain_tables.specs.CsvReading.{Record}
use Rattle.plain_tables.specs.declared.command.Command.{Command}
use Rattle.plain_tables.specs.declared.command.Command.TheVariants as command
use Rattle.plain_tables.specs.declared.command.Limits.{Limits}
use Rattle.plain_tables.specs.declared.numbers.ColumnNumber.{ColumnNumber}
use Rattle.plain_tables.specs.declared.numbers.TableNumber.{TableNumber}
use Rattle.plain_tables.specs.declared.resolved.Resolved.{Resolved}
use Rattle.plain_tables.specs.declared.resolved.Resolved.TheVariants as resolved
use Rattle.plain_tables.proofs.Changes.{own_rows_change, map_set_alike}
use Rattle.plain_tables.proofs.Effects.{effect_satisfies, of_table_satisfies}
use Rattle.plain_tables.proofs.Meanings.{satisfies, if_checked, if_numbered, if_on_column}
use Rattle.plain_tables.proofs.ResolvedCommands.{own_rows}
use Rattle.mm_csv.specs.BlockReading.{block_records}
use Rattle.plain_streams.specs.Requests.{Request, without_return}
use Rattle.plain_streams.specs.Runs.{Answers, IsEffect, line_of}
use Rattle.plain_streams.specs.Runs as runs
use Rattle.mm_prepared.specs.Declaring.{IsOfTables, declares}
use Rattle.mm_statements.specs.Right.{AreNoted}
use Rattle.mm_prepared.specs.declared.kept.Statements.{Statements}
use Rattle.mm_shared.specs.declared.noted.NotedTables.{NotedTables}
use Rattle.mm_statements.proofs.Changes.{same_schemas}
use Rattle.mm_statements.proofs.NotedMeanings.{noted-stays}

-- the tables have the same names and columns
abbrev SameSchemas : Database → Database → Type 0
SameSchemas old new = map emptied new ≡ map emptied old

-- ---- commands

-- what an index is declared or dropped of has the same names and columns
index-schemas : (limits : Limits) (tables : Database) (name column : List ℕ) (checks : Table → ColumnNumber → List Check) (gives : TableNumber → ColumnNumber → Resolved)
    → ((n : TableNumber) (c : ColumnNumber) → SameSchemas tables (done limits tables (gives n c)).database)
    → IfOk (on_numbered name tables (λ n table. on_column column table (λ c. meaning (checks table c) (gives n c))))
    (λ r. SameSchemas tables (done limits tables r).database)
index-schemas limits tables name column checks gives same =
    if_numbered _ name tables _ (λ table there. if_on_column _ column table _
    (λ place within. if_checked _ (checks table place.column) _ (λ passed. same (number_of name tables) place.column)))

resolved-schemas : (records : List Record) (limits : Limits) (tables : Database) (c : Command) (r : Resolved) → declares c ≡ false
    → resolved_of records tables c ≡ Ok r → SameSchemas tables (done limits tables r).database
resolved-schemas records limits tables (command.Table name schema) r not is = absurd (false≢true (sym not))
resolved-schemas records limits tables (command.DropTable name) r not is = absurd (false≢true (sym not))
resolved-schemas records limits tables (command.Index name column k) r not is =
    satisfies _ _ r is (index-schemas limits tables name column (λ table c. index_checks table c k) (λ n c. resolved.Index n c k)
    (λ n c. of_table_satisfies (λ e. SameSchemas tables e.database) n tables _ (λ why. refl)
    (λ table there. map_set_alike emptied tables n.0 table (with_index c k table) there refl)))
resolved-schemas records limits tables (command.DropIndex name column k) r not is =
    satisfies _ _ r is (index-schemas limits tables name column (λ table c. drop_index_checks table c k) (λ n c. resolved.DropIndex n c k)
    (λ n c. of_table_satisfies (λ e. SameSchemas tables e.database) n tables _ (λ why. refl)
    (λ table there. map_set_alike emptied tables n.0 table (without_index c k table) there refl)))
resolved-schemas records limits tables command.Tables r not is =
    let same : resolved.Tables ≡ r = cc in subst (λ q. SameSchemas tables (done limits tables q).database) same refl
resolved-schemas records limits tables c r not is =
    same_schemas tables _ (own_rows_change limits tables r (number_of (table_of c) tables) (own_rows records tables c r refl is)).all_but_rows

-- ---- requests

-- the line of the request declares and drops no table
abbrev pub DeclaresNone : Request → Type 0
DeclaresNone request = (c : Command) → Spells (line_of request) c → declares c ≡ false

effect-schemas : (limits : Limits) (tables : Database) (request : Request) (e : Effect) → IsEffect limits tables request e
    → DeclaresNone request → SameSchemas tables e.database
effect-schemas limits tables request e (runs.command c readable heard spells has) none =
    effect_satisfies (λ e. SameSchemas tables e.database) (block_records request.block) limits tables c (λ why. refl)
    (λ r is. resolved-schemas (block_records request.block) limits tables c r (none c spells) is)
effect-schemas limits tables request e other none = refl

answers-schemas : (limits : Limits) (before : Database) (request : Request) (answer : List ℕ) (after : Database)
    → Answers limits before request answer after → DeclaresNone request → SameSchemas before after
answers-schemas limits before request answer after (runs.silent readable is) none = refl
answers-schemas limits before request answer after (runs.effect e is) none = effect-schemas limits before request e is none
answers-schemas limits before request answer after (runs.no_memory readable heard has) none = refl

-- a line that begins as no other does declares and drops no table
pub declares-none : (line block : List ℕ) (may : Bool) → (IsOfTables (without_return line) → may ≡ true) → may ≡ false
    → DeclaresNone (record { line = line; block = block })
declares-none line block may says other c spells =
    elim (cases_Bool (declares c)) [
      | inl of ↦ absurd (false≢true (sym other ∙ says (c, spells, of)))
      | inr none ↦ none
    ]

-- What is noted stays so over such a request.
pub answered-noted : (limits : Limits) (before : Database) (request : Request) (answer : List ℕ) (after : Database) (noted : NotedTables) (statements : Statements)
    → Answers limits before request answer after → DeclaresNone request → AreNoted before noted statements → AreNoted after noted statements
answered-noted limits before request answer after noted statements answers none is =
    noted-stays before after noted statements (sym (answers-schemas limits before request answer after answers none)) is
