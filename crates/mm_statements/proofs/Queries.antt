-- Querying: what comes of the command that a line spells.
use Rattle.std.proofs.Common.{◌≡◌, ◌≢◌, ◌∙◌, ℕ, true, false, List, [], refl, sym, ap, subst, ⊎_elim, Ok, Err, Result, IfOk}
use Rattle.std.proofs.lemmas.Bool.{false≢true}
use Rattle.plain_tables.specs.Commands.{effect_of_resolved}
use Rattle.plain_tables.specs.CsvReading.{Record}
use Rattle.plain_tables.specs.Databases.{Database}
use Rattle.plain_tables.specs.Doing.{done}
use Rattle.plain_tables.specs.ResolvedLaws.{IsMeant}
use Rattle.plain_tables.specs.Resolving.{delete_checks, insert_checks, resolved_of, select_checks, update_checks}
use Rattle.plain_tables.specs.Spelling.{Spells}
use Rattle.plain_tables.specs.declared.command.Command.{Command}
use Rattle.plain_tables.specs.declared.command.Command.TheVariants as command
use Rattle.plain_tables.specs.declared.command.Limits.{Limits}
use Rattle.plain_tables.specs.declared.refusal.Refusal.{Refusal}
use Rattle.plain_tables.specs.declared.refusal.Refusal.TheVariants as refusal
use Rattle.plain_tables.specs.declared.resolved.Query.{Query}
use Rattle.plain_tables.specs.declared.resolved.Resolved.{Resolved}
use Rattle.plain_tables.specs.declared.resolved.Resolved.TheVariants as resolved
use Rattle.plain_tables.proofs.Given.{spellable_are_given}
use Rattle.plain_tables.proofs.Meanings.{satisfies, if_checked, if_numbered}
use Rattle.plain_tables.proofs.ResolvedCommands.{resolved_are_meant}
use Rattle.plain_tables.proofs.Spellable.{spelled-spellable}
use Rattle.plain_tables.proofs.Uniqueness.{spells-one}
use Rattle.plain_streams.specs.Requests.{IsReadable}
use Rattle.mm_lang.specs.Refusals.{refusal_of}
use Rattle.mm_lang.specs.declared.refusal.ParseRefusal.{ParseRefusal}
use Rattle.mm_lang.specs.declared.refusal.ParseRefusal.TheVariants as parsing
use Rattle.mm_session.specs.Changing.{HasDeclined, IsChange}
use Rattle.mm_session.specs.Sessions.{State}
use Rattle.mm_session.specs.declared.fault.SelectFault.{SelectFault}
use Rattle.mm_session.specs.declared.fault.SelectFault.TheVariants as selecting
use Rattle.mm_shared.specs.Faults.{IsUndone}
use Rattle.mm_statements.specs.Faults.{query_fault_of, query_fault_of_change}
use Rattle.mm_shared.specs.declared.faults.ChangeFault.{ChangeFault}
use Rattle.mm_shared.specs.declared.faults.ChangeFault.TheVariants as changing
use Rattle.mm_statements.specs.Querying.{IsEffectOfLine, IsMeaningOfLine, IsUnanswered, IsUnqueried, is_statement}
use Rattle.mm_statements.specs.Querying as querying
use Rattle.mm_statements.specs.Resolving.{IsOfRows}
use Rattle.mm_statements.specs.declared.faults.QueryFault.TheVariants as fault

-- ---- what such a command is resolved to

-- no block plays a part in it
pub blockless : (records : List Record) (tables : Database) (c : Command) → is_statement c ≡ true → resolved_of records tables c ≡ resolved_of [] tables c
blockless records tables (command.Insert table values) is = refl
blockless records tables (command.Update table settings conditions) is = refl
blockless records tables (command.Delete table conditions) is = refl
blockless records tables (command.Select distinct items table joins conditions) is = refl
blockless records tables c is = absurd (false≢true is)

statement-rows : (tables : Database) (c : Command) → is_statement c ≡ true → IfOk (resolved_of [] tables c) IsOfRows
statement-rows tables (command.Insert name row) is =
    if_numbered _ name tables _ (λ table there. if_checked _ (insert_checks tables table row) _ (λ passed. tt))
statement-rows tables (command.Update name settings conditions) is =
    if_numbered _ name tables _ (λ table there. if_checked _ (update_checks tables table settings conditions) _ (λ passed. tt))
statement-rows tables (command.Delete name conditions) is =
    if_numbered _ name tables _ (λ table there. if_checked _ (delete_checks tables table conditions) _ (λ passed. tt))
statement-rows tables (command.Select distinct items name joins conditions) is =
    if_checked _ (select_checks tables items name joins conditions) _ (λ passed. tt)
statement-rows tables c is = absurd (false≢true is)

pub meaning-rows : (tables : Database) (line : List ℕ) (r : Resolved) → IsMeaningOfLine tables line (Ok r) → IsOfRows r
meaning-rows tables line r m =
    satisfies IsOfRows (resolved_of [] tables m.command) r m.means (statement-rows tables m.command m.statement)

pub meaning-meant : (limits : Limits) (tables : Database) (line : List ℕ) (r : Resolved) → IsMeaningOfLine tables line (Ok r) → IsMeant limits tables r
meaning-meant limits tables line r m =
    resolved_are_meant [] limits tables m.command r (spellable_are_given m.command (spelled-spellable line m.command m.spelled)) m.means

-- ---- its effect

pub effect-of-line : (session : State) (line : List ℕ) (m : Result Resolved Refusal) → IsMeaningOfLine session.database line m
    → IsEffectOfLine session line (effect_of_resolved session.limits session.database m)
effect-of-line session line m means = record {
  readable = means.readable;
  command = means.command;
  statement = means.statement;
  spelled = means.spelled;
  is = ap (effect_of_resolved session.limits session.database) (sym means.means);
}

-- nothing comes of a line that spells no command
pub unparsed-unqueried : (session : State) (line : List ℕ) → IsReadable line → (why : ParseRefusal) → (why ≡ parsing.Syntax → (c : Command) → ¬ (Spells line c))
    → IsUnqueried session line (refusal_of why)
unparsed-unqueried session line readable parsing.Syntax none = querying.no_statement readable (λ c is. none refl c)
unparsed-unqueried session line readable parsing.NoMemory none = querying.no_memory readable

module _ (session : State) (line : List ℕ) (readable : IsReadable line) (c : Command) (spelled : Spells line c) where
  -- a line spells no command but this
  pub other-unqueried : is_statement c ≡ false → IsUnqueried session line refusal.NotACommand
  other-unqueried other =
      querying.no_statement readable
      (λ d is spells. false≢true (sym other ∙ (ap is_statement (spells-one line c d spelled spells) ∙ is)))

  module _ (statement : is_statement c ≡ true) (records : List Record) where
    pub line-means : (m : Result Resolved Refusal) → resolved_of records session.database c ≡ m → IsMeaningOfLine session.database line m
    line-means m is = record {
      readable = readable;
      command = c;
      statement = statement;
      spelled = spelled;
      means = sym (blockless records session.database c statement) ∙ is;
    }

    -- a command that was not resolved is refused so
    pub unresolved-unqueried : (why : Refusal) → (why ≢ refusal.NoMemory → resolved_of records session.database c ≡ Err why)
        → IsUnqueried session line why
    unresolved-unqueried refusal.NoMemory says = querying.no_memory readable
    unresolved-unqueried why says = querying.refuses why (effect-of-line session line (Err why) (line-means (Err why) (says (λ e. cc))))

-- and one whose change was declined
pub change-unqueried : (old new : State) (line : List ℕ) (r : Resolved) (why : Refusal) → IsMeaningOfLine old.database line (Ok r)
    → HasDeclined old new (done old.limits old.database r) why → IsUnqueried old line why
change-unqueried old new line r why means declined =
    ⊎_elim (λ none. subst (IsUnqueried old line) (sym none) (querying.no_memory means.readable))
    (λ is. querying.refuses why (subst (IsEffectOfLine old line) is (effect-of-line old line (Ok r) means))) declined.1

-- so it is of a change that was not done
pub change-unanswered : (old new : State) (line : List ℕ) (r : Resolved) (f : ChangeFault) → IsMeaningOfLine old.database line (Ok r) → IsChange r
    → IsUndone old new (done old.limits old.database r) f → IsUnanswered old line (query_fault_of_change f)
change-unanswered old new line r (changing.Refused why) means change undone = change-unqueried old new line r why means undone
change-unanswered old new line r changing.Shared means change undone = (r, means, change)

-- ---- what the cells of a select don't take

pub select-unanswered : (session : State) (line : List ℕ) (query : Query) (f : SelectFault) → IsMeaningOfLine session.database line (Ok (resolved.Select query))
    → IsUnanswered session line (query_fault_of f)
select-unanswered session line query (selecting.NoMemory refused) means = querying.no_memory means.readable
select-unanswered session line query selecting.TooLong means = means.readable
select-unanswered session line query selecting.Interrupted means =
    (done session.limits session.database (resolved.Select query), effect-of-line session line (Ok (resolved.Select query)) means, tt)

refused-apart : (why : Refusal) → fault.Refused why ≢ fault.TooLong
refused-apart why is = cc

-- a value is too long where it was for the cells
pub full-cells : (f : SelectFault) (P : Type 0) → (f ≡ selecting.TooLong → P) → query_fault_of f ≡ fault.TooLong → P
full-cells (selecting.NoMemory refused) P full is = absurd (refused-apart refusal.NoMemory is)
full-cells selecting.TooLong P full is = full refl
full-cells selecting.Interrupted P full is = cc
