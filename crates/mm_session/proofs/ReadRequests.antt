-- Reading requests: what a line means of tables, what comes of that, and what hands it back.
use Rattle.std.proofs.Common.{◌≡◌, ℕ, List, Err, refl}
use Rattle.std.specs.Prelude.{◌≢◌, IsTrue}
use Rattle.plain_tables.proofs.Given.{spellable_are_given}
use Rattle.plain_tables.proofs.ResolvedCommands.{resolved_are_meant}
use Rattle.plain_tables.proofs.Spellable.{spelled-spellable}
use Rattle.plain_tables.specs.CsvReading.{Record}
use Rattle.plain_tables.specs.Doing.{done}
use Rattle.plain_tables.specs.ResolvedLaws.{IsMeant}
use Rattle.plain_tables.specs.Resolving.{resolved_of}
use Rattle.plain_tables.specs.Spelling.{Spells}
use Rattle.plain_tables.specs.declared.command.Command.{Command}
use Rattle.plain_tables.specs.declared.command.Limits.{Limits}
use Rattle.plain_tables.specs.declared.refusal.Refusal.{Refusal}
use Rattle.plain_tables.specs.declared.refusal.Refusal.TheVariants.{NoMemory}
use Rattle.plain_tables.specs.declared.resolved.Resolved.{Resolved}
use Rattle.plain_streams.specs.Division.{IsWhole}
use Rattle.plain_streams.specs.Requests.{Request}
use Rattle.mm_lang.specs.Refusals.{refusal_of}
use Rattle.mm_lang.specs.declared.refusal.ParseRefusal.{ParseRefusal}
use Rattle.mm_lang.specs.declared.refusal.ParseRefusal.TheVariants as parsing
use Rattle.mm_catalog.specs.Changes.{IsDeclinedFor}
use Rattle.mm_catalog.specs.Seen.{database_of}
use Rattle.mm_catalog.specs.State.{CatalogState}
use Rattle.mm_session.specs.Answered.{Declines, Obeys, no_memory, not_a_command}
use Rattle.mm_session.specs.Performed.{HasPerformed}
use Rattle.mm_session.specs.Reads.{Means, MeansBy, WouldChange, changes}
use Rattle.mm_session.proofs.AnswerTexts.{declines}
use Rattle.mm_session.proofs.Performing.{does_all_resolved, does_nothing_resolved, does_nothing_unresolved}

module _ (records : List Record) (old : CatalogState) (line : List ℕ) where
  -- what a line means is meant
  pub means-meant : (limits : Limits) (r : Resolved) → MeansBy records (database_of old) line r → IsMeant limits (database_of old) r
  means-meant limits r (c, spelled, is) =
      resolved_are_meant records limits (database_of old) c r (spellable_are_given c (spelled-spellable line c spelled)) is

  -- a line that spells no command declines
  pub unparsed-declines : (why : ParseRefusal) → (why ≡ parsing.Syntax → (c : Command) → ¬ (Spells line c)) → Declines records old.limits (database_of old) line (refusal_of why)
  unparsed-declines parsing.Syntax none = not_a_command (none refl)
  unparsed-declines parsing.NoMemory none = no_memory

  -- a line that spells a command which means nothing declines
  pub unresolved-declines : (c : Command) (why : Refusal) → Spells line c → (why ≢ NoMemory → resolved_of records (database_of old) c ≡ Err why)
      → Declines records old.limits (database_of old) line why
  unresolved-declines c why spelled is =
      declines records old.limits (database_of old) (database_of old) line c why spelled (does_nothing_unresolved records old c why is)

  -- what it means was done
  pub performed-obeys : (new : CatalogState) (r : Resolved) (answer : List ℕ) → MeansBy records (database_of old) line r
      → HasPerformed old new (done old.limits (database_of old) r) answer → Obeys records old.limits (database_of old) line (database_of new) answer
  performed-obeys new r answer (c, spelled, is) performed = (c, spelled, does_all_resolved records old new c r answer is performed)

  -- or declined
  pub declined-declines : (new : CatalogState) (r : Resolved) (why : Refusal) → MeansBy records (database_of old) line r
      → IsDeclinedFor old new (done old.limits (database_of old) r) why → Declines records old.limits (database_of old) line why
  declined-declines new r why (c, spelled, is) declined =
      declines records old.limits (database_of old) (database_of new) line c why spelled (does_nothing_resolved records old new c r why is declined)

-- a whole request that means a change
pub would-change : (tables : CatalogState) (request : Request) (r : Resolved) → IsWhole request → Means (database_of tables) request r → IsTrue (changes r)
    → WouldChange (database_of tables) request
would-change tables request r whole means is = record { whole = whole; command = r; means = means; changes = is }
