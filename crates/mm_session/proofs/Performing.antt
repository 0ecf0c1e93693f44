-- Commands that a catalog declines, and the effect that they are refused by.
use Rattle.std.proofs.Common.{◌≡◌, ℕ, List, Ok, Err, ap, refl, sym, ◌∙◌, inl, inr}
use Rattle.std.specs.Prelude.{◌⊎◌, ◌≢◌}
use Rattle.plain_tables.specs.Databases.{Database}
use Rattle.plain_tables.specs.CsvReading.{Record}
use Rattle.plain_tables.specs.Effects.{Effect, Outcome, Refused, refused}
use Rattle.plain_tables.specs.Resolving.{resolved_of}
use Rattle.plain_tables.specs.Doing.{done}
use Rattle.plain_tables.specs.ResolvedLaws.{KeepsIfRefused}
use Rattle.plain_tables.proofs.Changes.{refused_keeps}
use Rattle.plain_tables.specs.declared.command.Command.{Command}
use Rattle.plain_tables.specs.declared.refusal.Refusal.{Refusal}
use Rattle.plain_tables.specs.declared.refusal.Refusal.TheVariants.{NoMemory}
use Rattle.plain_tables.specs.declared.resolved.Resolved.{Resolved}
use Rattle.mm_catalog.specs.State.{CatalogState}
use Rattle.mm_catalog.specs.Seen.{database_of}
use Rattle.mm_catalog.specs.Changes.{IsDeclinedFor}
use Rattle.mm_session.specs.Answered.{DoesAll, DoesNothing}
use Rattle.mm_session.specs.Performed.{HasPerformed}
use Rattle.plain_tables.specs.AnswerText.{answer_text}
use Rattle.plain_tables.specs.Commands.{effect_of, effect_of_resolved}

refused_so : (tables : Database) (e : Effect) (why : Refusal) → KeepsIfRefused tables e → e.outcome ≡ Refused why → e ≡ refused tables why
refused_so tables e why keeps is =
    ap (λ (d : Database). record { database = d; outcome = e.outcome }) (keeps why is)
    ∙ ap (λ (o : Outcome). record { database = tables; outcome = o }) is

-- what is declined is refused by the effect itself, if it isn't for want of memory
pub declined_unchanged : (old new : CatalogState) (r : Resolved) (why : Refusal) → IsDeclinedFor old new (done old.limits (database_of old) r) why
    → (database_of new ≡ database_of old) × ((why ≡ NoMemory) ⊎ (done old.limits (database_of old) r ≡ refused (database_of old) why))
declined_unchanged old new r why (same, because) = (
  same.database,
  elim because [
    | inl none ↦ inl none
    | inr so ↦ inr (refused_so (database_of old) (done old.limits (database_of old) r) why (refused_keeps old.limits (database_of old) r) so)
  ],
)

pub does_nothing_resolved : (records : List Record) (old new : CatalogState) (c : Command) (r : Resolved) (why : Refusal)
    → resolved_of records (database_of old) c ≡ Ok r → IsDeclinedFor old new (done old.limits (database_of old) r) why
    → DoesNothing (effect_of records old.limits (database_of old) c) (database_of old) (database_of new) why
does_nothing_resolved records old new c r why is declined =
    let unchanged = declined_unchanged old new r why declined in (
      unchanged.0,
      elim unchanged.1 [ inl none ↦ inl none | inr so ↦ inr (ap (effect_of_resolved old.limits (database_of old)) is ∙ so) ],
    )

-- it is for want of memory, or what is so of any other reason
none_or : (why : Refusal) (P : Type 0) → (why ≢ NoMemory → P) → (why ≡ NoMemory) ⊎ P
none_or NoMemory P other = inl refl
none_or why P other = inr (other (λ is. cc))

-- and so nothing is done by a command that means nothing of the tables
pub does_nothing_unresolved : (records : List Record) (old : CatalogState) (c : Command) (why : Refusal)
    → (why ≢ NoMemory → resolved_of records (database_of old) c ≡ Err why)
    → DoesNothing (effect_of records old.limits (database_of old) c) (database_of old) (database_of old) why
does_nothing_unresolved records old c why is =
    (refl, none_or why (effect_of records old.limits (database_of old) c ≡ refused (database_of old) why) (λ other. ap (effect_of_resolved old.limits (database_of old)) (is other)))

-- and what it means is done
pub does_all_resolved : (records : List Record) (old new : CatalogState) (c : Command) (r : Resolved) (answer : List ℕ)
    → resolved_of records (database_of old) c ≡ Ok r → HasPerformed old new (done old.limits (database_of old) r) answer
    → DoesAll (effect_of records old.limits (database_of old) c) (database_of new) answer
does_all_resolved records old new c r answer is performed =
    let same : effect_of records old.limits (database_of old) c ≡ done old.limits (database_of old) r = ap (effect_of_resolved old.limits (database_of old)) is in
    (ap (λ (e : Effect). e.database) same ∙ sym performed.database, performed.told ∙ ap (λ (e : Effect). answer_text e.outcome) (sym same))
