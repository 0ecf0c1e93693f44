-- What the calls of a catalog do to it.
use Rattle.std.specs.Prelude.{◌≡◌, ◌⊎◌, ℕ, List, Some, slice_get, slice_set, take}
use Rattle.plain_tables.specs.Doing.{done}
use Rattle.plain_tables.specs.Effects.{Effect, Changed, Refused}
use Rattle.plain_tables.specs.declared.refusal.Refusal.{Refusal}
use Rattle.plain_tables.specs.declared.refusal.Refusal.TheVariants.{NoMemory}
use Rattle.plain_tables.specs.declared.resolved.Resolved.{Resolved}
use Rattle.mm_relation.specs.State.{RelationState, IsKept, IsCurrent, linked_keys}
use Rattle.mm_catalog.specs.State.{CatalogState}
use Rattle.mm_catalog.specs.Seen.{database_of}

-- the database is what the command leaves of it, under the same limits
pub record IsDone (old new : CatalogState) (r : Resolved) : Type 0 where
  pub database : database_of new ≡ (done old.limits (database_of old) r).database
  pub limits : new.limits ≡ old.limits

-- the database is what the effect leaves, under the same limits, and the effect changed so many rows
pub record HasEffect (old new : CatalogState) (effect : Effect) (count : ℕ) : Type 0 where
  pub database : database_of new ≡ effect.database
  pub limits : new.limits ≡ old.limits
  pub outcome : effect.outcome ≡ Changed count

-- nothing has changed: no memory was found, or the effect is this refusal
abbrev pub IsRefusedFor : CatalogState → CatalogState → Effect → Refusal → Type 0
IsRefusedFor old new effect refusal = (new ≡ old) × ((refusal ≡ NoMemory) ⊎ (effect.outcome ≡ Refused refusal))

-- the database and the limits are as before
pub record KeepsDatabase (old new : CatalogState) : Type 0 where
  pub database : database_of new ≡ database_of old
  pub limits : new.limits ≡ old.limits

-- The database is as before: no memory was found, or the effect is this refusal.
abbrev pub IsDeclinedFor : CatalogState → CatalogState → Effect → Refusal → Type 0
IsDeclinedFor old new effect refusal = KeepsDatabase old new × ((refusal ≡ NoMemory) ⊎ (effect.outcome ≡ Refused refusal))

-- The relation of a number is changed so, and no other. It keeps what it keeps, and is current beside those before it.
pub record IsChangedAt (old new : List RelationState) (n : ℕ) (change : RelationState → RelationState → Type 0) : Type 0 where
  pub before : RelationState
  pub after : RelationState
  pub there : slice_get old n ≡ Some before
  pub list : new ≡ slice_set old n after
  pub changed : change before after
  pub kept : IsKept after
  pub current : IsCurrent (linked_keys before.targets (take n old)) after

-- the relation of a number is current beside those before it
abbrev pub IsCurrentAt : List RelationState → ℕ → Type 0
IsCurrentAt relations n =
    (s : RelationState) → slice_get relations n ≡ Some s → IsCurrent (linked_keys s.targets (take n relations)) s
