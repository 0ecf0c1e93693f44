-- Relations whose rows are counted anew as links come and go.
use Rattle.std.specs.Prelude.{◌≡◌, ◌≢◌, ℕ, ◌<◌, List, IsSome, Some, length, slice_get}
use Rattle.std.specs.FinMap as finite
use Rattle.part_raw.specs.declared.tuple_ref.TupleRef.{TupleRef}
use Rattle.mm_relation.specs.Rows.{referrers_at}
use Rattle.mm_relation.specs.Reading.{key_at}
use Rattle.mm_relation.specs.State.{RelationState}

-- the columns, where their links lead, the declared indexes, and whether referrers are counted are as they were
pub record KeepsColumns (old new : RelationState) : Type 0 where
  pub schema : new.schema ≡ old.schema
  pub targets : new.targets ≡ old.targets
  pub declared : new.declared ≡ old.declared
  pub counted : new.counted ≡ old.counted

-- the hidden rows are as they were, and so is how many rows are owed
pub record KeepsAside (old new : RelationState) : Type 0 where
  pub hidden : new.hidden ≡ old.hidden
  pub owed : new.owed ≡ old.owed

-- the numbers of the rows' referrers are others, and nothing else
abbrev pub IsRecounted : RelationState → RelationState → Type 0
IsRecounted old new = new ≡ record old { referrers = new.referrers }

-- as many relations, and each is the old one but for numbers of referrers
pub record AreRecounted (old new : List RelationState) : Type 0 where
  pub count : length new ≡ length old
  pub each : (k : ℕ) (s t : RelationState) → slice_get old k ≡ Some s → slice_get new k ≡ Some t → IsRecounted s t

-- each row has so many referrers
abbrev pub HaveReferrers : List RelationState → (ℕ → TupleRef → ℕ) → Type 0
HaveReferrers relations count =
    (table : ℕ) (s : RelationState) (r : TupleRef) → slice_get relations table ≡ Some s → IsSome (finite.get s.rows r) → referrers_at s.referrers r ≡ count table r

-- The relation of a number is another one over the same columns, in which each row that has referrers keeps its key. All
-- others are recounted at most.
pub record IsRewritten (old new : List RelationState) (n : ℕ) (before after : RelationState) : Type 0 where
  pub there : slice_get old n ≡ Some before
  pub here : slice_get new n ≡ Some after
  pub count : length new ≡ length old
  pub others : (k : ℕ) (s t : RelationState) → k ≢ n → slice_get old k ≡ Some s → slice_get new k ≡ Some t → IsRecounted s t
  pub keeps : KeepsColumns before after
  pub keys : (r : TupleRef) → IsSome (finite.get before.rows r) → 0 < referrers_at before.referrers r → key_at after.rows r ≡ key_at before.rows r
