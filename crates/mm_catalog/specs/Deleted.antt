-- What a delete does to relations.
use Rattle.std.specs.Prelude.{◌≡◌, ℕ, ◌+◌, ◌<◌, ◌++◌, List, Some, None, All, Any, Contains, drop, slice_get, slice_set, take}
use Rattle.std.specs.FinMap as finite
use Rattle.part_raw.specs.declared.tuple_ref.TupleRef.{TupleRef}
use Rattle.mm_relation.specs.Rows.{Row, referrers_at}
use Rattle.mm_relation.specs.State.{RelationState, IsKept, IsCurrent, linked_keys}
use Rattle.mm_catalog.specs.Linked.{relation_links}
use Rattle.mm_catalog.specs.Counted.{AreCountedBy, naming, none}
use Rattle.mm_catalog.specs.Recounted.{KeepsColumns, KeepsAside}

-- links name this row
abbrev pub IsReferenced : RelationState → TupleRef → Type 0
IsReferenced s r = (row : Row) × (finite.get s.rows r ≡ Some row) × (0 < referrers_at s.referrers r)

-- no link does
abbrev pub IsFree : RelationState → TupleRef → Type 0
IsFree s r = referrers_at s.referrers r ≡ 0

-- this row less; it may be hidden now
pub record IsGone (old new : RelationState) (r : TupleRef) : Type 0 where
  pub rows : new.rows ≡ finite.remove old.rows r
  pub referrers : new.referrers ≡ finite.remove old.referrers r
  pub keeps : KeepsColumns old new

-- these rows less, and no other differs; they may be hidden now
pub record AreRemoved (old new : RelationState) (refs : List TupleRef) : Type 0 where
  pub gone : (r : TupleRef) → Contains refs r → finite.get new.rows r ≡ None
  pub others : (r : TupleRef) → (Contains refs r → ⊥) → finite.get new.rows r ≡ finite.get old.rows r
  pub counts : (r : TupleRef) → (Contains refs r → ⊥) → referrers_at new.referrers r ≡ referrers_at old.referrers r
  pub keeps : KeepsColumns old new

-- each row has as many referrers fewer as the one relation has links to it fewer than the other
pub record AreUnlinked (old new : List RelationState) (before after : RelationState) : Type 0 where
  pub fewer : ℕ → TupleRef → ℕ
  pub counted : AreCountedBy old new none fewer
  pub links : (table : ℕ) (r : TupleRef) → fewer table r + naming (relation_links after) table r ≡ naming (relation_links before) table r

-- these rows of the relation of a number go, and the rows that they name lose the referrers
pub record AreDeleted (old new : List RelationState) (n : ℕ) (refs : List TupleRef) : Type 0 where
  pub front : List RelationState
  pub before : RelationState
  pub after : RelationState
  pub there : slice_get old n ≡ Some before
  pub list : new ≡ front ++ slice_set (drop n old) 0 after
  pub unlinked : AreUnlinked (take n old) front before after
  pub removed : AreRemoved before after refs
  pub kept : IsKept after
  pub current : IsCurrent (linked_keys before.targets (take n old)) after

-- they go for good
pub record AreTakenOut (old new : List RelationState) (n : ℕ) (refs : List TupleRef) : Type 0 where
  pub deleted : AreDeleted old new n refs
  pub aside : KeepsAside deleted.before deleted.after

-- the relation of a number has this of each of these rows, or of some
abbrev pub AllFree : List RelationState → ℕ → List TupleRef → Type 0
AllFree relations n refs = (s : RelationState) → slice_get relations n ≡ Some s → All (IsFree s) refs

abbrev pub AnyReferenced : List RelationState → ℕ → List TupleRef → Type 0
AnyReferenced relations n refs = (s : RelationState) → slice_get relations n ≡ Some s → Any (IsReferenced s) refs
