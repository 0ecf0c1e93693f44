-- Rows of one relation among others that are hidden, and shown again.
use Rattle.std.specs.Prelude.{◌≡◌, ◌≢◌, ℕ, ◌+◌, ◌-◌, ◌*◌, ◌≤◌, ◌++◌, List, Some, None, IsSome, All, Contains, drop, length, slice_get, slice_set, take}
use Rattle.std.specs.List.{AllPairs}
use Rattle.std.specs.FinMap as finite
use Rattle.part_raw.specs.declared.tuple_ref.TupleRef.{TupleRef}
use Rattle.mm_relation.specs.Rows.{Row, referrers_at}
use Rattle.mm_relation.specs.Order.{KeysDiffer}
use Rattle.mm_relation.specs.State.{RelationState, IsKept, IsReadable, IsCurrent, linked_keys}
use Rattle.mm_catalog.specs.Counted.{AreCountedBy, HaveRoom, IsHeldIn, naming, none}
use Rattle.mm_catalog.specs.Deleted.{AreDeleted}
use Rattle.mm_catalog.specs.Linked.{relation_links, row_links}
use Rattle.mm_catalog.specs.Outline.{with_those}
use Rattle.mm_catalog.specs.Recounted.{KeepsColumns}

-- one row more, under a reference that was free; no link names it
pub record IsMore (old new : RelationState) (r : TupleRef) (row : Row) : Type 0 where
  pub free : finite.get old.rows r ≡ None
  pub rows : new.rows ≡ finite.insert old.rows r row
  pub referrers : new.referrers ≡ finite.insert old.referrers r 0
  pub keeps : KeepsColumns old new

-- these rows are hidden, each under its reference, and no others more
pub record AreHidden (old new : RelationState) (refs : List TupleRef) : Type 0 where
  pub hidden : (r : TupleRef) → Contains refs r → finite.get new.hidden r ≡ finite.get old.rows r
  pub others : (r : TupleRef) → (Contains refs r → ⊥) → finite.get new.hidden r ≡ finite.get old.hidden r

-- these hidden rows, which were no rows, are rows again, each under its reference; no link names one, and no other row differs
pub record AreShown (old new : RelationState) (refs : List TupleRef) : Type 0 where
  pub shown : (r : TupleRef) → Contains refs r → finite.get new.rows r ≡ finite.get old.hidden r
  pub apart : (r : TupleRef) → Contains refs r → finite.get old.rows r ≡ None
  pub gone : (r : TupleRef) → Contains refs r → finite.get new.hidden r ≡ None
  pub free : (r : TupleRef) → Contains refs r → referrers_at new.referrers r ≡ 0
  pub others : (r : TupleRef) → (Contains refs r → ⊥) → finite.get new.rows r ≡ finite.get old.rows r
  pub hidden : (r : TupleRef) → (Contains refs r → ⊥) → finite.get new.hidden r ≡ finite.get old.hidden r
  pub counts : (r : TupleRef) → (Contains refs r → ⊥) → referrers_at new.referrers r ≡ referrers_at old.referrers r
  pub keeps : KeepsColumns old new

-- Each row has as many referrers more as the second relation has links to it more than the first. They are the links of so many rows.
pub record AreLinked (old new : List RelationState) (before after : RelationState) (rows : ℕ) : Type 0 where
  pub more : ℕ → TupleRef → ℕ
  pub few : (table : ℕ) (r : TupleRef) → more table r ≤ rows * length before.targets
  pub counted : AreCountedBy old new more none
  pub links : (table : ℕ) (r : TupleRef) → more table r + naming (relation_links before) table r ≡ naming (relation_links after) table r

-- these rows of the relation of a number are hidden, and owed beside those that it hid already
pub record AreHiddenAt (old new : List RelationState) (n : ℕ) (refs : List TupleRef) : Type 0 where
  pub deleted : AreDeleted old new n refs
  pub hidden : AreHidden deleted.before deleted.after refs
  pub apart : (r : TupleRef) → IsSome (finite.get deleted.before.hidden r) → finite.get deleted.before.rows r ≡ None
  pub few : finite.len deleted.before.hidden ≤ deleted.before.owed
  pub owed : deleted.after.owed ≡ deleted.before.owed + length refs

-- These hidden rows can be rows of a relation again, beside those before it: they can be read there, each row that they name is
-- there, no two rows have one key then, and there is room.
pub record CanBeShown (before : List RelationState) (s : RelationState) (refs : List TupleRef) : Type 0 where
  pub kept : All IsKept before
  pub hidden : All (λ r. IsSome (finite.get s.hidden r)) refs
  pub once : AllPairs (λ q r. q ≢ r) refs
  pub keys : KeysDiffer (with_those refs s.hidden s.rows)
  pub few : finite.len s.rows + length refs ≤ 16777216
  pub readable : (r : TupleRef) (row : Row) → Contains refs r → finite.get s.hidden r ≡ Some row → IsReadable (linked_keys s.targets before) (length s.targets) row
  pub named : (r : TupleRef) (row : Row) → Contains refs r → finite.get s.hidden r ≡ Some row → All (IsHeldIn before) (row_links s.targets row)
  pub room : HaveRoom before (length refs * length s.targets)
  pub current : IsCurrent (linked_keys s.targets before) s

abbrev pub CanShow : List RelationState → ℕ → List TupleRef → Type 0
CanShow relations n refs = (s : RelationState) → slice_get relations n ≡ Some s → CanBeShown (take n relations) s refs

-- these hidden rows of the relation of a number are rows again, which are owed no longer, and the rows that they name gain referrers
pub record AreShownAt (old new : List RelationState) (n : ℕ) (refs : List TupleRef) : Type 0 where
  pub front : List RelationState
  pub before : RelationState
  pub after : RelationState
  pub there : slice_get old n ≡ Some before
  pub list : new ≡ front ++ slice_set (drop n old) 0 after
  pub linked : AreLinked (take n old) front before after (length refs)
  pub shown : AreShown before after refs
  pub owed : after.owed ≡ before.owed - length refs
  pub kept : IsKept after
  pub current : IsCurrent (linked_keys before.targets (take n old)) after
