-- Rows that come into the table of a number one after the other, and go out again where one of them is refused.
use Rattle.std.specs.Prelude.{◌≡◌, ◌≢◌, ℕ, List, Some, None, IsSome, All, Contains, slice_get}
use Rattle.std.specs.List.{AllPairs}
use Rattle.std.specs.FinMap as finite
use Rattle.part_raw.specs.declared.tuple_ref.TupleRef.{TupleRef}
use Rattle.plain_tables.specs.declared.value.Value.{Value}
use Rattle.mm_relation.specs.State.{RelationState}
use Rattle.mm_catalog.specs.State.{CatalogState}
use Rattle.mm_catalog.specs.Deleted.{IsFree, AreTakenOut}
use Rattle.mm_catalog.specs.Inserted.{IsInsertedAt}
use Rattle.mm_catalog.specs.Recounted.{IsRewritten, KeepsAside}

-- the row of these values came into the table of a number under this reference, and names and limits stay
pub record HasCome (old new : CatalogState) (n : ℕ) (values : List Value) (r : TupleRef) : Type 0 where
  pub inserted : IsInsertedAt old.relations new.relations n old.limits.rows values r
  pub same : new ≡ record old { relations = new.relations }

-- the rows of these references went for good out of the table of a number, and names and limits stay
pub record HaveGone (old new : CatalogState) (n : ℕ) (refs : List TupleRef) : Type 0 where
  pub out : AreTakenOut old.relations new.relations n refs
  pub same : new ≡ record old { relations = new.relations }

-- no link names any of the rows of the table of a number that are held under these references
abbrev pub AreFreeRows : CatalogState → ℕ → List TupleRef → Type 0
AreFreeRows c n refs = (s : RelationState) → slice_get c.relations n ≡ Some s → All (IsFree s) refs

-- The table of a number has the rows of these references more, which no link names, and it has no others more or less. Of the
-- other tables only numbers of referrers differ.
pub record HasMore (old new : CatalogState) (n : ℕ) (refs : List TupleRef) : Type 0 where
  pub before : RelationState
  pub after : RelationState
  pub rewritten : IsRewritten old.relations new.relations n before after
  pub aside : KeepsAside before after
  pub same : new ≡ record old { relations = new.relations }
  pub held : All (λ r. IsSome (finite.get after.rows r)) refs
  pub free : All (IsFree after) refs
  pub fresh : All (λ r. finite.get before.rows r ≡ None) refs
  pub once : AllPairs (λ q r. q ≢ r) refs
  pub others : (r : TupleRef) → (Contains refs r → ⊥) → finite.get after.rows r ≡ finite.get before.rows r
