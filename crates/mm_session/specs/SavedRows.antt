-- On the way to a piece of rows: which are found, which have room in a block, and why their updates are not put.
use Rattle.std.specs.Prelude.{◌≡◌, ℕ, ◌+◌, ◌<◌, ◌≤◌, List, [], ◌∷◌, ◌++◌, Option, None, Some, IsSome, length, map, take}
use Rattle.std.specs.FinMap as finite
use Rattle.std.specs.List.{flat_map}
use Rattle.part_raw.specs.declared.tuple_ref.TupleRef.{TupleRef}
use Rattle.plain_tables.specs.Csv.{row_record}
use Rattle.plain_tables.specs.Tables.{Row}
use Rattle.plain_tables.specs.declared.condition.Op.TheVariants as op
use Rattle.plain_tables.specs.declared.resolved.Test.{Test}
use Rattle.mm_relation.specs.State.{RelationState}
use Rattle.mm_catalog.specs.Picked.{seen_values}
use Rattle.mm_catalog.specs.State.{CatalogState}
use Rattle.temp_list.specs.Reading.{value_in}
use Rattle.mm_session.specs.Saving.{block_of}
use Rattle.mm_session.specs.declared.saving.SaveFault.{SaveFault}
use Rattle.mm_session.specs.declared.saving.SaveFault.TheVariants as fault

-- There is no memory for updates, or they cannot be spelled, which this says.
abbrev pub IsStopped : Type 0 → SaveFault → Type 0
IsStopped unspellable (fault.NoMemory refused) = Unit {0}
IsStopped unspellable fault.Unspellable = unspellable
IsStopped unspellable other = ⊥

-- the row, if there is one, is held
abbrev pub IsHeld : RelationState → Option TupleRef → Type 0
IsHeld s None = Unit {0}
IsHeld s (Some r) = IsSome (finite.get s.rows r)

-- There is no memory for tests, or the row is not held.
abbrev pub IsNotFound : RelationState → Option TupleRef → SaveFault → Type 0
IsNotFound s after (fault.NoMemory refused) = Unit {0}
IsNotFound s after fault.NoSuchPlace = ¬ (IsHeld s after)
IsNotFound s after other = ⊥

-- the tests that the rows behind one pass: that their keys are above its key
abbrev pub tests_behind : CatalogState → RelationState → Option TupleRef → List Test
tests_behind c s None = []
tests_behind c s (Some r) = record { column = record { 0 = 0 }; op = op.Gt; value = value_in c.relations s 0 r } ∷ []

-- Of the rows the first, so many, have room behind a front within the limit: they end there. The next has none.
pub record HaveRoom (limit : ℕ) (front whole : List ℕ) (rows : List Row) (count end : ℕ) : Type 0 where
  pub few : count ≤ length rows
  pub made : take end whole ≡ front ++ flat_map row_record (take count rows)
  pub within : 0 < count → end ≤ limit
  pub next : count < length rows → limit < length (front ++ flat_map row_record (take (count + 1) rows))

-- The bytes are the block of the first of these rows, so many, which have room in it. With one more it has none.
pub record IsFilled (c : CatalogState) (s : RelationState) (refs : List TupleRef) (bytes : List ℕ) (count : ℕ) : Type 0 where
  pub few : count ≤ length refs
  pub made : bytes ≡ block_of s.schema.columns (map (seen_values c s) (take count refs))
  pub within : 0 < count → length bytes ≤ c.limits.block
  pub next : count < length refs → c.limits.block < length (block_of s.schema.columns (map (seen_values c s) (take (count + 1) refs)))
