-- The memory that a relation keeps for the rows that it owes.
use Rattle.std.specs.Prelude.{ℕ, ◌≤◌, IsSome}
use Rattle.std.specs.FinMap.{get}
use Rattle.part_raw.specs.declared.tuple_ref.TupleRef.{TupleRef}
use Rattle.part_raw.specs.Store.{Tuples}
use Rattle.ttree_node.specs.TreeWithSpares.{TreeWithSpares}
use Rattle.ttree.specs.Room.{room_of}
use Rattle.mm_relation.specs.Rows.{Row}
use Rattle.mm_relation.specs.declared.index.IndexOn.{IndexOn}
use Rattle.mm_relation.specs.Indexes.{Indexes, room_in, CoversIn, HaveRooms, Cover}

-- a declared index can take in so many rows, the hidden ones among them
pub record IsReady (owed : ℕ) (hidden : Tuples Row) (on : IndexOn) : Type 0 where
  pub room : owed ≤ room_in on.index
  pub covered : (r : TupleRef) → IsSome (get hidden r) → CoversIn r on.index

-- the key's tree and each declared index can take in as many rows as are owed, the hidden ones among them
pub record HasOwed (owed : ℕ) (hidden : Tuples Row) (by_key : TreeWithSpares) (all : Indexes) : Type 0 where
  pub key_room : owed ≤ room_of 30 by_key
  pub room : HaveRooms owed owed all
  pub covered : (r : TupleRef) → IsSome (get hidden r) → Cover r all
