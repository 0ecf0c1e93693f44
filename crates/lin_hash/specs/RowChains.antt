-- Chains of the nodes of rows, linked both ways, and which rows hang on them.
use Rattle.std.specs.Prelude.{◌≡◌, ◌≢◌, ◌<◌, ℕ, [], ◌∷◌, List, Some, None, length}
use Rattle.part_raw.specs.declared.tuple_ref.TupleRef.{TupleRef}
use Rattle.lin_hash.specs.declared.node.NodeLink.{NodeLink}
use Rattle.lin_hash.specs.declared.row_node.RowNode.{RowNode}
use Rattle.lin_hash.specs.Chains.{AreHungBy}
use Rattle.lin_hash.specs.Nodes.{leads_to, no_link, unused_link, walk_from}
use Rattle.lin_hash.specs.Walks.{EndsIn, EndsIn-prop}
use Rattle.lin_hash.specs.RowNodes.{row_at, row_node_at, rows_of}

abbrev pub row_next_at : List RowNode → ℕ → NodeLink
row_next_at nodes place = (row_node_at nodes place).next

-- the node of an entry's row has its hash, and stands behind the one that the link leads to
pub record StandsBehind (nodes : List RowNode) (behind : NodeLink) (e : ℕ × TupleRef) : Type 0 where
  pub inside : e.1.number < length nodes
  pub hash : (row_node_at nodes e.1.number).hash ≡ e.0
  pub prev : (row_node_at nodes e.1.number).prev ≡ behind

-- from the link on, which leads on from the node before, the nodes of these entries' rows hang behind one another, each linked to the one before it
abbrev pub IsLinked : List RowNode → NodeLink → NodeLink → List (ℕ × TupleRef) → Type 0
IsLinked nodes behind l [] = leads_to l ≡ None
IsLinked nodes behind l (e ∷ es) =
    (leads_to l ≡ Some e.1.number) × StandsBehind nodes behind e × IsLinked nodes l (row_next_at nodes e.1.number) es

-- a chain of a bucket: before its first node stands none
abbrev pub IsRowChain : List RowNode → NodeLink → List (ℕ × TupleRef) → Type 0
IsRowChain nodes l es = IsLinked nodes no_link l es

-- all rows hang on the chains of the buckets of their hashes, each once, but for those that are loose
abbrev pub AreRowsHung : (level mark : ℕ) → List RowNode → List NodeLink → List (ℕ × TupleRef) → Type 0
AreRowsHung level mark nodes heads loose = AreHungBy (IsRowChain nodes) level mark heads loose (rows_of nodes)

-- from the link on these are linked, whatever stands before them, and all others hang on the chains
abbrev pub AreLoose : (level mark : ℕ) → List RowNode → List NodeLink → NodeLink → Type 0
AreLoose level mark nodes heads first =
    (behind : NodeLink) × (behind.place ≢ unused_link.place) × (loose : List (ℕ × TupleRef)) × IsLinked nodes behind first loose × AreRowsHung level mark nodes heads loose

-- from the link on there are at most so many nodes
abbrev pub RowsEndWithin : ℕ → List RowNode → NodeLink → Type 0
RowsEndWithin n nodes l = EndsIn (length nodes) (row_next_at nodes) n l

pub RowsEndWithin-prop : (n : ℕ) (nodes : List RowNode) (l : NodeLink) → IsProp (RowsEndWithin n nodes l)
RowsEndWithin-prop n nodes l = EndsIn-prop (length nodes) (row_next_at nodes) n l

-- the entry of a node at a place
abbrev pub row_entry_at : List RowNode → ℕ → ℕ × TupleRef
row_entry_at nodes place = ((row_node_at nodes place).hash, row_at place)

-- the entries of so many nodes at most, from a link on
abbrev pub row_entries_from : ℕ → List RowNode → NodeLink → List (ℕ × TupleRef)
row_entries_from n nodes l = walk_from (row_next_at nodes) (row_entry_at nodes) n l

-- how many nodes there are from the link on, of all
abbrev pub rows_walked_from : List RowNode → NodeLink → ℕ
rows_walked_from nodes l = length (row_entries_from (length nodes) nodes l)
