-- Links and nodes, as they are read.
use Rattle.std.specs.Prelude.{◌==◌, ℕ, zero, suc, [], ◌∷◌, List, Option, Some, None, if◌then◌else◌, slice_index_or, slice_set, map}
use Rattle.part_raw.specs.declared.tuple_ref.TupleRef.{TupleRef}
use Rattle.lin_hash.specs.declared.node.NodeLink.{NodeLink}
use Rattle.lin_hash.specs.declared.node.Node.{Node}

-- the place that a link leads to, if there is one
abbrev pub leads_to : NodeLink → Option ℕ
leads_to l = if l.place == 4294967295 then None else Some l.place

abbrev pub no_link : NodeLink
no_link = record { place = 4294967295 }

-- the link of a node of a row that stands on no chain
abbrev pub unused_link : NodeLink
unused_link = record { place = 4294967294 }

abbrev pub link_to : ℕ → NodeLink
link_to place = record { place = place }

abbrev pub head_at : List NodeLink → ℕ → NodeLink
head_at heads bucket = slice_index_or heads bucket (record { place = 0 })

abbrev pub node_at : List Node → ℕ → Node
node_at nodes place =
    slice_index_or nodes place (record { hash = 0; reference = record { number = 0 }; next = record { place = 0 } })

abbrev pub next_at : List Node → ℕ → NodeLink
next_at nodes place = (node_at nodes place).next

-- the same node with another link
abbrev pub leading_to : Node → NodeLink → Node
leading_to n l = record n { next = l }

-- a node's own entry
abbrev pub entry_of : Node → ℕ × TupleRef
entry_of n = (n.hash, n.reference)

-- the entries of the nodes, in the order of their places
abbrev pub entries_of : List Node → List (ℕ × TupleRef)
entries_of nodes = map entry_of nodes

-- what leads to a node leads to another place: the node before it, or the head of its bucket
abbrev pub relinked_behind : List Node → Option ℕ → NodeLink → List Node
relinked_behind nodes None l = nodes
relinked_behind nodes (Some place) l = slice_set nodes place (leading_to (node_at nodes place) l)

abbrev pub relinked_head : List NodeLink → ℕ → Option ℕ → NodeLink → List NodeLink
relinked_head heads bucket None l = slice_set heads bucket l
relinked_head heads bucket (Some place) l = heads

-- the list at a place, or none where there is no place
abbrev pub list_at : (ℕ → List (ℕ × TupleRef)) → Option ℕ → List (ℕ × TupleRef)
list_at f None = []
list_at f (Some place) = f place

-- the entries of so many nodes at most, from a link on
abbrev pub walk_from : (ℕ → NodeLink) → (ℕ → ℕ × TupleRef) → ℕ → NodeLink → List (ℕ × TupleRef)
walk_from next entry zero l = []
walk_from next entry (suc n) l = list_at (λ place. entry place ∷ walk_from next entry n (next place)) (leads_to l)

abbrev pub entry_at : List Node → ℕ → ℕ × TupleRef
entry_at nodes place = entry_of (node_at nodes place)

abbrev pub entries_from : ℕ → List Node → NodeLink → List (ℕ × TupleRef)
entries_from n nodes l = walk_from (next_at nodes) (entry_at nodes) n l
