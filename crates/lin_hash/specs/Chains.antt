-- Chains of nodes, and which nodes hang on them.
use Rattle.std.specs.Prelude.{◌≡◌, ◌+◌, ◌<◌, ◌≤◌, ℕ, List, [], ◌∷◌, ◌++◌, Option, Some, None, length, map, slice_index_or, Contains, flat_map}
use Rattle.part_raw.specs.declared.tuple_ref.TupleRef.{TupleRef}
use Rattle.mm_index.specs.Bag.{IsSameBag}
use Rattle.lin_hash.specs.declared.node.NodeLink.{NodeLink}
use Rattle.lin_hash.specs.declared.node.Node.{Node}
use Rattle.lin_hash.specs.declared.chains.Position.{Position}
use Rattle.lin_hash.specs.Address.{IsAddressed}
use Rattle.lin_hash.specs.Nodes.{leads_to, head_at, node_at, next_at}

-- a hash, a reference and the place of the node that has them
abbrev pub Placed : Type 0
Placed = ℕ × (TupleRef × ℕ)

abbrev pub place_of : Placed → ℕ
place_of e = e.1.1

abbrev pub entry_in : Placed → ℕ × TupleRef
entry_in e = (e.0, e.1.0)

-- what the node at a place has
abbrev pub placed_at : List Node → ℕ → Placed
placed_at nodes place = ((node_at nodes place).hash, ((node_at nodes place).reference, place))

-- the node at that place is there, and has that hash and reference
pub record Stands (nodes : List Node) (e : Placed) : Type 0 where
  pub inside : place_of e < length nodes
  pub is : placed_at nodes (place_of e) ≡ e

-- from the link on these nodes hang behind one another
abbrev pub IsChain : List Node → NodeLink → List Placed → Type 0
IsChain nodes l [] = leads_to l ≡ None
IsChain nodes l (e ∷ es) =
    (leads_to l ≡ Some (place_of e)) × Stands nodes e × IsChain nodes (next_at nodes (place_of e)) es

-- the nodes from the first on, which stands at that place
abbrev pub placed_from : ℕ → List Node → List Placed
placed_from place [] = []
placed_from place (n ∷ nodes) = (n.hash, (n.reference, place)) ∷ placed_from (place + 1) nodes

abbrev pub all_placed : List Node → List Placed
all_placed nodes = placed_from 0 nodes

-- each head leads to the chain of its bucket
pub record AreChainsBy {A : Type 0} (is_chain : NodeLink → List (ℕ × A) → Type 0) (heads : List NodeLink) (chains : List (List (ℕ × A))) : Type 0 where
  pub number : length heads ≡ length chains
  pub each : (i : ℕ) → i < length chains → is_chain (head_at heads i) (slice_index_or chains i [])

-- all of these hang on the chains of the buckets of their hashes, each once, but for those that are loose
pub record AreHungBy {A : Type 0} (is_chain : NodeLink → List (ℕ × A) → Type 0) (level mark : ℕ) (heads : List NodeLink) (loose all : List (ℕ × A)) : Type 0 where
  pub chains : List (List (ℕ × A))
  pub linked : AreChainsBy is_chain heads chains
  pub held : IsSameBag (loose ++ flat_map (λ c. c) chains) all
  pub addressed : IsAddressed level mark chains

-- the chains are of nodes
abbrev pub AreChains : List Node → List NodeLink → List (List Placed) → Type 0
AreChains nodes heads chains = AreChainsBy (IsChain nodes) heads chains

-- the nodes hang on the chains of the buckets of their hashes, each once, but for those that are loose
abbrev pub AreHung : (level mark : ℕ) → List Node → List NodeLink → List Placed → Type 0
AreHung level mark nodes heads loose = AreHungBy (IsChain nodes) level mark heads loose (all_placed nodes)

-- the place of the last of them
abbrev pub last_place : List Placed → Option ℕ
last_place [] = None
last_place (e ∷ []) = Some (place_of e)
last_place (e ∷ f ∷ es) = last_place (f ∷ es)

-- the chain from a link on holds that entry
abbrev pub HoldsEntry : List Node → NodeLink → ℕ → TupleRef → Type 0
HoldsEntry nodes first hash r = (es : List Placed) × IsChain nodes first es × (length es ≤ length nodes) × Contains (map entry_in es) (hash, r)

-- the chain from a link on visits the node at that place
abbrev pub Visits : List Node → NodeLink → ℕ → Type 0
Visits nodes first place = (es : List Placed) × IsChain nodes first es × (length es ≤ length nodes) × Contains es (placed_at nodes place)

-- in the chain from a link on that node stands behind the one at another place, or in front
abbrev pub IsBehind : List Node → NodeLink → Placed → Option ℕ → Type 0
IsBehind nodes first e behind =
    (before : List Placed) × (after : List Placed) × IsChain nodes first (before ++ e ∷ after) × (behind ≡ last_place before)

-- in the chain from a link on a node with that entry stands at that place, behind that one
abbrev pub StandsAt : List Node → NodeLink → ℕ → TupleRef → Position → Type 0
StandsAt nodes first hash r at = IsBehind nodes first (hash, (r, at.place)) at.behind
