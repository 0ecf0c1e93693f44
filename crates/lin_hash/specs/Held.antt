-- What the index and its table are seen as.
use Rattle.std.specs.Prelude.{◌≡◌, ◌*◌, ◌≤◌, ◌⊎◌, ℕ, List, [], Option, Some, None}
use Rattle.part_raw.specs.declared.tuple_ref.TupleRef.{TupleRef}
use Rattle.lin_hash.specs.declared.node.Node.{Node}

-- nodes in the order of their places, for how many there is memory, and for how many blocks of them the list of these has
pub record HeldNodes : Type 0 where
  pub items : List Node
  pub memory : ℕ
  pub listed : ℕ

-- pairs of a hash and a reference, how many more there is room for, how many buckets there are, and for how many nodes,
-- for how many heads of buckets and for how many blocks in the list of these there is memory
pub record HeldBuckets : Type 0 where
  pub entries : List (ℕ × TupleRef)
  pub room : ℕ
  pub buckets : ℕ
  pub nodes : ℕ
  pub heads : ℕ
  pub listed : ℕ

-- pairs of a hash and a reference, for how many nodes, for how many heads of buckets and for how many blocks in the list
-- of these there is memory, and how many heads are in use
pub record HeldTable : Type 0 where
  pub entries : List (ℕ × TupleRef)
  pub nodes : ℕ
  pub heads : ℕ
  pub listed : ℕ
  pub buckets : ℕ

-- a table that may not be there yet: it is empty then, with four buckets to come, no node, no head and no block
abbrev pub table_entries : Option HeldTable → List (ℕ × TupleRef)
table_entries None = []
table_entries (Some t) = t.entries

abbrev pub table_nodes : Option HeldTable → ℕ
table_nodes None = 0
table_nodes (Some t) = t.nodes

abbrev pub table_heads : Option HeldTable → ℕ
table_heads None = 0
table_heads (Some t) = t.heads

abbrev pub table_listed : Option HeldTable → ℕ
table_listed None = 0
table_listed (Some t) = t.listed

abbrev pub table_buckets : Option HeldTable → ℕ
table_buckets None = 4
table_buckets (Some t) = t.buckets

-- there is memory for as many as before, or for twice as many at least
abbrev pub StaysOrDoubles : (old new : ℕ) → Type 0
StaysOrDoubles old new = (new ≡ old) ⊎ (2 * old ≤ new)
