-- What a set of nodes holds: the place and the value of each node.
use Rattle.std.specs.Prelude.{Bool, true, false, ◌&&◌, ◌==◌, cond, List, [], ◌∷◌, Option, Some, None}
use mir.Syntax.{Ty}
use base.Fml.{Lft, Fml, ftrue, fsep}
use denote.RattleType.{RattleType}
use denote.RawPtr.{Ptr, block_ptr, null_ptr}
use denote.Sharing.{nothing, beside}
use denote.Struct.Lending.{lent_at}
use Rattle.std.specs.contracts.impls.GlobalAllocator.TheImpl.{ghosts}
use Rattle.std_alloc.specs.Box.Ownership.{box_owns}

-- whether two places are the same
abbrev pub same_place : Ptr → Ptr → Bool
same_place (block_ptr b o) (block_ptr c p) = (b == c) && (o == p)
same_place (block_ptr b o) null_ptr = false
same_place null_ptr (block_ptr c p) = false
same_place null_ptr null_ptr = true

module _ {T : Type 0} where
  -- the node at p, if the set holds one there
  abbrev pub node_at : Ptr → List (Ptr × T) → Option T
  node_at p [] = None
  node_at p (e ∷ m) = cond (same_place p e.0) (Some e.1) (node_at p m)

  -- the set with w as the node at p
  abbrev pub set_node : Ptr → T → List (Ptr × T) → List (Ptr × T)
  set_node p w [] = []
  set_node p w (e ∷ m) = cond (same_place p e.0) ((e.0, w) ∷ m) (e ∷ set_node p w m)

  -- the set with the node at p changed
  abbrev pub update : Ptr → (T → T) → List (Ptr × T) → List (Ptr × T)
  update p f [] = []
  update p f (e ∷ m) = cond (same_place p e.0) ((e.0, f e.1) ∷ m) (e ∷ update p f m)

  -- the set with no node at p
  abbrev pub without : Ptr → List (Ptr × T) → List (Ptr × T)
  without p [] = []
  without p (e ∷ m) = cond (same_place p e.0) m (e ∷ without p m)

-- the right to give a block back to the heap
abbrev pub token : Ty → Ptr → Fml
token = ghosts.dealloc_token (record { memory = record { seal = tt } })

module _ (R : RattleType) where
  -- a box for each node
  abbrev pub held_owns : List (Ptr × R.Denot) → Fml
  held_owns [] = ftrue
  held_owns (e ∷ m) = fsep (box_owns token R e.0 e.1) (held_owns m)

  -- a `&` to each node
  abbrev pub held_lent : List (Ptr × R.Denot) → Lft → Fml
  held_lent [] = nothing
  held_lent (e ∷ m) = beside (lent_at R e.0 e.1) (held_lent m)
