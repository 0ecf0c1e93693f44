-- A tree that was built from below: its nodes are full, only the last one may be short, and it is as low as they allow.
use Rattle.std.specs.Prelude.{◌≡◌, ℕ, ◌+◌, ◌*◌, ◌<◌, ◌≤◌, List, ◌++◌, length, true}
use Rattle.std.specs.Int.{div_ceil}
use Rattle.ttree_node.specs.Tree.{Tree, empty, node, Label, height, size, list, is_node}
use Rattle.ttree.specs.Shape.{EachNode, IsTTree, ParentsAreFull, binary_digits}

module _ {I : Type 0} where
  -- each node holds as many items as a node may
  abbrev pub AreFull : ℕ → Tree (Label I) → Type 0
  AreFull most t = EachNode (λ l x r. most ≤ length x.items) t

  -- each node does but the last one in order, which need not
  abbrev pub AreFullButLast : ℕ → Tree (Label I) → Type 0
  AreFullButLast most empty = Unit {0}
  AreFullButLast most (node l x r) = AreFull most l × (is_node r ≡ true → most ≤ length x.items) × AreFullButLast most r

  -- The last node alone may be short, and it has no child. No fewer nodes hold the items, and no tree of so many nodes is lower.
  pub record IsPacked (most : ℕ) (t : Tree (Label I)) : Type 0 where
    pub full : AreFullButLast most t
    pub parents : ParentsAreFull most t
    pub few : size t ≡ div_ceil (length (list t)) most
    pub low : height t ≡ binary_digits (size t)

  -- a packed T-tree whose list these items are
  pub record HoldsPacked (least most : ℕ) (items : List I) (t : Tree (Label I)) : Type 0 where
    pub fit : IsTTree least most t
    pub list : list t ≡ items
    pub packed : IsPacked most t

  -- What the root of a packed tree takes of the items: some, and a node full of them where any stand behind. Full nodes take what stands before, and as many nodes or one more what stands behind.
  pub record IsMiddle (most : ℕ) (items left own right : List I) : Type 0 where
    pub joined : items ≡ left ++ (own ++ right)
    pub some : 0 < length own
    pub room : length own ≤ most
    pub full : 0 < length right → most ≤ length own
    pub before : length left ≡ div_ceil (length left) most * most
    pub fewer : div_ceil (length left) most ≤ div_ceil (length right) most
    pub even : div_ceil (length right) most ≤ 1 + div_ceil (length left) most
    pub nodes : div_ceil (length items) most ≡ 1 + div_ceil (length left) most + div_ceil (length right) most
