-- Where a search of a tree ends, and how often it asks.
use Rattle.std.specs.Prelude.{◌≡◌, ℕ, ◌+◌, ◌<◌, ◌≤◌, List, ◌++◌, ◌∷◌, length, slice_index_or, All, true, false, None, Some}
use Rattle.std.specs.List.{AllWithin}
use Rattle.std.specs.declared.cmp.Ordering.{Ordering}
use Rattle.std.specs.declared.cmp.Ordering.TheVariants.{Less, Equal, Greater}
use Rattle.part_raw.specs.declared.tuple_ref.TupleRef.{TupleRef}
use Rattle.ttree_node.specs.Tree.{Zipper, Label, whole, is_node, items_of, has_left, has_right, list_until, list_from, list_behind}
use Rattle.ttree_node.specs.Look.{position}
use Rattle.ttree_node.specs.declared.look.Look.{Look}
use Rattle.mm_index.specs.Asking.{IsOnlyAsked}
use Rattle.ttree.specs.declared.asking.Seek.{Seek}
use Rattle.ttree.specs.declared.asking.Seek.TheVariants.{Any, First}
use Rattle.ttree.specs.declared.search.Descent.{Descent}
use Rattle.ttree.specs.declared.search.Descent.TheVariants.{Hit, End}

-- how a search takes an answer: one for the first reference in the range goes on at those in it as at those above it
abbrev pub taken : Seek → Ordering → Ordering
taken Any o = o
taken First Less = Less
taken First Equal = Greater
taken First Greater = Greater

-- a probe that was only asked, at most n times
pub record IsAskedAtMost (n : ℕ) {P R : Type 0} (is_sound : P → Type 0) (can_place : P → R → Type 0) (place : P → R → Ordering) (asked : P → ℕ) (old new : P) : Type 0 where
  pub only : IsOnlyAsked is_sound can_place place asked old new
  pub most : asked new ≤ asked old + n

module _ {I : Type 0} where
  -- ---- in one node

  -- item i is in the range
  pub record IsHitIn (place : I → Ordering) (items : List I) (i : ℕ) : Type 0 where
    pub index : i < length items
    pub equal : (d : I) → place (slice_index_or items i d) ≡ Equal

  -- what stands before low is below the range, and what stands from high on is above it
  pub record IsCut (place : I → Ordering) (items : List I) (low high : ℕ) : Type 0 where
    pub ordered : low ≤ high
    pub within : high ≤ length items
    pub below : AllWithin (λ r. place r ≡ Less) items 0 low
    pub above : AllWithin (λ r. place r ≡ Greater) items high (length items)

  -- ---- in a tree

  -- the list with r before item i of the node at a place
  abbrev pub with_item : ℕ → I → Zipper (Label I) → List I
  with_item i r z = list_until i z ++ r ∷ list_from i z

  -- nothing is in the range: the list up to item i of the node at the place stands below it, and the rest above it
  pub record IsGap (place : I → Ordering) (z : Zipper (Label I)) (i : ℕ) : Type 0 where
    pub index : i ≤ length (items_of z.here)
    pub below : All (λ r. place r ≡ Less) (list_until i z)
    pub above : All (λ r. place r ≡ Greater) (list_from i z)
    -- no tree hangs where the gap is
    pub left_open : i ≡ 0 → has_left z.here ≡ false
    pub right_open : i ≡ length (items_of z.here) → has_right z.here ≡ false

-- ---- the way down by the least item of each node
module _ {MAX : ℕ} (place : TupleRef → Ordering) (end : Look MAX) where
  -- the place is behind the least item of the node at `last`; where all of that node's items stand below the range and a right child hangs there, it is before those of the node at the end
  pub record IsBehind (last : Look MAX) : Type 0 where
    pub nodes : last.nodes ≡ end.nodes
    pub node : is_node (position last).here ≡ true
    pub whole : whole (position last) ≡ whole (position end)
    pub cut : IsCut place (items_of (position last).here) 1 (length (items_of (position last).here))
    pub above : All (λ r. place r ≡ Greater) (list_behind (position last))
    pub next : has_right (position last).here ≡ true → All (λ r. place r ≡ Less) (items_of (position last).here) → IsGap place (position end) 0

  -- what the end of the way tells
  abbrev pub IsDescent : Descent MAX → Type 0
  IsDescent Hit = IsHitIn place (items_of (position end).here) 0
  IsDescent (End None) = IsGap place (position end) 0
  IsDescent (End (Some last)) = IsBehind last
