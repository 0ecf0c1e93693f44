-- Walks along a chain.
use Rattle.std.specs.Prelude.{ℕ, zero, suc, ◌<◌, List, length, MatchOption}
use Rattle.std.specs.Option.{MatchOption-prop}
use Rattle.std.specs.Coded.{×_prop, Unit-prop, le_prop}
use Rattle.lin_hash.specs.declared.node.NodeLink.{NodeLink}
use Rattle.lin_hash.specs.declared.node.Node.{Node}
use Rattle.lin_hash.specs.Nodes.{leads_to, next_at, entries_from}

-- from the link on there are at most so many nodes, of so many in all
module _ (size : ℕ) (next : ℕ → NodeLink) where
  abbrev pub EndsIn : ℕ → NodeLink → Type 0
  EndsIn zero l = MatchOption (leads_to l) (Unit {0}) (λ _. ⊥)
  EndsIn (suc n) l = MatchOption (leads_to l) (Unit {0}) (λ place. (place < size) × EndsIn n (next place))

  pub EndsIn-prop : (n : ℕ) (l : NodeLink) → IsProp (EndsIn n l)
  EndsIn-prop zero l = MatchOption-prop (leads_to l) (Unit {0}) (λ _. ⊥) Unit-prop (λ _ h. absurd h)
  EndsIn-prop (suc n) l =
      MatchOption-prop (leads_to l) (Unit {0}) (λ place. (place < size) × EndsIn n (next place)) Unit-prop (λ place. ×_prop le_prop (EndsIn-prop n (next place)))

abbrev pub EndsWithin : ℕ → List Node → NodeLink → Type 0
EndsWithin n nodes l = EndsIn (length nodes) (next_at nodes) n l

pub EndsWithin-prop : (n : ℕ) (nodes : List Node) (l : NodeLink) → IsProp (EndsWithin n nodes l)
EndsWithin-prop n nodes l = EndsIn-prop (length nodes) (next_at nodes) n l

-- how many nodes there are from the link on, of all
abbrev pub walked_from : List Node → NodeLink → ℕ
walked_from nodes l = length (entries_from (length nodes) nodes l)
