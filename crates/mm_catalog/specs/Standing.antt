-- A relation beside those before it, which its links lead into.
use Rattle.std.specs.Prelude.{◌≡◌, ℕ, ◌<◌, List, Some, All, length, slice_get, take}
use Rattle.mm_relation.specs.State.{RelationState, IsKept, IsCurrent, linked_keys}
use Rattle.mm_catalog.specs.Linked.{target_at, relation_links}
use Rattle.mm_catalog.specs.Counted.{HaveRoom, HaveAtLeast, LeadIntoCounted, naming}

-- It stands among them as a change of its rows needs it: they keep what they keep, its links lead into them, it is current
-- under the keys there, those that they lead into keep the numbers of their rows' referrers, each of their rows has as many
-- as its links name it, and there is room for those of a row more.
pub record StandsBeside (before : List RelationState) (s : RelationState) : Type 0 where
  pub kept : All IsKept before
  pub back : (column : ℕ) (table : ℕ) → target_at s.targets column ≡ Some table → table < length before
  pub current : IsCurrent (linked_keys s.targets before) s
  pub counted : LeadIntoCounted before s.targets
  pub enough : HaveAtLeast before (naming (relation_links s))
  pub room : HaveRoom before (length s.targets)

-- the relation of a number does
abbrev pub Stands : List RelationState → ℕ → Type 0
Stands relations n = (s : RelationState) → slice_get relations n ≡ Some s → StandsBeside (take n relations) s
