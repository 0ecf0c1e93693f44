-- What a catalog keeps.
use Rattle.std.specs.Prelude.{◌≡◌, ◌≤◌, ℕ, List, Some, length, map}
use Rattle.std.specs.List.{All}
use Rattle.std.specs.FinMap as finite
use Rattle.part_raw.specs.declared.tuple_ref.TupleRef.{TupleRef}
use Rattle.plain_tables.specs.References.{IsSound}
use Rattle.mm_relation.specs.Rows.{Row}
use Rattle.mm_relation.specs.State.{RelationState, IsKept, IsCurrent, linked_keys}
use Rattle.mm_catalog.specs.State.{CatalogState}
use Rattle.mm_catalog.specs.Seen.{database_of}
use Rattle.mm_catalog.specs.Linked.{target_of, links_to, HasLinksOrNulls}
use Rattle.mm_catalog.specs.Counted.{LeadIntoCounted}
use Rattle.mm_catalog.specs.Recounted.{HaveReferrers}

-- A relation among the others, under these names: it keeps what a relation keeps, its links lead into the tables that
-- its columns refer to, which keep the numbers of their rows' referrers, its rows have links or nulls there, and it is current
-- under the keys that they lead to.
pub record IsAmong (names : List (List ℕ)) (relations : List RelationState) (s : RelationState) : Type 0 where
  pub kept : IsKept s
  pub targets : s.targets ≡ map (target_of names) s.schema.columns
  pub counted : LeadIntoCounted relations s.targets
  pub linked : (r : TupleRef) (row : Row) → finite.get s.rows r ≡ Some row → HasLinksOrNulls s.targets row
  pub current : IsCurrent (linked_keys s.targets relations) s

-- each row's number of referrers is the number of links that name it
abbrev pub AreCounted : List RelationState → Type 0
AreCounted relations = HaveReferrers relations (links_to relations)

-- Each relation has a name, the database is sound, and each relation stands rightly among the others. The limit is none
-- that a relation cannot keep, and each row's referrers are counted.
pub record IsConsistent (c : CatalogState) : Type 0 where
  pub named : length c.names ≡ length c.relations
  pub rows : c.limits.rows ≤ 16777216
  pub sound : IsSound c.limits (database_of c)
  pub each : All (IsAmong c.names c.relations) c.relations
  pub counted : AreCounted c.relations
