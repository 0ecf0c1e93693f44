-- What it is for a table without rows to be taken out of a catalog whole, and to be put back.
use Rattle.std.specs.Prelude.{◌≡◌, ℕ, ◌<◌, ◌≤◌, List, insert, length, map, refl}
use Rattle.std.specs.Coded.{Coded, code_by, coded×, coded_list, coded_ℕ}
use Rattle.std.specs.FinMap as finite
use Rattle.std.specs.Option.{option_map}
use Rattle.mm_relation.specs.State.{IsCurrent, IsKept, RelationState, no_keys}
use Rattle.mm_catalog.specs.Dropped.{moved_down}
use Rattle.mm_catalog.specs.Outline.{Outline, RelationOutline, relation_outline}

-- the number that the table has; its name; its relation; and for how many tables there is memory once it is back
pub record DroppedTableState : Type 0 where
  pub number : ℕ
  pub name : List ℕ
  pub relation : RelationState
  pub places : ℕ

abbrev pub dropped_table_code : Coded RelationState → Coded DroppedTableState
dropped_table_code relation =
    code_by (ℕ × (List ℕ × (RelationState × ℕ)))
    (coded× coded_ℕ (coded× (coded_list coded_ℕ) (coded× relation coded_ℕ)))
    (λ d. (d.number, (d.name, (d.relation, d.places))))
    (λ p. record { number = p.0; name = p.1.0; relation = p.1.1.0; places = p.1.1.1 }) (λ _. refl)

-- the same links, once a table has come back at a number
abbrev pub outline_moved_down : ℕ → RelationOutline → RelationOutline
outline_moved_down place s = record s { targets = map (option_map (moved_down place)) s.targets }

-- the outline with the table again, at its number; those from there on move down
abbrev pub with_table : DroppedTableState → Outline → Outline
with_table d o = record o {
  names = insert o.names d.number d.name;
  relations = insert (map (outline_moved_down d.number) o.relations) d.number (relation_outline d.relation);
}

-- There is a place for the table, and memory. It has no rows, so it is current whatever its links lead to.
pub record CanHaveTable (o : Outline) (d : DroppedTableState) : Type 0 where
  pub place : d.number ≤ length o.relations
  pub places : length o.relations < d.places
  pub rows : d.relation.rows ≡ finite.empty
  pub kept : IsKept d.relation
  pub current : IsCurrent no_keys d.relation

-- the table is taken out, and nothing else differs
pub record HasTableLess (old new : Outline) (d : DroppedTableState) : Type 0 where
  pub can : CanHaveTable new d
  pub others : with_table d new ≡ old
