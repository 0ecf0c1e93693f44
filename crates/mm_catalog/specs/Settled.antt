-- A catalog whose tables hide no rows, and owe none.
use Rattle.std.specs.Prelude.{map}
use Rattle.std.specs.FinMap as finite
use Rattle.mm_relation.specs.State.{RelationState}
use Rattle.mm_catalog.specs.State.{CatalogState}

-- the relation without its hidden rows, which owes none
abbrev pub settled_relation : RelationState → RelationState
settled_relation s = record s { hidden = finite.empty; owed = 0 }

abbrev pub settled_catalog : CatalogState → CatalogState
settled_catalog c = record c { relations = map settled_relation c.relations }
