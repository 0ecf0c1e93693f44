-- What a catalog is seen as.
use Rattle.std.specs.Prelude.{ℕ, List, refl}
use Rattle.std.specs.Coded.{Coded, code_by, coded×, coded_ℕ, coded_list}
use Rattle.plain_tables.specs.declared.command.Limits.{Limits}
use Rattle.mm_relation.specs.State.{RelationState}

-- the limits; the names of the tables in the order of their declaration; the relation of each, in the same order
pub record CatalogState : Type 0 where
  pub limits : Limits
  pub names : List (List ℕ)
  pub relations : List RelationState

abbrev pub catalog_code : Coded Limits → Coded RelationState → Coded CatalogState
catalog_code limits relation =
    code_by (Limits × (List (List ℕ) × List RelationState))
    (coded× limits (coded× (coded_list (coded_list coded_ℕ)) (coded_list relation)))
    (λ c. (c.limits, (c.names, c.relations)))
    (λ p. record { limits = p.0; names = p.1.0; relations = p.1.1 }) (λ _. refl)
