-- What a select finds.
use Rattle.std.specs.Prelude.{◌≡◌, ℕ, IsSome, List, [], ◌∷◌, map}
use Rattle.std.specs.List.{All}
use Rattle.std.specs.FinMap as finite
use Rattle.part_raw.specs.declared.tuple_ref.TupleRef.{TupleRef}
use Rattle.plain_tables.specs.declared.resolved.Test.{Test}
use Rattle.mm_index.specs.Bag.{IsSameBag}
use Rattle.mm_relation.specs.State.{RelationState}
use Rattle.temp_list.specs.Lists.{ListState, IsOver}
use Rattle.temp_list.specs.Reading.{passing}

-- each row of a table that passes the tests, once, in any order; each is held
pub record AreSelected (relations : List RelationState) (s : RelationState) (tests : List Test) (rows : List TupleRef) : Type 0 where
  pub held : All (λ r. IsSome (finite.get s.rows r)) rows
  pub bag : IsSameBag rows (passing relations s tests)

-- the list is over one table, shows no columns, and has each row of the table that passes the tests once, in any order
pub record IsSelected (relations : List RelationState) (table : ℕ) (s : RelationState) (tests : List Test) (list : ListState) : Type 0 where
  pub sources : list.sources ≡ table ∷ []
  pub columns : list.columns ≡ []
  pub over : IsOver relations list
  pub rows : IsSameBag list.rows (map (λ r. r ∷ []) (passing relations s tests))
