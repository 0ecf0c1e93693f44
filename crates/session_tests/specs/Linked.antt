-- A key and a column that refers to it, which every method can join.
use Rattle.std.specs.Prelude.{List}
use Rattle.mm_relation.specs.State.{RelationState}
use Rattle.temp_list.specs.Reading.{AreSound}
use Rattle.plan_chooser.specs.declared.plans.JoinInput.{JoinInput}
use Rattle.join_ops.specs.Joins.{IsThere, HasSideTree, AreLinked}

-- both are there, with a tree on the column of each, and one of them refers to the other; the first is joined with the second
pub record AreJoinable (relations : List RelationState) (first second : JoinInput) : Type 0 where
  pub sound : AreSound relations
  pub outer : IsThere relations first
  pub inner : IsThere relations second
  pub outer_tree : HasSideTree first
  pub inner_tree : HasSideTree second
  pub linked : AreLinked first second
