-- A list without duplicates shows what the list shows that it was made of.
use Rattle.std.proofs.Common.{◌≡◌, List, map, sym, subst}
use Rattle.std.specs.List.{All, Contains}
use Rattle.std.proofs.lemmas.List.Elements.{All-map, All-weaker, All-contains}
use Rattle.common_lemmas.proofs.Elements.{Contains-map}
use Rattle.part_raw.specs.declared.tuple_ref.TupleRef.{TupleRef}
use Rattle.plain_tables.specs.declared.value.Value.{Value}
use Rattle.mm_relation.specs.State.{RelationState}
use Rattle.temp_list.specs.Lists.{ListState, value_of}
use Rattle.project_hash.specs.Distinct.{shown_values, shown_rows, IsDistinctOf, ShowsTheSame}

module _ (relations : List RelationState) (old new : ListState) (distinct : IsDistinctOf relations old new) where
  read_alike : shown_rows relations new ≡ map (shown_values relations old) new.rows
  read_alike i = map (λ (row : List TupleRef). map (value_of relations (distinct.sources i) row) (distinct.columns i)) new.rows

  taken : All (Contains (shown_rows relations old)) (shown_rows relations new)
  taken =
      subst (λ (shown : List (List Value)). All (Contains (shown_rows relations old)) shown) (sym read_alike)
      (All-map (Contains (shown_rows relations old)) (shown_values relations old) new.rows
      (All-weaker (Contains old.rows) (λ (row : List TupleRef). Contains (shown_rows relations old) (shown_values relations old row)) (Contains-map (shown_values relations old) old.rows) new.rows distinct.some))

  pub shown_the_same : ShowsTheSame (shown_rows relations old) (shown_rows relations new)
  shown_the_same values =
      (All-contains (Contains (shown_rows relations new)) (shown_rows relations old) values distinct.all, All-contains (Contains (shown_rows relations old)) (shown_rows relations new) values taken)
