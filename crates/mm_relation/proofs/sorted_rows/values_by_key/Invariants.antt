use Rattle.std.proofs.Common.{◌≡◌, ◌++◌, Some, Bor, map}
use Rattle.std.specs.List.{All}
use Rattle.ttree.specs.Held.{items_of_tree, rest_of}
use Rattle.plain_tables.specs.declared.value.Value.{Value}
use Rattle.mm_relation.specs.declared.sorted_rows.SortedRow.{SortedRow}
use Rattle.mm_relation.specs.Reading.{value_at}
use Rattle.mm_relation.proofs.sorted_rows.values_by_key.Given as goal

abbrev pub invariant-loop-r : goal.invariant-loop-r
invariant-loop-r g l = record {
  split : items_of_tree l.by_key ≡ l.yielded ++ rest_of l.r-iterator;
  refs : map (λ (s : SortedRow (Bor Value)). s.r) l.sorted.items ≡ l.yielded;
  values : All (λ (s : SortedRow (Bor Value)). value_at (g.R.LinkedKeys.keys l.others) l.column.0 l.rows.tuples s.r ≡ Some s.value.now) l.sorted.items;
}
