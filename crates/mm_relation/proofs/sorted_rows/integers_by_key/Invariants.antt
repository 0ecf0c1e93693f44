use Rattle.std.proofs.Common.{◌≡◌, ◌++◌, Some, ℤ, map}
use Rattle.std.specs.List.{All}
use Rattle.ttree.specs.Held.{items_of_tree, rest_of}
use Rattle.plain_tables.specs.declared.value.Value.TheVariants.{Int}
use Rattle.mm_relation.specs.declared.sorted_rows.SortedRow.{SortedRow}
use Rattle.mm_relation.specs.Reading.{value_at}
use Rattle.mm_relation.proofs.sorted_rows.integers_by_key.Given as goal

abbrev pub invariant-loop-r : goal.invariant-loop-r
invariant-loop-r g l = record {
  split : items_of_tree l.by_key ≡ l.yielded ++ rest_of l.r-iterator;
  refs : map (λ (s : SortedRow ℤ). s.r) l.sorted.items ≡ l.yielded;
  values : All (λ (s : SortedRow ℤ). value_at (g.R.LinkedKeys.keys l.others) l.column.0 l.rows.tuples s.r ≡ Some (Int s.value)) l.sorted.items;
}
