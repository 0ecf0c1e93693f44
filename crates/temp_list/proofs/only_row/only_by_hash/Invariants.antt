use Rattle.std.proofs.Common.{◌≡◌, ◌++◌, filter}
use Rattle.std.specs.List.{HoldsAt}
use Rattle.std.specs.Option.{option_to_list}
use Rattle.lin_hash.specs.RowRest.{row_chain_rest}
use Rattle.mm_index.specs.Bag.{IsSameBag, with_hash}
use Rattle.mm_relation.specs.Changes.{entries_of}
use Rattle.plain_tables.specs.Hashes.{low_hash}
use Rattle.temp_list.specs.Reading.{row_passes}
use Rattle.temp_list.proofs.only_row.only_by_hash.Given as goal

-- of the chain so far this row passes, or none
abbrev pub invariant-loop-r : goal.invariant-loop-r
invariant-loop-r g l = record {
  chain : HoldsAt (λ test. IsSameBag (l.yielded ++ row_chain_rest l.r-iterator) (with_hash (low_hash test.value) (entries_of l.relation test.column.0))) l.tests l.fn.n;
  only : filter (row_passes (g.R.Relations.tables l.tables) l.relation l.tests) l.yielded ≡ option_to_list l.found;
}
