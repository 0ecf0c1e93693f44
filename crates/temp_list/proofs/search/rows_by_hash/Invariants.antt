use Rattle.std.proofs.Common.{◌≡◌, ◌++◌, filter}
use Rattle.lin_hash.specs.RowRest.{row_chain_rest}
use Rattle.mm_index.specs.Bag.{IsSameBag, with_hash}
use Rattle.plain_tables.specs.declared.condition.Op.TheVariants as operator
use Rattle.plain_tables.specs.Hashes.{low_hash}
use Rattle.plain_tables.specs.Queries.{stands}
use Rattle.mm_relation.specs.Changes.{entries_of}
use Rattle.temp_list.specs.Reading.{value_in}
use Rattle.temp_list.proofs.search.rows_by_hash.Given as goal

-- those of the chain so far that equal the value
abbrev pub invariant-loop-r : goal.invariant-loop-r
invariant-loop-r g l = record {
  chain : IsSameBag (l.yielded ++ row_chain_rest l.r-iterator) (with_hash (low_hash l.value) (entries_of l.relation l.column.0));
  found : l.out.items ≡ l.initial.out.items ++ filter (λ r. stands operator.Eq (value_in (g.R.Relations.tables l.tables) l.relation l.column.0 r) l.value) l.yielded;
}
