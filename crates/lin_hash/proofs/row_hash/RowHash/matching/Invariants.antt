use Rattle.std.proofs.Common.{◌≡◌, ◌++◌, length}
use Rattle.lin_hash.specs.RowRest.{row_chain_rest}
use Rattle.lin_hash.proofs.row_hash.RowHash.matching.Given as goal

abbrev pub invariant-loop-r : goal.invariant-loop-r
invariant-loop-r l = record {
  before : l.before ≡ length l.fn.out.items;
  added : l.out.items ≡ l.fn.out.items ++ l.yielded;
  left : l.yielded ++ row_chain_rest l.r-iterator ≡ row_chain_rest l.initial.r-iterator;
}
