use Rattle.std.proofs.Common.{◌≡◌, ◌++◌, length}
use Rattle.mm_index.specs.Chain.{chain_rest}
use Rattle.mm_index.proofs.plain_bag.PlainBagExactIndex.matching.Given as goal

abbrev pub invariant-loop-r : goal.invariant-loop-r
invariant-loop-r l = record {
  before : l.before ≡ length l.fn.out.items;
  added : l.out.items ≡ l.fn.out.items ++ l.yielded;
  left : l.yielded ++ chain_rest l.r-iterator ≡ chain_rest l.initial.r-iterator;
}
