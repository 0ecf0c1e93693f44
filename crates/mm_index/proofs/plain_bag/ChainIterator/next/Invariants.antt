use Rattle.std.proofs.Common.{◌≡◌, length}
use Rattle.mm_index.specs.Chain.{chain_rest}
use Rattle.mm_index.proofs.plain_bag.ChainIterator.next.Given as goal

abbrev pub invariant-loop-held : goal.invariant-loop-held
invariant-loop-held l = chain_rest l.self ≡ chain_rest l.fn.self

abbrev pub decreases-loop-held : goal.decreases-loop-held
decreases-loop-held l = length l.self.rest.now
