use Rattle.ttree_tests.proofs.KeyPlaces.{NeverFalls-keys}
use Rattle.ttree_tests.proofs.keys.Keys.flip.Goals as goal

pub find-requires-clause-in_order : goal.find-requires-clause-in_order
find-requires-clause-in_order g c = NeverFalls-keys c.args.key c.args.key _ c.self.invariant

pub invariant_of-self : goal.invariant_of-self
invariant_of-self g c = c.remove.ensures.rising

pub invariant_of-self-then-len-lt-MAX_LEN : goal.invariant_of-self-then-len-lt-MAX_LEN
invariant_of-self-then-len-lt-MAX_LEN g c = c.insert.ensures.rising
