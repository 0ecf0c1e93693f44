use Rattle.ttree_tests.proofs.KeyPlaces.{NeverFalls-keys}
use Rattle.ttree_tests.proofs.keys.Keys.between.Goals as goal

pub range-requires-clause-in_order : goal.range-requires-clause-in_order
range-requires-clause-in_order g c = NeverFalls-keys c.args.low c.args.high _ c.self.invariant
