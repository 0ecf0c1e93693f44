use Rattle.std.proofs.Common.{lit<}
use Rattle.ttree_tests.proofs.KeyPlaces.{NeverFalls-keys}
use Rattle.ttree_tests.proofs.toggles.walk_alike.Goals as goal

pub walk_from-one-requires : goal.walk_from-one-requires
walk_from-one-requires g c = (lit< tt, (lit< tt, (tt, (λ k d l. tt, NeverFalls-keys c.keys_from.result.low c.keys_from.result.high _ c.tree.invariant))))

pub walk_from-other-requires-clause-in_order : goal.walk_from-other-requires-clause-in_order
walk_from-other-requires-clause-in_order g c = NeverFalls-keys c.keys_from-2.result.low c.keys_from-2.result.high _ c.sorted.invariant
