-- A comparison that is asked twice.
use Rattle.std.proofs.Common.{◌≡◌, refl}
use Rattle.std.specs.Ordering.{ordering_then}
use Rattle.std.specs.declared.cmp.Ordering.{Ordering}
use Rattle.std.specs.declared.cmp.Ordering.TheVariants.{Equal}

pub then_same : (o : Ordering) → ordering_then o o ≡ o
then_same Equal = refl
then_same o = refl
