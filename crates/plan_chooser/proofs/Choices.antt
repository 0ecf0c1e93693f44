-- The leftmost test that an index serves is one that it serves.
use Rattle.std.proofs.Common.{◌≡◌, Bool, ℕ, ◌<◌, length, List, Option, Some, None, IsTrue, sym}
use Rattle.std.specs.Prelude.{IfSome}
use Rattle.std.specs.List.{position, HoldsAt}
use Rattle.std.proofs.lemmas.List.Quantifiers.{position-Some}
use Rattle.plain_tables.proofs.Elements.{position_found}
use Rattle.plain_tables.specs.declared.resolved.Test.{Test}

pub leftmost_passes : (passes : Test → Bool) (tests : List Test) (first : Option ℕ) → first ≡ position passes tests
    → IfSome first (λ n. (n < length tests) × HoldsAt (λ t. IsTrue (passes t)) tests n)
leftmost_passes passes tests None e = tt
leftmost_passes passes tests (Some n) e = ((position_found passes tests n (sym e)).0, λ d. (position-Some passes tests n d (sym e)).1)
