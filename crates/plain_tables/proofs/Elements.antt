-- Lemmas on lists that the crates above cite here.
use Rattle.std.proofs.Common.{List, ◌∷◌, ◌≡◌, ◌⊎◌, sym, inl, inr}
use Rattle.std.specs.List.{Contains}
pub use Rattle.common_lemmas.proofs.Elements.{All-flat_map, All-append_parts, AllZip-set, Contains-head}
use Rattle.common_lemmas.proofs.Elements.{Contains-cons_cases}
pub use Rattle.common_lemmas.proofs.Pairs.{AllPairs-nil, AllPairs-head, AllPairs-tail}
pub use Rattle.common_lemmas.proofs.Places.{slice_get_set}
pub use Rattle.common_lemmas.proofs.Tests.{fails_where_none, fails_where_not_found, position_found}
pub use Rattle.common_lemmas.proofs.Options.{option_map_some}

pub Contains-cases : {X : Type 0} (x : X) (xs : List X) (y : X) → Contains (x ∷ xs) y → (x ≡ y) ⊎ (Contains xs y)
Contains-cases x xs y there = elim (Contains-cons_cases x xs y there) [ inl here ↦ inl (sym here) | inr later ↦ inr later ]
