-- The part of a list that lies in the range that a probe seeks.
use Rattle.std.specs.Prelude.{List}
use Rattle.std.specs.List.{filter}
use Rattle.std.specs.List.Sorted.{IsNonDecreasingBy}
use Rattle.std.specs.Ordering.{is_eq, is_ge, ordering_index}
use Rattle.std.specs.declared.cmp.Ordering.{Ordering}

-- the places never fall along the list: Less, then Equal, then Greater
abbrev pub NeverFalls : {A : Type 0} → (A → Ordering) → List A → Type 0
NeverFalls place xs = IsNonDecreasingBy (λ r. ordering_index (place r)) xs

-- the elements in the range, in their order
abbrev pub in_range : {A : Type 0} → (A → Ordering) → List A → List A
in_range place xs = filter (λ r. is_eq (place r)) xs

-- the elements that do not stand below the range, in their order: where the places never fall, the list from the first of them on
abbrev pub from_range : {A : Type 0} → (A → Ordering) → List A → List A
from_range place xs = filter (λ r. is_ge (place r)) xs
