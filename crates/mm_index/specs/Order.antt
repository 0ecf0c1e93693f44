-- Orders that are strict over a set, lists that rise by one, and what an insert and a removal leave of such a list.
use Rattle.std.specs.Prelude.{◌≡◌, not, List, ◌∷◌, ◌++◌}
use Rattle.std.specs.List.{filter, AllPairs}
use Rattle.std.specs.Ordering.{is_lt, is_gt, is_eq, ordering_reverse}
use Rattle.std.specs.declared.cmp.Ordering.{Ordering}
use Rattle.std.specs.declared.cmp.Ordering.TheVariants.{Less, Equal}

-- Over the members of a set an order is total (it says the same either way round, and Less leads on from one to the next) and strict (only a member and itself are Equal).
pub record IsStrictOver {A : Type 0} (covers : A → Type 0) (cmp : A → A → Ordering) : Type 0 where
  pub antisymm : (a b : A) → covers a → covers b → cmp a b ≡ ordering_reverse (cmp b a)
  pub trans : (a b c : A) → covers a → covers b → covers c → cmp a b ≡ Less → cmp b c ≡ Less → cmp a c ≡ Less
  pub strict : (a b : A) → covers a → covers b → cmp a b ≡ Equal → a ≡ b

-- each element stands below each later one
abbrev pub IsRising : {A : Type 0} → (A → A → Ordering) → List A → Type 0
IsRising cmp xs = AllPairs (λ a b. cmp a b ≡ Less) xs

-- r at a place: what stands below it, then r, then what stands above it
unfoldable pub insert_placed : {A : Type 0} → (A → Ordering) → A → List A → List A
insert_placed place r xs = filter (λ q. is_lt (place q)) xs ++ r ∷ filter (λ q. is_gt (place q)) xs

-- r at its place by an order
unfoldable pub insert_by : {A : Type 0} → (A → A → Ordering) → A → List A → List A
insert_by cmp r xs = insert_placed (λ q. cmp q r) r xs

-- the list without r, which alone is Equal to r
unfoldable pub remove_by : {A : Type 0} → (A → A → Ordering) → A → List A → List A
remove_by cmp r xs = filter (λ q. not (is_eq (cmp q r))) xs
