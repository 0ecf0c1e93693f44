-- Rows whose values stand one behind the other.
use Rattle.std.specs.Prelude.{◌≡◌, ◌≤◌, ◌-◌, ℕ, List, [], ◌∷◌, drop, take}
use Rattle.plain_tables.specs.Tables.{Row}
use Rattle.plain_tables.specs.declared.value.Value.{Value}

-- the rows that end at these places among the values, of which the first begins at this one
abbrev pub rows_between : ℕ → List ℕ → List Value → List Row
rows_between start [] values = []
rows_between start (end ∷ ends) values = take (end - start) (drop start values) ∷ rows_between end ends values

-- Places rise from one up to another, at which the last of them is.
abbrev pub RiseTo : ℕ → List ℕ → ℕ → Type 0
RiseTo start [] last = start ≡ last
RiseTo start (end ∷ ends) last = (start ≤ end) × RiseTo end ends last
