-- What a writer that failed had taken.
use Rattle.std.specs.Prelude.{◌≡◌, ℕ, List, ◌++◌, Option}
use Rattle.std.specs.Io.KnownBytes.{Appends}

-- known bytes grow by a front of these
abbrev pub AppendsFront : Option (List ℕ) → Option (List ℕ) → List ℕ → Type 0
AppendsFront old new bytes = (sent : List ℕ) × (unsent : List ℕ) × Appends old new sent × (bytes ≡ sent ++ unsent)
