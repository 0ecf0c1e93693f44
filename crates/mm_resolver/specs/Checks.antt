-- The checks of a statement whose names are found.
use Rattle.std.specs.Prelude.{ℕ, List, [], ◌∷◌, ◌==◌, nat_lt, Result, Ok, Err, if◌then◌else◌}
use Rattle.std.specs.List.{list_any}
use Rattle.plain_tables.specs.Effects.{Check}
use Rattle.plain_tables.specs.declared.refusal.Refusal.{Refusal}
use Rattle.plain_tables.specs.declared.refusal.Refusal.TheVariants.{TooMany, KeyCannotBeSet}
use Rattle.plain_statements.specs.declared.resolution.SlotAssignment.{SlotAssignment}

-- the refusal of the first check that refuses
abbrev pub verdict : List Check → Result (Unit {0}) Refusal
verdict [] = Ok tt
verdict (check ∷ checks) = if check.refuses then Err check.refusal else verdict checks

-- ---- the checks of a statement that come behind those of its values

-- those of a delete with so many conditions
abbrev pub delete_late : ℕ → List Check
delete_late conditions = record { refuses = nat_lt 8 conditions; refusal = TooMany } ∷ []

-- those of an update by these assignments, with so many conditions
abbrev pub update_late : List SlotAssignment → ℕ → List Check
update_late set conditions = record { refuses = list_any (λ a. a.column.0 == 0) set; refusal = KeyCannotBeSet } ∷ delete_late conditions
