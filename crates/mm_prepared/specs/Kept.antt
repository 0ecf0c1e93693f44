-- Kept: the statement that a number names, and what is seen of it.
use Rattle.std.specs.Prelude.{◌≡◌, ◌≢◌, ℕ, IsSome, IsSomeAnd, List, Option, None, map}
use Rattle.std.specs.Option.{option_map}
use Rattle.slab.specs.Slab.{get}
use Rattle.plain_tables.specs.declared.value.Value.{Value}
use Rattle.mm_prepared.specs.declared.kept.Prepared.{Prepared}
use Rattle.mm_prepared.specs.declared.kept.Statements.{Statements}

-- A statement that is kept is seen as the line that spells it, and the values that are bound to its holes.
pub record KeptStatement : Type 0 where
  pub line : List ℕ
  pub values : List Value

-- the statement that a number names
abbrev pub named : Statements → ℕ → Option Prepared
named statements number = get statements.kept number

-- every number names what it named
abbrev pub SameNamed : Statements → Statements → Type 0
SameNamed old new = (number : ℕ) → named new number ≡ named old number

-- the number names this, and every other what it named
pub record NamesNow (old new : Statements) (number : ℕ) (what : Option Prepared) : Type 0 where
  pub own : named new number ≡ what
  pub others : (other : ℕ) → other ≢ number → named new other ≡ named old other

-- the statement, of which nothing is known that it means
abbrev pub unresolved : Prepared → Prepared
unresolved p = record p { resolution = None }

-- what is seen of a statement: its line and its values, and not what it means
abbrev pub seen : Prepared → KeptStatement
seen p = record { line = p.line; values = p.bound }

-- what is seen of the statements, by their numbers
abbrev pub all_seen : Statements → List (Option KeptStatement)
all_seen statements = map (option_map seen) statements.kept.slots

-- what is seen of every number is what was seen
abbrev pub SameSeen : Statements → Statements → Type 0
SameSeen old new = (number : ℕ) → option_map seen (named new number) ≡ option_map seen (named old number)

-- the number names a statement, of which is known what it means
abbrev pub IsKnown : Statements → ℕ → Type 0
IsKnown statements number = IsSomeAnd (named statements number) (λ p. IsSome p.resolution)
