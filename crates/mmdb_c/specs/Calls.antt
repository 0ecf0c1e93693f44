-- What the calls of C do with handles, in the words of what is done with the database that a handle owns.
use Rattle.std.specs.Prelude.{◌<◌, ◌≤◌, ℕ, List, Option, Some, None}
use Rattle.mm_database.specs.Restoring.{TakesPiece}
use Rattle.mm_database.specs.Sharing.{OpensOn, Shares}
use Rattle.mm_database.specs.declared.database.OpenDatabase.{OpenDatabase}
use Rattle.mm_database.specs.declared.restoring.OpenRestore.{OpenRestore}

-- the limits that a database may have
pub record AreLimits (rows block : ℕ) : Type 0 where
  pub some : 0 < rows
  pub rows_fit : rows ≤ 16777216
  pub block_fits : block ≤ 16777216

-- The handle was open and is, and this holds of the database before and after.
abbrev pub Becomes : Option OpenDatabase → Option OpenDatabase → (OpenDatabase → OpenDatabase → Type 0) → Type 0
Becomes (Some old) (Some new) says = says old new
Becomes (Some old) None says = ⊥
Becomes None new says = ⊥

-- The handle is open and has the tables of the other. Where it was open before, the rest stays.
abbrev pub Joins : OpenDatabase → Option OpenDatabase → Option OpenDatabase → Type 0
Joins other (Some old) (Some new) = Shares other old new
Joins other None (Some new) = OpensOn other new
Joins other old None = ⊥

-- The restore was open and is, and took in the piece.
abbrev pub HasTakenIn : List ℕ → Option OpenRestore → Option OpenRestore → Type 0
HasTakenIn piece (Some old) (Some new) = TakesPiece piece old new
HasTakenIn piece (Some old) None = ⊥
HasTakenIn piece None new = ⊥
