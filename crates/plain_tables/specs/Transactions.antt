-- Transactions: a database, what it was when each transaction that is open began, and the law of a rollback.
use Rattle.std.specs.Prelude.{◌≡◌, ℕ, zero, suc, List, [], ◌∷◌, Bool, true, false, drop, slice_index_or, IsTrue}
use Rattle.plain_tables.specs.Databases.{Database}

-- a database, and the databases that the open transactions began with, that of the innermost first
pub record Transactional : Type 0 where
  pub database : Database
  pub saved : List Database

-- a transaction begins, in another one too
abbrev pub begun : Transactional → Transactional
begun t = record { database = t.database; saved = t.database ∷ t.saved }

-- the innermost transaction ends, and what it did stays
abbrev pub committed : Transactional → Transactional
committed t = record { database = t.database; saved = drop 1 t.saved }

-- the innermost transaction ends, and the database is what it began with; where none is open nothing changes
abbrev pub rolled_back : Transactional → Transactional
rolled_back t = record { database = slice_index_or t.saved 0 t.database; saved = drop 1 t.saved }

-- what a program does: commands, of which one leaves this database, and transactions that begin and end
pub data Step : Type 0 where
  Changes : Database → Step
  Begins : Step
  Commits : Step
  RollsBack : Step

abbrev pub after_step : Step → Transactional → Transactional
after_step (Changes tables) t = record { database = tables; saved = t.saved }
after_step Begins t = begun t
after_step Commits t = committed t
after_step RollsBack t = rolled_back t

-- the steps done one after the other
abbrev pub after : List Step → Transactional → Transactional
after [] t = t
after (step ∷ steps) t = after steps (after_step step t)

-- whether the steps, with so many transactions of theirs open, end these and each that they begin, and no other
abbrev pub ends_its_own : ℕ → List Step → Bool
ends_its_own zero [] = true
ends_its_own (suc open_ones) [] = false
ends_its_own open_ones (Changes tables ∷ steps) = ends_its_own open_ones steps
ends_its_own open_ones (Begins ∷ steps) = ends_its_own (suc open_ones) steps
ends_its_own zero (Commits ∷ steps) = false
ends_its_own zero (RollsBack ∷ steps) = false
ends_its_own (suc open_ones) (Commits ∷ steps) = ends_its_own open_ones steps
ends_its_own (suc open_ones) (RollsBack ∷ steps) = ends_its_own open_ones steps

-- Whatever is done in a transaction, other transactions among it, a rollback restores what there was.
abbrev pub RollbacksRestore : Type 0
RollbacksRestore = (t : Transactional) (steps : List Step) → IsTrue (ends_its_own 0 steps) → rolled_back (after steps (begun t)) ≡ t

-- Whatever is done in a transaction, a commit leaves the database that came of it, and the transactions around it as they were.
abbrev pub CommitsKeep : Type 0
CommitsKeep =
    (t : Transactional) (steps : List Step) → IsTrue (ends_its_own 0 steps)
    → committed (after steps (begun t)) ≡ record { database = (after steps (begun t)).database; saved = t.saved }
