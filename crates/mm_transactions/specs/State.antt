-- What a catalog with transactions is seen as.
use Rattle.std.specs.Prelude.{ℕ, List, map, length, refl}
use Rattle.std.specs.Coded.{Coded, code_by, coded×, coded_list, coded_ℕ}
use Rattle.plain_tables.specs.Databases.{Database}
use Rattle.plain_tables.specs.Transactions.{Transactional}
use Rattle.mm_catalog.specs.Outline.{outline_of}
use Rattle.mm_catalog.specs.Seen.{database_of}
use Rattle.mm_catalog.specs.State.{CatalogState}
use Rattle.mm_transactions.specs.Tables.{tables_in}
use Rattle.mm_transactions.specs.Undoing.{AreMarks, CanUndo, Change, undone}

-- the tables; the changes of the open transactions, the newest first; how many there were when each began, the innermost first
pub record TransactionalState : Type 0 where
  pub catalog : CatalogState
  pub changes : List Change
  pub marks : List ℕ

abbrev pub state_code : Coded CatalogState → Coded Change → Coded TransactionalState
state_code catalog change =
    code_by (CatalogState × (List Change × List ℕ)) (coded× catalog (coded× (coded_list change) (coded_list coded_ℕ)))
    (λ t. (t.catalog, (t.changes, t.marks))) (λ p. record { catalog = p.0; changes = p.1.0; marks = p.1.1 }) (λ _. refl)

-- the database when so many changes had been noted
abbrev pub database_at : TransactionalState → ℕ → Database
database_at t mark = tables_in (undone mark t.changes (outline_of t.catalog))

-- the databases that the open transactions began with, that of the innermost first
abbrev pub saved_of : TransactionalState → List Database
saved_of t = map (database_at t) t.marks

-- the database, with those that the open transactions began with
abbrev pub transactional_of : TransactionalState → Transactional
transactional_of t = record { database = database_of t.catalog; saved = saved_of t }

-- each change can be undone, and the marks of the open transactions lie among the changes
pub record IsUndoable (catalog : CatalogState) (changes : List Change) (marks : List ℕ) : Type 0 where
  pub ready : CanUndo changes (outline_of catalog)
  pub marks_lie : AreMarks marks (length changes)
