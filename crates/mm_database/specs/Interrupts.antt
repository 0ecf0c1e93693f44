-- Interrupts: what may be asked to end.
use Rattle.std.specs.Prelude.{ℕ, List}
use Rattle.plain_streams.specs.Requests.{without_return}
use Rattle.mm_statements.specs.Executing.{IsSelectOf}
use Rattle.mm_statements.specs.Querying.{IsSelectOfLine}
use Rattle.mm_database.specs.declared.database.OpenDatabase.{OpenDatabase}

-- the number names a statement whose effect is rows
abbrev pub IsSelect : ℕ → OpenDatabase → Type 0
IsSelect number d = IsSelectOf d.inner number

-- the line spells what has rows as its effect
abbrev pub IsLineSelect : List ℕ → OpenDatabase → Type 0
IsLineSelect line d = IsSelectOfLine d.inner.session (without_return line)
