-- Declaring: which lines may change the names and columns of tables.
use Rattle.std.specs.Prelude.{ℕ, List, [], ◌∷◌, Bool, true, false, if◌then◌else◌, IsTrue}
use Rattle.plain_tables.specs.Spelling.{Spells, is_blank}
use Rattle.plain_tables.specs.declared.command.Command.{Command}
use Rattle.plain_tables.specs.declared.command.Command.TheVariants as command

-- the line from its first character on that is no blank
abbrev pub behind_blanks : List ℕ → List ℕ
behind_blanks [] = []
behind_blanks (c ∷ cs) = if is_blank c then behind_blanks cs else c ∷ cs

-- whether a command declares a table or drops one
abbrev pub declares : Command → Bool
declares (command.Table name schema) = true
declares (command.DropTable name) = true
declares c = false

-- the line spells a command that declares a table or drops one
abbrev pub IsOfTables : List ℕ → Type 0
IsOfTables line = (c : Command) × Spells line c × IsTrue (declares c)
