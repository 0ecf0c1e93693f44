-- What a command did, or why it did nothing.
use Rattle.std.specs.Prelude.{◌≡◌, ℕ, List, ◌⊎◌}
use Rattle.plain_tables.specs.Databases.{Database}
use Rattle.plain_tables.specs.CsvReading.{Record}
use Rattle.plain_tables.specs.Effects.{Effect, refused}
use Rattle.plain_tables.specs.Commands.{effect_of}
use Rattle.plain_tables.specs.Spelling.{Spells}
use Rattle.plain_tables.specs.declared.command.Command.{Command}
use Rattle.plain_tables.specs.declared.command.Limits.{Limits}
use Rattle.plain_tables.specs.AnswerText.{answer_text}
use Rattle.plain_tables.specs.declared.refusal.Refusal.{Refusal}
use Rattle.plain_tables.specs.declared.refusal.Refusal.TheVariants.{NoMemory, NotACommand}

-- The effect came about, and that is its answer.
abbrev pub DoesAll : Effect → Database → List ℕ → Type 0
DoesAll effect new answer = (effect.database ≡ new) × (answer ≡ answer_text effect.outcome)

-- Nothing has changed: no memory was found, or that is the effect.
abbrev pub DoesNothing : Effect → Database → Database → Refusal → Type 0
DoesNothing effect old new refusal = (new ≡ old) × ((refusal ≡ NoMemory) ⊎ (effect ≡ refused old refusal))

-- The line spells a command, whose effect came about with these records in its block, and that is its answer.
abbrev pub Obeys : List Record → Limits → Database → List ℕ → Database → List ℕ → Type 0
Obeys records limits old line new answer = (c : Command) × Spells line c × DoesAll (effect_of records limits old c) new answer

-- Nothing has changed: no memory was found, or the line spells no command, or it spells one that is refused so.
pub data Declines (records : List Record) (limits : Limits) (old : Database) (line : List ℕ) : Refusal → Type 0 where
  no_memory : Declines records limits old line NoMemory
  not_a_command : ((c : Command) → ¬ (Spells line c)) → Declines records limits old line NotACommand
  refuses : (c : Command) (refusal : Refusal) → Spells line c → effect_of records limits old c ≡ refused old refusal
      → Declines records limits old line refusal
