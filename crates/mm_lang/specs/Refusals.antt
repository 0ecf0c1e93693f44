-- Refusals: the refusal of a line that gives no command.
use Rattle.plain_tables.specs.declared.refusal.Refusal.{Refusal}
use Rattle.plain_tables.specs.declared.refusal.Refusal.TheVariants as refusal
use Rattle.mm_lang.specs.declared.refusal.ParseRefusal.{ParseRefusal}
use Rattle.mm_lang.specs.declared.refusal.ParseRefusal.TheVariants as parsing

abbrev pub refusal_of : ParseRefusal → Refusal
refusal_of parsing.Syntax = refusal.NotACommand
refusal_of parsing.NoMemory = refusal.NoMemory
