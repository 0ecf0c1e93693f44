-- The lines of a listing.
use Rattle.std.specs.Prelude.{ℕ, List, slice_get}
use Rattle.std.specs.List.{flat_map, filter_map}
use Rattle.std.specs.Option.{option_map}
use Rattle.plain_tables.specs.AnswerText.{text_line}
use Rattle.plain_tables.specs.Spelling.{canonical_spelling}
use Rattle.plain_tables.specs.declared.command.Command.{Command}
use Rattle.plain_tables.specs.declared.command.Command.TheVariants as command
use Rattle.plain_tables.specs.declared.schema.Column.{Column}
use Rattle.mm_relation.specs.declared.numbers.DeclaredIndex.{DeclaredIndex}

-- the commands that declare indexes of a table of these columns
abbrev pub index_commands : List ℕ → List Column → List DeclaredIndex → List Command
index_commands name columns declared = filter_map (λ d. option_map (λ c. command.Index name c.name d.kind) (slice_get columns d.column.0)) declared

-- commands, each spelled on a line of its own
abbrev pub command_lines : List Command → List ℕ
command_lines commands = flat_map (λ c. text_line (canonical_spelling c)) commands
