-- Answer text: the bytes of each answer. Each of its lines ends with a line feed.
use Rattle.std.specs.Prelude.{ℕ, List, [], ◌∷◌, ◌++◌, length, Some, slice_get}
use Rattle.std.specs.List.{flat_map, filter_map}
use Rattle.std.specs.Option.{option_map}
use Rattle.std.specs.Fmt.{decimal}
use lib.Chars.{codes}
use Rattle.plain_tables.specs.Refusals.{number_of, text_of}
use Rattle.plain_tables.specs.Csv.{block_text}
use Rattle.plain_tables.specs.Tables.{Table}
use Rattle.plain_tables.specs.Spelling.{canonical_spelling}
use Rattle.plain_tables.specs.Effects.{Outcome, Done, Changed, Rows, Dumped, Listed, Refused}
use Rattle.plain_tables.specs.declared.refusal.Refusal.{Refusal}
use Rattle.plain_tables.specs.declared.refusal.Refusal.TheVariants as refusal
use Rattle.plain_tables.specs.declared.command.Command.{Command}
use Rattle.plain_tables.specs.declared.command.Command.TheVariants as command

-- a text with a line feed behind it
abbrev pub text_line : List ℕ → List ℕ
text_line text = text ++ 10 ∷ []

-- Behind the words: the record that the refusal names, in parentheses but for a bad record. If it names none, nothing.
abbrev pub record_part : Refusal → List ℕ
record_part (refusal.BadRecord n) = codes " " ++ decimal n
record_part (refusal.KeyExists (Some n)) = codes " (record " ++ (decimal n ++ codes ")")
record_part (refusal.NoReferencedRow (Some n)) = codes " (record " ++ (decimal n ++ codes ")")
record_part (refusal.TableFull (Some n)) = codes " (record " ++ (decimal n ++ codes ")")
record_part other = []

-- error, the number, the words, and the record if one is named
abbrev pub refusal_text : Refusal → List ℕ
refusal_text r = text_line (codes "error " ++ (decimal (number_of r) ++ (codes " " ++ (text_of r ++ record_part r))))

-- the commands that declare a table and its indexes
abbrev pub declarations : Table → List Command
declarations table =
    command.Table table.name (record { columns = table.columns })
    ∷ filter_map (λ i. option_map (λ c. command.Index table.name c.name i.1) (slice_get table.columns i.0)) table.indexes

-- these for all tables, each spelled on a line of its own
abbrev pub declaration_lines : List Table → List ℕ
declaration_lines tables = flat_map (λ c. text_line (canonical_spelling c)) (flat_map declarations tables)

-- ok; ok and how many rows changed; rows, how many there are, and below that the names and the rows as CSV; the load of a
-- block, and the block; what declares the tables, and below that ok and how many there are; or the refusal
abbrev pub answer_text : Outcome → List ℕ
answer_text Done = text_line (codes "ok")
answer_text (Changed n) = text_line (codes "ok " ++ decimal n)
answer_text (Rows names rows) =
    text_line (codes "rows " ++ decimal (length rows)) ++ block_text names rows
answer_text (Dumped name block) = text_line (canonical_spelling (command.Load name (length block))) ++ block
answer_text (Listed tables) = declaration_lines tables ++ text_line (codes "ok " ++ decimal (length tables))
answer_text (Refused r) = refusal_text r
