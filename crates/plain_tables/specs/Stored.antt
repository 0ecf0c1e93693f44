-- Values as rows keep them: one that is a link to a row of another table is seen as an integer that no command can say.
use Rattle.std.specs.Prelude.{ℕ, ◌+◌, ◌-◌, ◌^◌, pos, negsuc, nat_le, if◌then◌else◌, Option, Some, None}
use Rattle.std.specs.String.{string_bytes}
use Rattle.plain_tables.specs.declared.value.Value.{Value}
use Rattle.plain_tables.specs.declared.value.Value.TheVariants.{Null, Int, Text}
use Rattle.plain_tables.specs.declared.seen_value.SeenValue.{SeenValue}
use Rattle.plain_tables.specs.declared.seen_value.SeenValue.TheVariants as seen
use Rattle.plain_tables.specs.declared.stored_value.Content.{Content}
use Rattle.plain_tables.specs.declared.stored_value.Content.TheVariants as content

-- the link to row number n: an integer above those of 64 bits
abbrev pub link_value : ℕ → Value
link_value n = Int (pos (2 ^ 63 + n))

-- the number of the row that a value links to
abbrev pub link_number : Value → Option ℕ
link_number Null = None
link_number (Int (pos z)) = if nat_le (2 ^ 63) z then Some (z - 2 ^ 63) else None
link_number (Int (negsuc z)) = None
link_number (Text text) = None

-- the value that was lent to be read
abbrev pub value_seen : SeenValue → Value
value_seen seen.Null = Null
value_seen (seen.Int z) = Int z
value_seen (seen.Text text) = Text text.now
value_seen (seen.Link n) = link_value n

-- the value that is kept so
abbrev pub content_value : Content → Value
content_value content.Null = Null
content_value (content.Int z) = Int z
content_value (content.Link n) = link_value n
content_value (content.Short text) = Text text
content_value (content.Long text) = Text (string_bytes text.value)
