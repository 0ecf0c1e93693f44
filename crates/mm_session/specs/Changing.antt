-- Commands that a session does beside its stream, without a line that spells them: what they change, and what they show.
use Rattle.std.specs.Prelude.{◌≡◌, ◌⊎◌, ℕ, List, length}
use Rattle.std.specs.List.{flat_map}
use Rattle.plain_tables.specs.Effects.{Effect, Outcome, Changed, Rows, refused}
use Rattle.plain_tables.specs.declared.value.Value.{Value}
use Rattle.plain_tables.specs.declared.refusal.Refusal.{Refusal}
use Rattle.plain_tables.specs.declared.refusal.Refusal.TheVariants.{NoMemory}
use Rattle.plain_tables.specs.declared.resolved.Resolved.{Resolved}
use Rattle.plain_tables.specs.declared.resolved.Resolved.TheVariants as resolved
use Rattle.temp_list.specs.OnlyRow.{AskForOneRow}
use Rattle.mm_session.specs.Sessions.{State}

-- an insert, an update or a delete
abbrev pub IsChange : Resolved → Type 0
IsChange (resolved.Insert n row) = Unit {0}
IsChange (resolved.Update n assignments tests) = Unit {0}
IsChange (resolved.Delete n tests) = Unit {0}
IsChange r = ⊥

-- A delete of which a test asks for the key, so that it is of one row at most: it needs no memory.
abbrev pub IsDeleteByKey : Resolved → Type 0
IsDeleteByKey (resolved.Delete n tests) = AskForOneRow tests
IsDeleteByKey r = ⊥

-- the effect came about, and changed so many rows
abbrev pub HasChanged : State → Effect → ℕ → Type 0
HasChanged new effect count = effect ≡ record { database = new.database; outcome = Changed count }

-- Nothing has changed: no memory was found, or the effect is this refusal.
abbrev pub HasDeclined : State → State → Effect → Refusal → Type 0
HasDeclined old new effect refusal = (new.database ≡ old.database) × ((refusal ≡ NoMemory) ⊎ (effect ≡ refused old.database refusal))

-- the values are those of the rows that are shown, a row behind the other, each of so many columns
abbrev pub ShowsValues : Outcome → ℕ → List Value → Type 0
ShowsValues (Rows names rows) columns values = (columns ≡ length names) × (values ≡ flat_map (λ row. row) rows)
ShowsValues outcome columns values = ⊥
