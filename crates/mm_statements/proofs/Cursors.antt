-- Cursors: what comes of a statement whose rows are to be read page by page.
use Rattle.std.proofs.Common.{◌≡◌, ℕ, length, true, Ok}
use Rattle.std.specs.Prelude.{IsTrue}
use Rattle.plain_tables.specs.Doing.{done}
use Rattle.plain_tables.specs.Effects.{Outcome, Rows}
use Rattle.plain_tables.specs.declared.resolved.Query.{Query}
use Rattle.plain_tables.specs.declared.resolved.Resolved.TheVariants as resolved
use Rattle.mm_prepared.specs.Kept.{SameSeen}
use Rattle.mm_prepared.specs.declared.kept.Statements.{Statements}
use Rattle.mm_catalog.specs.State.{CatalogState}
use Rattle.mm_session.specs.Found.{HasFound, values_found}
use Rattle.mm_session.specs.declared.found_rows.FoundRows.{FoundRows}
use Rattle.mm_statements.specs.Cursors.{CursorState, IsCursorOf, MayShare, StandsBefore}
use Rattle.mm_shared.specs.Held.{Held}
use Rattle.mm_statements.specs.Resolving.{IsFinished}
use Rattle.mm_statements.proofs.Executing.{effect-of}
use Rattle.mm_statements.proofs.Seen.{same-seen, state_of}

-- the cursor over rows that were found
abbrev pub cursor_over : CatalogState → FoundRows → CursorState
cursor_over c found = record { columns = length found.list.columns; rows = values_found c found }

-- what was found of an outcome is all still to be read
pub found-before : (o : Outcome) (c : CatalogState) (found : FoundRows) → HasFound o c found → StandsBefore o (cursor_over c found)
found-before (Rows names rows) c found has = (has.1, has.2)
found-before o c found has = absurd has

-- rows of a statement that were found
pub cursor-of : (held : Held) (statements : Statements) (number : ℕ) (query : Query) → IsFinished held.session.database statements number (Ok (resolved.Select query))
    → (c : CatalogState) (found : FoundRows) → HasFound (done held.session.limits held.session.database (resolved.Select query)).outcome c found
    → IsCursorOf (state_of held statements) number (cursor_over c found)
cursor-of held statements number query finished c found has =
    let effect = done held.session.limits held.session.database (resolved.Select query) in
    (effect, effect-of held statements number (Ok (resolved.Select query)) finished, found-before effect.outcome c found has)

-- nothing else changed
pub may-share : (before after : Held) (old new : Statements) → after.session ≡ before.session → (IsTrue before.shared → after.shared ≡ true) → SameSeen old new
    → MayShare (state_of before old) (state_of after new)
may-share before after old new session stays seen = record {
  session = session;
  stays = stays;
  statements = same-seen before after old new seen;
}
