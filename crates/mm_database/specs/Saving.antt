-- Saving: what a call does that makes the next piece of a dump.
use Rattle.std.specs.Prelude.{◌≡◌, ◌⊎◌, ℕ, [], IsSomeAnd, MatchOption, Option, None, Some, if◌then◌else◌, nat_eq}
use Rattle.plain_tables.specs.AnswerText.{refusal_text}
use Rattle.plain_tables.specs.declared.refusal.Refusal.TheVariants.{DumpTooLong, NotACommand}
use Rattle.mm_session.specs.Saving.{IsDeclined, IsPiece}
use Rattle.mm_session.specs.declared.saving.SaveFault.TheVariants as fault
use Rattle.mm_session.specs.declared.saving.SavePlace.{SavePlace}
use Rattle.mm_session.specs.declared.saving.SavePlace.TheVariants as place
use Rattle.mm_database.specs.declared.database.OpenDatabase.{OpenDatabase}
use Rattle.mm_database.specs.declared.saves.SaveMark.{SaveMark}

-- The place of a part of a dump: 0 is the declarations, 1 the first rows of a table, 2 those behind a row, 3 its indexes, 4 the last line.
-- Any other is behind the last piece.
abbrev pub place_at : ℕ → ℕ → ℕ → Option SavePlace
place_at part table row =
    if nat_eq part 0 then Some place.Declarations
    else (if nat_eq part 1 then Some (place.Rows (record { 0 = table }) None)
    else (if nat_eq part 2 then Some (place.Rows (record { 0 = table }) (Some (record { number = row })))
    else (if nat_eq part 3 then Some (place.Indexes (record { 0 = table })) else (if nat_eq part 4 then Some place.End else None))))

-- the place that a mark stands for
abbrev pub place_of : SaveMark → Option SavePlace
place_of mark = place_at mark.part mark.table mark.row

-- The answer is the piece at the place of the first mark, and the second stands for where the save goes on. Behind the last piece there is
-- none, the answer is empty, and the mark stays.
abbrev pub MakesPiece : SaveMark → SaveMark → OpenDatabase → OpenDatabase → Type 0
MakesPiece at next old new =
    MatchOption (place_of at) ((new.answer ≡ []) × (next ≡ at)) (λ here. IsPiece old.inner.session.catalog here new.answer (place_of next))

-- No dump can hold the next row, since it has no room in a block or can't be spelled. The answer is a refusal.
abbrev pub IsUnsaved : SaveMark → OpenDatabase → OpenDatabase → Type 0
IsUnsaved at old new =
    IsSomeAnd (place_of at) (λ here.
    (IsDeclined old.inner.session.catalog here fault.RowTooLong × (new.answer ≡ refusal_text DumpTooLong))
    ⊎ (IsDeclined old.inner.session.catalog here fault.Unspellable × (new.answer ≡ refusal_text NotACommand)))
