-- What is put into a sink, one after another.
use Rattle.mm_cells.specs.Reading.{AreFull, IsTooLong}
use Rattle.mm_cells.specs.Values.{values_of}
use Rattle.mm_cells.specs.declared.cells.Cells.{Cells}
use Rattle.mm_cells.specs.declared.fault.CellFault.{CellFault}
use Rattle.mm_cells.specs.declared.fault.CellFault.TheVariants as fault
use Rattle.std.proofs.Common.{◌≡◌, ◌∙◌, ℕ, ◌+◌, ◌<◌, ◌≤◌, List, [], ◌∷◌, ◌++◌, Option, None, Some, inl, inr, map, sym, ap, subst, arith, append-nil, append_assoc, length}
use Rattle.std.proofs.KnownBytes.{Appends-nil}
use Rattle.std.proofs.lemmas.List.{length-append}
use Rattle.std.specs.Io.KnownBytes.{Appends}
use Rattle.std.specs.List.{flat_map}
use Rattle.std.specs.Prelude.{◌↔◌, Result, Ok, Err, IfErr, IfOk, IfSome, OnErr, OnOk}
use Rattle.plain_tables.specs.Csv.{joined, record_text, row_record, value_field}
use Rattle.plain_tables.specs.ResolvedLaws.{IsStorable}
use Rattle.plain_tables.specs.Tables.{Row}
use Rattle.plain_tables.specs.declared.value.Value.{Value}
use Rattle.plain_tables.specs.declared.value.Value.TheVariants as value
use Rattle.mm_session.specs.Sinks.{PutsValues, EndsRow, PutsRows, Written, IsBehind}

module _ {S : Type 0} (received : S → List Row → Row → S → Type 0) where
  -- values, and more behind them
  pub values_more : (old mid new : S) (front rest : Row) → PutsValues received old mid front → PutsValues received mid new rest → PutsValues received old new (front ++ rest)
  values_more old mid new front rest before more =
      λ start rows part is. subst (λ (values : Row). received start rows values new) (append_assoc part front rest) (more start rows (part ++ front) (before start rows part is))

  -- the values of a row, and its end
  pub row_put : (old mid new : S) (values : Row) → PutsValues received old mid values → EndsRow received mid new → 0 < length values → PutsRows received old new (values ∷ [])
  row_put old mid new values puts ends some = λ start rows is. ends start rows values (puts start rows [] is) some

  -- no row more
  pub rows_none : (s : S) → PutsRows received s s []
  rows_none s = λ start rows is. subst (λ (rs : List Row). received start rs [] s) (sym (append-nil rows)) is

  -- rows, and more behind them
  pub rows_more : (old mid new : S) (front rest : List Row) → PutsRows received old mid front → PutsRows received mid new rest → PutsRows received old new (front ++ rest)
  rows_more old mid new front rest before more =
      λ start rows is. subst (λ (rs : List Row). received start rs [] new) (append_assoc rows front rest) (more start (rows ++ front) (before start rows is))

-- ---- what the two sinks have then

-- the values of rows that came into a sink of values, which had none
pub values_put : {S : Type 0} (values : S → List Value) (old new : S) (rows : List Row) → values old ≡ []
    → PutsRows (λ (start : S) rows part now. values now ≡ values start ++ (flat_map (λ row. row) rows ++ part)) old new rows → values new ≡ flat_map (λ row. row) rows
values_put values old new rows none puts =
    puts old [] (sym (append-nil (values old))) ∙ ap (λ (front : List Value). front ++ (flat_map (λ row. row) rows ++ [])) none ∙ append-nil (flat_map (λ row. row) rows)

-- and how many columns they have
pub cells_shown : {S E : Type 0} (values : S → List Value) (result : Result ℕ E) (old new : S) (rows : List Row) (n : ℕ) → values old ≡ []
    → OnOk result (PutsRows (λ (start : S) rows part now. values now ≡ values start ++ (flat_map (λ row. row) rows ++ part)) old new rows) → IfOk result (λ k. k ≡ n)
    → IfOk result (λ k. (k ≡ n) × (values new ≡ flat_map (λ row. row) rows))
cells_shown values (Ok k) old new rows n none puts counted = (counted, values_put values old new rows none puts)
cells_shown values (Err e) old new rows n none puts counted = tt

-- rows that were written behind others
pub rows_written : (old new : Written) (rows : List Row) → old.part ≡ [] → PutsRows IsBehind old new rows → IsBehind old rows [] new
rows_written old new rows none puts = puts old [] (record { written = Appends-nil old.bytes; waits = none; counted = omega arith })

-- ---- how many rows are written

record-some : (fields : List (List ℕ)) → 0 < length (record_text fields)
record-some [] = omega arith
record-some ([] ∷ []) = omega arith
record-some ((b ∷ field) ∷ fields) = omega (arith, length-append (joined ((b ∷ field) ∷ fields)) (10 ∷ []))
record-some ([] ∷ second ∷ fields) = omega (arith, length-append (joined ([] ∷ second ∷ fields)) (10 ∷ []))

pub none-counted : (bytes : Option (List ℕ)) → IfSome bytes (λ bs. 0 ≤ length bs)
none-counted None = tt
none-counted (Some bs) = omega arith

-- They are no more than the bytes before them, and each has one.
pub rows-counted : (count : ℕ) (old new : Option (List ℕ)) (row : Row) (before after : List ℕ) → Some before ≡ old → Some after ≡ new
    → IfSome old (λ bytes. count ≤ length bytes) → Appends old new (row_record row) → (count ≤ length before) × (length before < length after)
rows-counted count old new row before after was is few grown =
    let within : count ≤ length before = subst (λ (o : Option (List ℕ)). IfSome o (λ (bytes : List ℕ). count ≤ length bytes)) (sym was) few in
    let put : after ≡ before ++ row_record row =
    subst (λ (o : Option (List ℕ)). Appends o (Some after) (row_record row)) (sym was) (subst (λ (o : Option (List ℕ)). Appends old o (row_record row)) (sym is) grown) in
    let longer : length after ≡ length before + length (row_record row) = ap length put ∙ length-append before (row_record row) in
    let some : 0 < length (row_record row) = record-some (map value_field row) in
    (within, omega arith)

-- ---- cells that take no more

-- behind full cells alone a storable value is too long
full_before : (before : List Value) (v : Value) → IsStorable v → IsTooLong before v → AreFull before
full_before before value.Null stores long = absurd long
full_before before (value.Int z) stores long = absurd long
full_before before (value.Text text) stores long = elim long [ inl past ↦ absurd (omega (arith, past, stores)) | inr full ↦ full ]

-- cells that have declined one are full
pub full_after : {A : Type 0} (result : Result A CellFault) (old new : Cells) (v : Value) → IsStorable v
    → ((result ≡ Err fault.TooLong) ↔ IsTooLong (values_of old) v) → OnErr result (values_of new ≡ values_of old)
    → IfErr result (λ why. why ≡ fault.TooLong → AreFull (values_of new))
full_after (Ok a) old new v stores when same = tt
full_after (Err why) old new v stores when same =
    λ is. subst AreFull (sym same) (full_before (values_of old) v stores (when.0 (ap Err is)))
