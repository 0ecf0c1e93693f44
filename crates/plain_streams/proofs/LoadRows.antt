-- Loads: rows that rise, and whose references are held, are put into an empty table one behind the other.
use Rattle.std.proofs.Common.{◌≡◌, ℕ, zero, suc, ◌+◌, ◌<◌, ◌≤◌, List, [], ◌∷◌, ◌++◌, length, set, true, false, Some, refl, sym, ap, ◌∙◌, subst, arith, append_assoc, append-nil, length-append}
use Rattle.std.specs.Prelude.{IfSome, Ok, not, cond}
use Rattle.std.specs.List.{All, AllByRecursion, cons_option, list_all, slice_get}
use Rattle.std.specs.Ordering.{is_eq, is_lt}
use Rattle.std.specs.declared.cmp.Ordering.TheVariants.{Less}
use Rattle.std.proofs.lemmas.Bool.{lt-leb}
use Rattle.std.proofs.lemmas.List.Elements.{All-head, All-tail, All-weaker}
use Rattle.std.proofs.lemmas.List.Folds.{list_any_none}
use Rattle.std.proofs.lemmas.Option.{none-some, same_Some}
use Rattle.plain_tables.specs.Tables.{Table, Row, key_cmp, AreRising, has_key_of, with_row}
use Rattle.plain_tables.specs.Databases.{Database, is_named, table_named}
use Rattle.plain_tables.specs.References.{CanHold, IsRowOf, referred, reference_of, references, is_held, Reference}
use Rattle.plain_tables.specs.Effects.{Check, Effect, Changed, checked, grown_by}
use Rattle.plain_tables.specs.Doing.{insert, insert_checks, loaded}
use Rattle.plain_tables.specs.declared.value.Value.{Value}
use Rattle.plain_tables.specs.declared.value.Value.TheVariants as value
use Rattle.plain_tables.specs.declared.schema.ColKind.{ColKind}
use Rattle.plain_tables.specs.declared.schema.ColKind.TheVariants as kind
use Rattle.plain_tables.specs.declared.schema.Column.{Column}
use Rattle.plain_tables.specs.declared.command.Limits.{Limits}
use Rattle.plain_tables.specs.declared.numbers.TableNumber.{TableNumber}
use Rattle.common_lemmas.proofs.Pairs.{AllPairs-behind}
use Rattle.common_lemmas.proofs.Filters.{filter_all, filter_none}
use Rattle.common_lemmas.proofs.Places.{slice_get_set}
use Rattle.std.proofs.lemmas.List.{set-set}
use Rattle.plain_tables.proofs.Rows.{key_cmp_total}

-- ---- a row above all others

-- the row is above each of these
abbrev AreBelow : List Row → Row → Type 0
AreBelow rows row = All (λ r. key_cmp r row ≡ Less) rows

-- it is put behind them
put-last : (row : Row) (rows : List Row) → AreBelow rows row → with_row row rows ≡ rows ++ row ∷ []
put-last row rows below =
    let before = filter_all (λ r. is_lt (key_cmp r row)) rows
    (All-weaker (λ r. key_cmp r row ≡ Less) (λ r. is_lt (key_cmp r row) ≡ true) (λ r less. rw less refl) rows below) in
    let behind = filter_none (λ r. is_lt (key_cmp row r)) rows
    (All-weaker (λ r. key_cmp r row ≡ Less) (λ r. is_lt (key_cmp row r) ≡ false) (λ r less. rw (key_cmp_total.antisymm row r, less) refl) rows below) in
    rw (before, behind) refl

-- and its key is new
new-key : (row : Row) (rows : List Row) → AreBelow rows row → has_key_of row rows ≡ false
new-key row rows below =
    list_any_none (λ r. is_eq (key_cmp r row)) rows
    (All-weaker (λ r. key_cmp r row ≡ Less) (λ r. is_eq (key_cmp r row) ≡ false) (λ r less. rw less refl) rows below)

-- ---- references that are held

-- the tables of these names are the same
abbrev pub SameReferred : Database → Database → List Column → Type 0
SameReferred tables others columns = All (λ c. IfSome (referred c.kind) (λ name. table_named name others ≡ table_named name tables)) columns

held-more : (tables others : Database) (c : Column) (v : Value) (refs : List Reference)
    → IfSome (referred c.kind) (λ name. table_named name others ≡ table_named name tables) → CanHold tables c.kind v
    → list_all (is_held others) refs ≡ true → list_all (is_held others) (cons_option (reference_of c v) refs) ≡ true
held-more tables others c v refs = by c.kind v
  where
    by : (k : ColKind) (w : Value) → IfSome (referred k) (λ name. table_named name others ≡ table_named name tables) → CanHold tables k w
        → list_all (is_held others) refs ≡ true
        → list_all (is_held others) (cons_option (reference_of (record { name = c.name; kind = k }) w) refs) ≡ true
    by k value.Null same holds rest = rest
    by (kind.Ref name) w same holds rest = rw (same, holds, rest) refl
    by (kind.RefOrNull name) w same holds rest = rw (same, holds, rest) refl
    by own w same holds rest = rest

all-held : (tables others : Database) (columns : List Column) (row : Row) → SameReferred tables others columns → IsRowOf tables columns row
    → list_all (is_held others) (references columns row) ≡ true
all-held tables others [] [] same fits = refl
all-held tables others [] (v ∷ row) same fits = absurd fits
all-held tables others (c ∷ columns) [] same fits = absurd fits
all-held tables others (c ∷ columns) (v ∷ row) same fits =
    let P : Column → Type 0 = λ d. IfSome (referred d.kind) (λ name. table_named name others ≡ table_named name tables) in
    held-more tables others c v (references columns row) (All-head P c columns same) fits.0
    (all-held tables others columns row (All-tail P c columns same) fits.1)

-- ---- one row, and all

checks-pass : (tables : Database) (checks : List Check) (e : Effect) → AllByRecursion (λ c. c.refuses ≡ false) checks → checked tables checks e ≡ e
checks-pass tables [] e pass = refl
checks-pass tables (c ∷ checks) e pass = rw pass.0 (checks-pass tables checks e pass.1)

-- a table of another name is there as before
pub named-other : (name : List ℕ) (tables : Database) (n : ℕ) (old new : Table) → slice_get tables n ≡ Some old → is_named name old ≡ false
    → is_named name new ≡ false → table_named name (set tables n new) ≡ table_named name tables
named-other name [] n old new there other other' = absurd (none-some old there)
named-other name (t ∷ tables) zero old new there other other' =
    let here : is_named name t ≡ false = subst (λ u. is_named name u ≡ false) (sym (same_Some t old there)) other in rw (here, other') refl
named-other name (t ∷ tables) (suc n) old new there other other' =
    ap (λ found. cond (is_named name t) (Some t) found) (named-other name tables n old new there other other')

module _ (limits : Limits) (tables others : Database) (n : TableNumber) (columns : List Column) (copy : Table) (within : n.0 < length others)
    (shaped : copy.columns ≡ columns) (same : (rows : List Row) → SameReferred tables (set others n.0 (record copy { rows = rows })) columns) where
  -- the others, with these rows in the copy
  abbrev with_rows : List Row → Database
  with_rows rows = set others n.0 (record copy { rows = rows })

  insert-last : (done : List Row) (row : Row) → AreBelow done row → length done < limits.rows → IsRowOf tables columns row
      → insert limits (with_rows done) n row ≡ record { database = with_rows (done ++ row ∷ []); outcome = Changed 1 }
  insert-last done row below few fits =
      let here : Table = record copy { rows = done } in
      let there = slice_get_set others n.0 here within in
      let held : list_all (is_held (with_rows done)) (references copy.columns row) ≡ true =
      subst (λ cs. list_all (is_held (with_rows done)) (references cs row) ≡ true) (sym shaped)
      (all-held tables (with_rows done) columns row (same done) fits) in
      let pass : AllByRecursion (λ c. c.refuses ≡ false) (insert_checks limits (with_rows done) here row) =
      (new-key row done below, (ap not held, (lt-leb limits.rows (length done) few, tt))) in
      let grown : set (with_rows done) n.0 (grown_by row here) ≡ with_rows (done ++ row ∷ []) =
      set-set others n.0 here (grown_by row here) ∙ ap with_rows (put-last row done below) in
      rw there (checks-pass (with_rows done) (insert_checks limits (with_rows done) here row) _ pass ∙ ap (λ d. record { database = d; outcome = Changed 1 }) grown)

  pub loaded-all : (done rows : List Row) (k : ℕ) → AreRising (done ++ rows) → length (done ++ rows) ≤ limits.rows → All (IsRowOf tables columns) rows
      → loaded limits (with_rows done) n k rows ≡ Ok (with_rows (done ++ rows))
  loaded-all done [] k rise few fit = ap (λ rows. Ok (with_rows rows)) (sym (append-nil done))
  loaded-all done (row ∷ rows) k rise few fit =
      let room : length done < limits.rows = omega (arith, length-append done (row ∷ rows)) in
      let one = insert-last done row (AllPairs-behind (λ r s. key_cmp r s ≡ Less) done row rows rise) room (All-head (IsRowOf tables columns) row rows fit) in
      let whole = append_assoc done (row ∷ []) rows in
      let rest = loaded-all (done ++ row ∷ []) rows (k + 1) (rw whole rise) (rw whole few) (All-tail (IsRowOf tables columns) row rows fit) in
      rw one (rest ∙ ap (λ rs. Ok (with_rows rs)) whole)
