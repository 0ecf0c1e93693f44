-- References that are held, and rows that columns can hold: that both stay where a database changes.
use Rattle.std.proofs.Common.{◌≡◌, ℕ, zero, suc, true, false, length, set, get_or, arith, List, [], ◌∷◌, inl, inr, refl, subst, Some}
use Rattle.std.specs.Prelude.{not}
use Rattle.std.specs.List.{All, AllZip, flat_map, slice_get}
use Rattle.std.proofs.lemmas.Bool.{cases_Bool, or_parts, not-false, false≢true}
use Rattle.std.proofs.lemmas.List.Elements.{All-nil, All-head, All-tail}
use Rattle.std.proofs.lemmas.Option.{none-some, same_Some}
use Rattle.std.specs.Str.{bytes_eq}
use Rattle.plain_tables.specs.Tables.{Table, Row, has_key_of}
use Rattle.plain_tables.specs.Databases.{Database, is_named}
use Rattle.plain_tables.specs.References.{Reference, reference_of, references, table_references, is_held, is_typed, CanHold, IsRowOf}
use Rattle.plain_tables.specs.Resolving.{has_mistyped}
use Rattle.plain_tables.specs.ResolvedLaws.{IsStorable}
use Rattle.plain_tables.specs.declared.value.Value.{Value}
use Rattle.plain_tables.specs.declared.value.Value.TheVariants as value
use Rattle.plain_tables.specs.declared.schema.ColKind.{ColKind}
use Rattle.plain_tables.specs.declared.schema.ColKind.TheVariants as kind
use Rattle.plain_tables.specs.declared.schema.Column.{Column}
use Rattle.common_lemmas.proofs.Elements.{All-cons_option, All-from_flat_map, one_more}

-- ---- references of a column

abbrev of_kind : ColKind → Column
of_kind k = record { name = []; kind = k }

-- what the value names there is held
abbrev pub IsHeldOf : Database → Column → Value → Type 0
IsHeldOf tables column v = (r : Reference) → reference_of column v ≡ Some r → is_held tables r ≡ true

-- a value of a column's type that is stored whole, and names a row that is there if it names one
typed_held : (tables : Database) (k : ColKind) (v : Value) → is_typed tables v k ≡ true → IsStorable v → IsHeldOf tables (of_kind k) v
    → CanHold tables k v
typed_held tables k value.Null typed storable held = typed
typed_held tables kind.Int (value.Int z) typed storable held = storable
typed_held tables kind.Text (value.Text text) typed storable held = storable
typed_held tables (kind.Ref name) v typed storable held = held (name, v) refl
typed_held tables (kind.RefOrNull name) v typed storable held = held (name, v) refl
typed_held tables k v typed storable held = absurd (false≢true typed)

pub can_hold : (tables : Database) (column : Column) (v : Value) → is_typed tables v column.kind ≡ true → IsStorable v
    → IsHeldOf tables column v → CanHold tables column.kind v
can_hold tables column v typed storable held = typed_held tables column.kind v typed storable held

-- a reference that is held in a database is held in another
abbrev pub StaysHeld : Database → Database → Reference → Type 0
StaysHeld tables others r = is_held tables r ≡ true → is_held others r ≡ true

stays_of_kind : (tables others : Database) (k : ColKind) (v : Value)
    → ((r : Reference) → reference_of (of_kind k) v ≡ Some r → StaysHeld tables others r) → CanHold tables k v → CanHold others k v
stays_of_kind tables others k value.Null stays h = h
stays_of_kind tables others (kind.Ref name) v stays h = stays (name, v) refl h
stays_of_kind tables others (kind.RefOrNull name) v stays h = stays (name, v) refl h
stays_of_kind tables others k v stays h = h

pub can_still_hold : (tables others : Database) (k : ColKind) (v : Value) → ((r : Reference) → StaysHeld tables others r) → CanHold tables k v
    → CanHold others k v
can_still_hold tables others k v stays h = stays_of_kind tables others k v (λ r e. stays r) h

-- ---- references of a row

-- as many values as columns, of their types, with references that are held
pub row_held : (tables : Database) (columns : List Column) (row : Row) → length row ≡ length columns
    → has_mistyped tables columns row ≡ false → All IsStorable row → All (λ r. is_held tables r ≡ true) (references columns row)
    → IsRowOf tables columns row
row_held tables [] [] same typed storable held = tt
row_held tables [] (v ∷ row) same typed storable held = absurd (omega arith)
row_held tables (c ∷ columns) [] same typed storable held = absurd (omega arith)
row_held tables (c ∷ columns) (v ∷ row) same typed storable held =
    let typed_parts = or_parts (not (is_typed tables v c.kind)) (has_mistyped tables columns row) typed in
    let held_parts = All-cons_option (λ r. is_held tables r ≡ true) (reference_of c v) (references columns row) held in (
      can_hold tables c v (not-false (is_typed tables v c.kind) typed_parts.0) (All-head IsStorable v row storable) held_parts.0,
      row_held tables columns row (omega arith) typed_parts.1 (All-tail IsStorable v row storable) held_parts.1,
    )

holds_of_kind : (tables : Database) (k : ColKind) (v : Value) → CanHold tables k v → IsHeldOf tables (of_kind k) v
holds_of_kind tables k value.Null can r e = absurd (none-some r e)
holds_of_kind tables (kind.Ref name) v can r e = subst (λ m. is_held tables m ≡ true) (same_Some (name, v) r e) can
holds_of_kind tables (kind.RefOrNull name) v can r e = subst (λ m. is_held tables m ≡ true) (same_Some (name, v) r e) can
holds_of_kind tables k v can r e = absurd (none-some r e)

-- what a row refers to is held where its columns can hold it
pub row_holds : (tables : Database) (columns : List Column) (row : Row) → IsRowOf tables columns row
    → All (λ r. is_held tables r ≡ true) (references columns row)
row_holds tables [] row fits = All-nil (λ r. is_held tables r ≡ true)
row_holds tables (c ∷ columns) [] fits = All-nil (λ r. is_held tables r ≡ true)
row_holds tables (c ∷ columns) (v ∷ row) fits =
    one_more (λ r. is_held tables r ≡ true) (reference_of c v) (references columns row) (holds_of_kind tables c.kind v fits.0)
    (row_holds tables columns row fits.1)

-- a row stays one where its references stay held
pub row_stays : (tables others : Database) (columns : List Column) (row : Row) → All (StaysHeld tables others) (references columns row)
    → IsRowOf tables columns row → IsRowOf others columns row
row_stays tables others [] [] stays h = tt
row_stays tables others [] (v ∷ row) stays h = h
row_stays tables others (c ∷ columns) [] stays h = h
row_stays tables others (c ∷ columns) (v ∷ row) stays h =
    let parts = All-cons_option (StaysHeld tables others) (reference_of c v) (references columns row) stays in (
      stays_of_kind tables others c.kind v parts.0 h.0,
      row_stays tables others columns row parts.1 h.1,
    )

-- a value that its column can hold in the place of another
pub row_set : (tables : Database) (columns : List Column) (row : Row) (place : ℕ) (v : Value)
    → ((c : Column) → slice_get columns place ≡ Some c → CanHold tables c.kind v) → IsRowOf tables columns row
    → IsRowOf tables columns (set row place v)
row_set tables [] [] place v h fits = tt
row_set tables [] (x ∷ row) place v h fits = absurd fits
row_set tables (c ∷ columns) [] place v h fits = absurd fits
row_set tables (c ∷ columns) (x ∷ row) zero v h fits = (h c refl, fits.1)
row_set tables (c ∷ columns) (x ∷ row) (suc place) v h fits = (fits.0, row_set tables columns row place v h fits.1)

-- ---- references of a database

-- a table of the same name, which has a row of that key if the first had
abbrev pub KeepsKey : Reference → Table → Table → Type 0
KeepsKey r t u =
    (t.name ≡ u.name) × (bytes_eq t.name r.0 ≡ true → has_key_of (r.1 ∷ []) t.rows ≡ true → has_key_of (r.1 ∷ []) u.rows ≡ true)

pub keeps_itself : (r : Reference) (t : Table) → KeepsKey r t t
keeps_itself r t = (refl, λ named there. there)

-- a reference stays held where each table keeps its key
pub held_stays : (r : Reference) (tables others : Database) → AllZip (KeepsKey r) tables others → StaysHeld tables others r
held_stays r [] [] keep held = held
held_stays r [] (u ∷ others) keep held = absurd keep
held_stays r (t ∷ tables) [] keep held = absurd keep
held_stays r (t ∷ tables) (u ∷ others) keep held =
    elim (cases_Bool (is_named r.0 t)) [
      | inl e ↦
          let same : is_named r.0 u ≡ true = subst (λ n. bytes_eq n r.0 ≡ true) keep.0.0 e in
          rw same (keep.0.1 e (rw e at held))
      | inr f ↦
          let same : is_named r.0 u ≡ false = subst (λ n. bytes_eq n r.0 ≡ false) keep.0.0 f in
          rw same (held_stays r tables others keep.1 (rw f at held))
    ]

-- ---- all rows of a database

-- the rows of each table are rows of its columns, by the keys of these tables
abbrev pub RowsFit : Database → Table → Type 0
RowsFit tables table = All (IsRowOf tables table.columns) table.rows

-- rows stay such where all references of the tables stay held
pub rows_stay : (tables others : Database) → All (StaysHeld tables others) (flat_map table_references tables)
    → All (RowsFit tables) tables → All (RowsFit others) tables
rows_stay tables others stay fit =
    let each = All-from_flat_map (StaysHeld tables others) table_references tables stay in
    λ n t l. λ k row m.
    let table : Table = get_or tables n t in
    row_stays tables others table.columns (get_or table.rows k row)
    (All-from_flat_map (StaysHeld tables others) (references table.columns) table.rows (each n t l) k row m) (fit n t l k row m)
