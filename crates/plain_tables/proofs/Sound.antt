-- Each resolved command keeps a database sound.
use Rattle.std.proofs.Common.{◌≡◌, ◌≢◌, ℕ, suc, ◌<◌, ◌≤◌, Bool, true, false, not, cond, length, take, set, map, get_or, arith, List, [], ◌∷◌, ◌++◌, inl, inr, refl, sym, ap, ◌∙◌, subst, Some, ◌⊎◌}
use Rattle.std.specs.Prelude.{◌||◌}
use Rattle.std.specs.List.{All, filter, list_any, flat_map, slice_get, remove}
use Rattle.std.specs.Option.{is_some, option_and_then}
use Rattle.std.specs.Str.{bytes_eq}
use Rattle.std.specs.Ordering.{is_eq, is_lt}
use Rattle.std.specs.declared.cmp.Ordering.TheVariants.{Less}
use Rattle.std.proofs.lemmas.Bool.{cases_Bool, or_left, or_right, not-false, not_from_false, both_ways, leb-false, cond_both, eq-eqb}
use Rattle.std.proofs.lemmas.List.{length-map, length-set, length-append, length-take, length-drop, length_push}
use Rattle.std.proofs.lemmas.List.Elements.{All-nil, All-cons, All-head, All-tail, All-push, All-set, All-map, All-filter, All-weaker}
use Rattle.std.proofs.lemmas.List.Filters.{length-filter_both}
use Rattle.std.proofs.lemmas.List.Folds.{list_any-append, list_any_none}
use Rattle.std.proofs.lemmas.List.Kept.{AllPairs-filter}
use Rattle.std.proofs.lemmas.List.Quantifiers.{all_pairs_push, all_pairs_remove}
use Rattle.std.proofs.lemmas.Option.{slice_get_within, get_or_from_slice_get, same_Some}
use Rattle.plain_tables.proofs.FirstWords.{different}
use Rattle.plain_tables.specs.Tables.{Table, Row, AreRising, key_cmp, has_key_of, with_row}
use Rattle.plain_tables.specs.Databases.{Database, is_named, table_named}
use Rattle.plain_tables.specs.Effects.{new_table, grown_by}
use Rattle.plain_tables.specs.References.{Reference, reference_of, references, table_references, is_held, is_to, is_referenced, is_typed, refers_into, refers_to, is_kind, is_index, CanHold, IsRowOf, IsKeyTree, IsSoundTable, IsSound}
use Rattle.plain_tables.specs.Doing.{passes_all, assigned, assigned_references, insert, load, dump_checks, update_checks, delete_checks, updated, picked, without, with_index, without_index, done}
use Rattle.plain_tables.specs.ResolvedLaws.{OfTable, IsIndexable, IsInsertable, IsAssignable, AreAssignable, DoneKeepsSound, UpdateKeepsSound, DeleteKeepsSound}
use Rattle.plain_tables.specs.declared.value.Value.{Value}
use Rattle.plain_tables.specs.declared.schema.Column.{Column}
use Rattle.plain_tables.specs.declared.schema.IndexKind.{IndexKind}
use Rattle.plain_tables.specs.declared.schema.IndexKind.TheVariants as index
use Rattle.plain_tables.specs.declared.command.Limits.{Limits}
use Rattle.plain_tables.specs.declared.numbers.ColumnNumber.{ColumnNumber}
use Rattle.plain_tables.specs.declared.numbers.TableNumber.{TableNumber}
use Rattle.plain_tables.specs.declared.resolved.Assignment.{Assignment}
use Rattle.plain_tables.specs.declared.resolved.Resolved.TheVariants as resolved
use Rattle.plain_tables.proofs.Effects.{of_table_satisfies, of_table_checked, insert_satisfies, loaded_satisfies, load_satisfies}
use Rattle.plain_tables.proofs.Held.{StaysHeld, KeepsKey, keeps_itself, held_stays, RowsFit, rows_stay, row_held, row_stays, row_set, can_hold, can_still_hold}
use Rattle.common_lemmas.proofs.Pairs.{AllPairs-nil, AllPairs-set_alike}
use Rattle.common_lemmas.proofs.Elements.{All-at, All-remove, All-cons_option, All-from_list_all, AllZip-set}
use Rattle.common_lemmas.proofs.Tests.{any_of_two, fails_where_none, fails_where_not_found}
use Rattle.common_lemmas.proofs.Places.{slice_get_set}
use Rattle.plain_tables.proofs.Referring.{HasShape, has_own_shape, RefersElsewhere, refer_back_alike, refer_back_more, held_with_more, refer_back_removed, all_held_removed}
use Rattle.plain_tables.proofs.Rows.{apart_by_key, with_row-rises, length-with_row, All-with_row, map_rises, key_stays}
use Rattle.plain_tables.proofs.Types.{insertable_alike}

-- ---- commands on a table

-- what holds of the table of a number holds of the one that is found there
of_found : (n : TableNumber) (tables : Database) (P : Table → Type 0) (table : Table) → OfTable n tables P → slice_get tables n.0 ≡ Some table
    → P table
of_found n tables P table (u, there, h) found = subst P (same_Some u table (sym there ∙ found)) h

-- ---- no tables

pub no_tables_are_sound : (limits : Limits) → IsSound limits []
no_tables_are_sound limits = record {
  each = All-nil (IsSoundTable limits);
  rows_fit = All-nil (RowsFit []);
  refer_back = tt;
  apart = AllPairs-nil (λ t u. t.name ≢ u.name);
  few = omega arith;
}

-- ---- a table in the place of another

-- a sound table with other rows or other indexes
with_rows : (limits : Limits) (table : Table) (rows : List Row) → IsSoundTable limits table → AreRising rows → length rows ≤ limits.rows
    → IsSoundTable limits (record table { rows = rows })
with_rows limits table rows sound rise few = record {
  named = sound.named;
  columns_named = sound.columns_named;
  columns_apart = sound.columns_apart;
  few_columns = sound.few_columns;
  keyed = sound.keyed;
  indexes_on_columns = sound.indexes_on_columns;
  indexes_apart = sound.indexes_apart;
  no_key_tree = sound.no_key_tree;
  rows_rise = rise;
  few_rows = few;
}

-- A sound database stays so with a sound table of the same name and columns in the place of one, where all references stay
-- held and the table's rows fit.
changed_sound : (limits : Limits) (tables : Database) (n : ℕ) (old new : Table) → IsSound limits tables → slice_get tables n ≡ Some old
    → HasShape old new → IsSoundTable limits new → All (StaysHeld tables (set tables n new)) (flat_map table_references tables)
    → RowsFit (set tables n new) new → IsSound limits (set tables n new)
changed_sound limits tables n old new sound there shape new_sound stay fit =
    let others : Database = set tables n new in
    record {
      each = All-set (IsSoundTable limits) tables n new new_sound sound.each;
      rows_fit = All-set (RowsFit others) tables n new fit (rows_stay tables others stay sound.rows_fit);
      refer_back = refer_back_alike [] [] tables others tt (AllZip-set HasShape has_own_shape tables n old new there shape) sound.refer_back;
      apart =
          AllPairs-set_alike (λ t. t.name) tables n new (slice_get_within tables n old there)
          (λ d. sym shape.0 ∙ sym (ap (λ t. t.name) (get_or_from_slice_get tables n old d there))) sound.apart;
      few = rw length-set sound.few;
    }

-- each key that the old table has the new one has
abbrev KeepsKeys : Table → Table → Type 0
KeepsKeys old new = (r : Reference) → KeepsKey r old new

all_stay : (tables : Database) (n : ℕ) (old new : Table) → slice_get tables n ≡ Some old → KeepsKeys old new → (r : Reference)
    → StaysHeld tables (set tables n new) r
all_stay tables n old new there keeps r =
    held_stays r tables (set tables n new) (AllZip-set (KeepsKey r) (keeps_itself r) tables n old new there (keeps r))

each_stays : (tables : Database) (n : ℕ) (old new : Table) → slice_get tables n ≡ Some old → KeepsKeys old new → (refs : List Reference)
    → All (StaysHeld tables (set tables n new)) refs
each_stays tables n old new there keeps refs = λ k r l. all_stay tables n old new there keeps (get_or refs k r)

-- the rows of the old table would fit in the new one's place
old_fit : (limits : Limits) (tables : Database) (n : ℕ) (old new : Table) → IsSound limits tables → slice_get tables n ≡ Some old
    → KeepsKeys old new → RowsFit (set tables n new) old
old_fit limits tables n old new sound there keeps =
    All-at (RowsFit (set tables n new)) tables n old
    (rows_stay tables (set tables n new) (each_stays tables n old new there keeps (flat_map table_references tables)) sound.rows_fit) there

-- where keys are kept
kept_sound : (limits : Limits) (tables : Database) (n : ℕ) (old new : Table) → IsSound limits tables → slice_get tables n ≡ Some old
    → HasShape old new → IsSoundTable limits new → KeepsKeys old new → RowsFit (set tables n new) new → IsSound limits (set tables n new)
kept_sound limits tables n old new sound there shape new_sound keeps fit =
    changed_sound limits tables n old new sound there shape new_sound (each_stays tables n old new there keeps (flat_map table_references tables)) fit

-- ---- a table more

table_keeps : (limits : Limits) (tables : Database) (table : Table) → IsSound limits tables → IsSoundTable limits table
    → All (λ c. refers_into tables c ≡ true) table.columns → is_some (table_named table.name tables) ≡ false → length tables < 64
    → table.rows ≡ [] → IsSound limits (tables ++ table ∷ [])
table_keeps limits tables table sound new refer absent few none =
    let others = fails_where_not_found (is_named table.name) tables absent in
    let grown : Database = tables ++ table ∷ [] in
    record {
      each = All-push (IsSoundTable limits) tables table sound.each new;
      rows_fit =
          All-push (RowsFit grown) tables table (rows_stay tables grown (λ k r l. held_with_more (get_or (flat_map table_references tables) k r) tables table) sound.rows_fit)
          (subst (λ rows. All (IsRowOf grown table.columns) rows) (sym none) (All-nil (IsRowOf grown table.columns)));
      refer_back = refer_back_more [] tables table sound.refer_back refer;
      apart =
          all_pairs_push (λ t u. t.name ≢ u.name) tables table sound.apart
          (λ k d l. different (get_or tables k d).name table.name (others k d l));
      few = rw length_push (omega arith);
    }

-- ---- a table less

drop_keeps : (limits : Limits) (tables : Database) (n : ℕ) (gone : Table) → IsSound limits tables → slice_get tables n ≡ Some gone
    → All (RefersElsewhere gone.name) tables → IsSound limits (remove tables n)
drop_keeps limits tables n gone sound there other =
    let left : Database = remove tables n in
    record {
      each = All-remove (IsSoundTable limits) tables n sound.each;
      rows_fit = All-remove (RowsFit left) tables n (rows_stay tables left (all_held_removed tables n gone there other) sound.rows_fit);
      refer_back = refer_back_removed [] tables n gone there other sound.refer_back;
      apart = all_pairs_remove (λ t u. t.name ≢ u.name) tables n (slice_get_within tables n gone there) sound.apart;
      few =
          let few = sound.few in
          let front = length-take n tables in
          let rest = length-drop (suc n) tables in
          let within = slice_get_within tables n gone there in
          rw length-append (omega arith);
    }

-- ---- declared indexes

is_own_kind : (k : IndexKind) → is_kind k k ≡ true
is_own_kind index.Tree = refl
is_own_kind index.Hash = refl

-- an index that isn't this declaration
other_index : (column : ColumnNumber) (k : IndexKind) (i : ℕ × IndexKind) → is_index column k i ≡ false → i ≢ (column.0, k)
other_index column k i other same =
    let here : is_index column k (column.0, k) ≡ true = rw (eq-eqb column.0 column.0 refl, is_own_kind k) refl in
    both_ways (is_index column k i) other (rw same here)

indexed_sound : (limits : Limits) (table : Table) (column : ColumnNumber) (k : IndexKind) → IsSoundTable limits table
    → IsIndexable column k table → IsSoundTable limits (with_index column k table)
indexed_sound limits table column k sound can =
    let others = fails_where_none (is_index column k) table.indexes can.undeclared in
    record {
      named = sound.named;
      columns_named = sound.columns_named;
      columns_apart = sound.columns_apart;
      few_columns = sound.few_columns;
      keyed = sound.keyed;
      indexes_on_columns = All-push (λ i. i.0 < length table.columns) table.indexes (column.0, k) sound.indexes_on_columns can.on_column;
      indexes_apart =
          all_pairs_push (λ i j. i ≢ j) table.indexes (column.0, k) sound.indexes_apart
          (λ at d l. other_index column k (get_or table.indexes at d) (others at d l));
      no_key_tree = All-push (λ i. ¬ (IsKeyTree i)) table.indexes (column.0, k) sound.no_key_tree can.no_key_tree;
      rows_rise = sound.rows_rise;
      few_rows = sound.few_rows;
    }

unindexed_sound : (limits : Limits) (table : Table) (column : ColumnNumber) (k : IndexKind) → IsSoundTable limits table
    → IsSoundTable limits (without_index column k table)
unindexed_sound limits table column k sound =
    let stays : ℕ × IndexKind → Bool = λ i. not (is_index column k i) in
    record {
      named = sound.named;
      columns_named = sound.columns_named;
      columns_apart = sound.columns_apart;
      few_columns = sound.few_columns;
      keyed = sound.keyed;
      indexes_on_columns = All-filter stays (λ i. i.0 < length table.columns) table.indexes sound.indexes_on_columns;
      indexes_apart = AllPairs-filter (λ i j. i ≢ j) stays table.indexes sound.indexes_apart;
      no_key_tree = All-filter stays (λ i. ¬ (IsKeyTree i)) table.indexes sound.no_key_tree;
      rows_rise = sound.rows_rise;
      few_rows = sound.few_rows;
    }

-- the same rows under other indexes
same_rows : (limits : Limits) (tables : Database) (n : ℕ) (old new : Table) → IsSound limits tables → slice_get tables n ≡ Some old
    → HasShape old new → new.rows ≡ old.rows → IsSoundTable limits new → IsSound limits (set tables n new)
same_rows limits tables n old new sound there shape same new_sound =
    let keeps : KeepsKeys old new = λ r. (shape.0, λ named held. rw same held) in
    kept_sound limits tables n old new sound there shape new_sound keeps
    (subst (λ columns. All (IsRowOf (set tables n new) columns) new.rows) shape.1
    (subst (All (IsRowOf (set tables n new) old.columns)) (sym same) (old_fit limits tables n old new sound there keeps)))

-- ---- a row more

-- a row of a new key keeps each key
pub with_row-keeps : (row : Row) (rows : List Row) (p : Row → Bool) → has_key_of row rows ≡ false → list_any p rows ≡ true
    → list_any p (with_row row rows) ≡ true
with_row-keeps row rows p new some =
    let below : Row → Bool = λ r. is_lt (key_cmp r row) in
    let above : Row → Bool = λ r. is_lt (key_cmp row r) in
    let others = fails_where_none (λ r. is_eq (key_cmp r row)) rows new in
    let each = All-weaker (λ r. is_eq (key_cmp r row) ≡ false) (λ r. (below r ≡ true) ⊎ (above r ≡ true))
    (λ r other. apart_by_key (key_cmp r row) r row refl other) rows others
    in
    let either : (list_any p (filter below rows) || list_any p (row ∷ filter above rows)) ≡ true =
    elim (any_of_two p below above rows each some) [
      | inl left ↦ or_left (list_any p (filter below rows)) (list_any p (row ∷ filter above rows)) left
      | inr right ↦
          or_right (list_any p (filter below rows)) (list_any p (row ∷ filter above rows))
          (or_right (p row) (list_any p (filter above rows)) right)
    ]
    in
    list_any-append p (filter below rows) (row ∷ filter above rows) ∙ either

insert_keeps : (limits : Limits) (tables : Database) (n : TableNumber) (row : Row) → IsSound limits tables
    → OfTable n tables (IsInsertable tables row) → IsSound limits (done limits tables (resolved.Insert n row)).database
insert_keeps limits tables n row sound of =
    insert_satisfies (λ e. IsSound limits e.database) limits tables n row (λ r. sound) (λ table there passed.
    let can : IsInsertable tables row table = of_found n tables (IsInsertable tables row) table of there in
    let table_sound : IsSoundTable limits table = All-at (IsSoundTable limits) tables n.0 table sound.each there in
    let new : Table = grown_by row table in
    let keeps : KeepsKeys table new = λ r.
    (refl, λ named held. with_row-keeps row table.rows (λ s. is_eq (key_cmp s (r.1 ∷ []))) passed.0 held) in
    let held = All-from_list_all (is_held tables) (references table.columns row) (not-false _ passed.1.0) in
    kept_sound limits tables n.0 table new sound there (refl, refl)
    (with_rows limits table (with_row row table.rows) table_sound (with_row-rises row table.rows table_sound.rows_rise)
    (let more = length-with_row row table.rows in let room = leb-false limits.rows (length table.rows) passed.1.1.0 in omega arith))
    keeps
    (All-with_row (IsRowOf (set tables n.0 new) table.columns) row table.rows
    (row_stays tables (set tables n.0 new) table.columns row (each_stays tables n.0 table new there keeps (references table.columns row))
    (row_held tables table.columns row can.counted can.typed can.storable held))
    (old_fit limits tables n.0 table new sound there keeps)))

-- rows that can be inserted into the table of a number
abbrev pub CanTake : TableNumber → List Row → Database → Type 0
CanTake n rows tables = OfTable n tables (λ table. All (λ row. IsInsertable tables row table) rows)

-- rows that come after another can be inserted behind it
pub can_take_on : (limits : Limits) (tables : Database) (n : TableNumber) (row : Row) (rows : List Row) → CanTake n (row ∷ rows) tables
    → CanTake n rows (insert limits tables n row).database
can_take_on limits tables n row rows (old, at, can) =
    let later : All (λ r. IsInsertable tables r old) rows = All-tail (λ r. IsInsertable tables r old) row rows can in
    insert_satisfies (λ e. CanTake n rows e.database) limits tables n row (λ why. (old, at, later))
    (λ table there passed.
    let new : Table = grown_by row table in
    let same : old ≡ table = same_Some old table (sym at ∙ there) in (
      new,
      slice_get_set tables n.0 new (slice_get_within tables n.0 table there),
      All-weaker (λ r. IsInsertable tables r old) (λ r. IsInsertable (set tables n.0 new) r new)
          (λ r. insertable_alike tables (set tables n.0 new) r old new
          (AllZip-set HasShape has_own_shape tables n.0 table new there (refl, refl))
          (ap (λ t. t.columns) same)) rows later,
    ))

load_keeps : (limits : Limits) (tables : Database) (n : TableNumber) (rows : List Row) → IsSound limits tables
    → CanTake n rows tables
    → IsSound limits (load limits tables n rows).database
load_keeps limits tables n rows sound can =
    load_satisfies (λ e. IsSound limits e.database) limits tables n rows (λ why. sound)
    (λ new all. (loaded_satisfies (λ left d. IsSound limits d × CanTake n left d) limits n
    (λ row left d (fine, takes). (
      insert_keeps limits d n row fine (takes.0, takes.1, All-head (λ r. IsInsertable d r takes.0) row left takes.2),
      can_take_on limits d n row left takes,
    )) tables 1 rows new all (sound, can)).0)

-- ---- other values in rows

-- rows that keep their keys are the same to every test of keys
same_keys : (f : Row → Row) (rows : List Row) (v : Value) → ((row : Row) → take 1 (f row) ≡ take 1 row)
    → has_key_of (v ∷ []) (map f rows) ≡ has_key_of (v ∷ []) rows
same_keys f [] v same = refl
same_keys f (row ∷ rows) v same = rw (same row, same_keys f rows v same) refl

-- what an assignment puts into a column is a value that the column can hold
abbrev CanAssign : Database → Table → Assignment → Type 0
CanAssign tables table a = (0 < a.column.0) × ((c : Column) → slice_get table.columns a.column.0 ≡ Some c → CanHold tables c.kind a.value)

assigned_held : (tables : Database) (table : Table) (assignments : List Assignment) → All (IsAssignable tables table) assignments
    → All (λ r. is_held tables r ≡ true) (assigned_references table assignments) → All (CanAssign tables table) assignments
assigned_held tables table [] can held = All-nil (CanAssign tables table)
assigned_held tables table (a ∷ assignments) can held =
    let found = option_and_then (λ c. reference_of c a.value) (slice_get table.columns a.column.0) in
    let parts = All-cons_option (λ r. is_held tables r ≡ true) found (assigned_references table assignments) held in
    let one : IsAssignable tables table a = All-head (IsAssignable tables table) a assignments can in
    All-cons (CanAssign tables table) a assignments (
      one.behind_key,
      λ c there.
          let same : one.of_column.0 ≡ c = same_Some one.of_column.0 c (sym one.of_column.1 ∙ there) in
          can_hold tables c a.value (subst (λ d. is_typed tables a.value d.kind ≡ true) same one.of_column.2) one.storable
          (λ r e. parts.0 r (ap (option_and_then (λ d. reference_of d a.value)) there ∙ e)),
    )
    (assigned_held tables table assignments (All-tail (IsAssignable tables table) a assignments can) parts.1)

-- what such assignments keep of a row
assigned_satisfies : (P : Row → Type 0) (tables : Database) (table : Table) (assignments : List Assignment) (row : Row)
    → All (CanAssign tables table) assignments
    → ((old : Row) (a : Assignment) → CanAssign tables table a → P old → P (set old a.column.0 a.value)) → P row → P (assigned assignments row)
assigned_satisfies P tables table [] row can step h = h
assigned_satisfies P tables table (a ∷ assignments) row can step h =
    assigned_satisfies P tables table assignments (set row a.column.0 a.value) (All-tail (CanAssign tables table) a assignments can) step
    (step row a (All-head (CanAssign tables table) a assignments can) h)

assigned_key : (tables : Database) (table : Table) (assignments : List Assignment) (row : Row) → All (CanAssign tables table) assignments
    → take 1 (assigned assignments row) ≡ take 1 row
assigned_key tables table assignments row can =
    assigned_satisfies (λ r. take 1 r ≡ take 1 row) tables table assignments row can
    (λ old a one h. key_stays old a.column.0 a.value one.0 ∙ h) refl

pub update_keeps_sound : UpdateKeepsSound
update_keeps_sound limits tables n assignments picks sound of =
    of_table_checked (λ e. IsSound limits e.database) n tables (λ table. update_checks tables table assignments) _ (λ r. sound)
    (λ table there passed.
    let can = assigned_held tables table assignments
    (of_found n tables (AreAssignable tables assignments) table of there).each
    (All-from_list_all (is_held tables) (assigned_references table assignments) (not-false _ passed.0)) in
    let table_sound : IsSoundTable limits table = All-at (IsSoundTable limits) tables n.0 table sound.each there in
    let f : Row → Row = λ row. cond (picks row) (assigned assignments row) row in
    let new : Table = updated assignments picks table in
    let others : Database = set tables n.0 new in
    let key : (row : Row) → take 1 (f row) ≡ take 1 row = λ row.
    cond_both (picks row) (assigned assignments row) row (λ r. take 1 r ≡ take 1 row)
    (λ t. assigned_key tables table assignments row can) (λ t. refl) in
    let keeps : KeepsKeys table new = λ r. (refl, λ named held. same_keys f table.rows r.1 key ∙ held) in
    let stay : (r : Reference) → StaysHeld tables others r = all_stay tables n.0 table new there keeps in
    kept_sound limits tables n.0 table new sound there (refl, refl)
    (with_rows limits table (map f table.rows) table_sound (map_rises f table.rows key table_sound.rows_rise) (rw length-map table_sound.few_rows))
    keeps
    (All-map (IsRowOf others table.columns) f table.rows
    (All-weaker (IsRowOf others table.columns) (λ row. IsRowOf others table.columns (f row))
    (λ row fits. cond_both (picks row) (assigned assignments row) row (IsRowOf others table.columns)
    (λ t. assigned_satisfies (IsRowOf others table.columns) tables table assignments row can
    (λ old a one h. row_set others table.columns old a.column.0 a.value
    (λ c at. can_still_hold tables others c.kind a.value stay (one.1 c at)) h) fits)
    (λ t. fits)) table.rows (old_fit limits tables n.0 table new sound there keeps))))

-- ---- rows taken out

-- a key that no row taken out has is still there
still_there : (picks p : Row → Bool) (rows : List Row) → All (λ row. p row ≡ false) (filter picks rows) → list_any p rows ≡ true
    → list_any p (filter (λ row. not (picks row)) rows) ≡ true
still_there picks p rows none some =
    let stays : Row → Bool = λ row. not (picks row) in
    let each : All (λ row. (picks row ≡ true) ⊎ (stays row ≡ true)) rows = λ k d l.
    elim (cases_Bool (picks (get_or rows k d))) [ inl t ↦ inl t | inr f ↦ inr (not_from_false _ f) ] in
    elim (any_of_two p picks stays rows each some) [
      | inl taken ↦ absurd (both_ways (list_any p (filter picks rows)) (list_any_none p (filter picks rows) none) taken)
      | inr left ↦ left
    ]

-- a row that a reference with its table's name doesn't name has another key
other_key : (name : List ℕ) (row : Row) (r : Reference) → bytes_eq name r.0 ≡ true → is_to name row r ≡ false
    → is_eq (key_cmp row (r.1 ∷ [])) ≡ false
other_key name row r named other = rw named at other

pub delete_keeps_sound : DeleteKeepsSound
delete_keeps_sound limits tables n picks sound =
    of_table_checked (λ e. IsSound limits e.database) n tables (λ table. delete_checks tables table picks) _ (λ r. sound)
    (λ table there passed.
    let table_sound : IsSoundTable limits table = All-at (IsSoundTable limits) tables n.0 table sound.each there in
    let new : Table = without picks table in
    let others : Database = set tables n.0 new in
    let refs : List Reference = flat_map table_references tables in
    let unnamed = fails_where_none (is_referenced tables table.name) (picked picks table) passed.0 in
    let stay : All (StaysHeld tables others) refs = λ k r l.
    let made : Reference = get_or refs k r in
    held_stays made tables others (AllZip-set (KeepsKey made) (keeps_itself made) tables n.0 table new there (
      refl,
      λ named held. still_there picks (λ row. is_eq (key_cmp row (made.1 ∷ []))) table.rows
          (λ i d m.
          let row : Row = get_or (picked picks table) i d in
          other_key table.name row made named (fails_where_none (is_to table.name row) refs (unnamed i d m) k r l)) held,
    )) in
    changed_sound limits tables n.0 table new sound there (refl, refl)
    (with_rows limits table (filter (λ row. not (picks row)) table.rows) table_sound
    (AllPairs-filter (λ r s. key_cmp r s ≡ Less) (λ row. not (picks row)) table.rows table_sound.rows_rise)
    (let both = length-filter_both picks (λ row. not (picks row)) (λ row. refl) table.rows in let few = table_sound.few_rows in omega arith))
    stay
    (All-filter (λ row. not (picks row)) (IsRowOf others table.columns) table.rows
    (All-at (RowsFit others) tables n.0 table (rows_stay tables others stay sound.rows_fit) there)))

-- ---- every command

pub done_keeps_sound : DoneKeepsSound
done_keeps_sound limits tables (resolved.Table name schema) sound meant =
    table_keeps limits tables (new_table name schema) sound meant.sound meant.refers_back meant.is_new meant.has_room refl
done_keeps_sound limits tables (resolved.DropTable n) sound (table, there, other) =
    drop_keeps limits tables n.0 table sound there (fails_where_none (λ t. list_any (refers_to table.name) t.columns) tables other)
done_keeps_sound limits tables (resolved.Index n column k) sound meant =
    of_table_satisfies (λ e. IsSound limits e.database) n tables _ (λ r. sound)
    (λ table there. same_rows limits tables n.0 table (with_index column k table) sound there (refl, refl) refl
    (indexed_sound limits table column k (All-at (IsSoundTable limits) tables n.0 table sound.each there)
    (of_found n tables (IsIndexable column k) table meant there)))
done_keeps_sound limits tables (resolved.DropIndex n column k) sound meant =
    of_table_satisfies (λ e. IsSound limits e.database) n tables _ (λ r. sound)
    (λ table there. same_rows limits tables n.0 table (without_index column k table) sound there (refl, refl) refl
    (unindexed_sound limits table column k (All-at (IsSoundTable limits) tables n.0 table sound.each there)))
done_keeps_sound limits tables (resolved.Insert n row) sound meant = insert_keeps limits tables n row sound meant
done_keeps_sound limits tables (resolved.Update n assignments tests) sound (table, there, (can, right)) =
    update_keeps_sound limits tables n assignments (passes_all tests) sound (table, there, can)
done_keeps_sound limits tables (resolved.Delete n tests) sound meant = delete_keeps_sound limits tables n (passes_all tests) sound
done_keeps_sound limits tables (resolved.Select query) sound meant = sound
done_keeps_sound limits tables (resolved.Load n rows) sound meant = load_keeps limits tables n rows sound meant
done_keeps_sound limits tables (resolved.Dump n) sound meant =
    of_table_checked (λ e. IsSound limits e.database) n tables (dump_checks limits) _ (λ r. sound) (λ table there passed. sound)
done_keeps_sound limits tables resolved.Tables sound meant = sound
