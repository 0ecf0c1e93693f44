-- What changes are stored as.
use Rattle.std.proofs.Common.{inl, inr}
use Rattle.std.specs.Prelude.{Bool, true, false, ◌≡◌, ◌⊎◌, ℕ, List, Option, Some, None, refl}
use Rattle.std.specs.Coded.{Coded, code_by, coded×, coded⊎, coded_bool, coded_list, coded_option, coded_ℕ}
use Rattle.part_raw.specs.TupleRefs.{ref_code}
use Rattle.part_raw.specs.declared.tuple_ref.TupleRef.{TupleRef}
use Rattle.plain_tables.specs.declared.numbers.ColumnNumber.{ColumnNumber}
use Rattle.mm_relation.specs.Taken.{DroppedState}
use Rattle.mm_relation.specs.declared.numbers.DeclaredIndex.{DeclaredIndex}
use Rattle.mm_relation.specs.declared.row.Cell.{Cell}
use Rattle.mm_catalog.specs.Assigned.{CellSet}
use Rattle.mm_catalog.specs.DroppedTables.{DroppedTableState}
use Rattle.mm_transactions.specs.Undoing.{Change, Came, Went, Updated, TableDeclared, TableDropped, IndexDeclared, IndexDropped}

-- the parts of a change of rows: whether they came, the table, the references, and the cells that were where values were assigned
abbrev pub RowParts : Type 0
RowParts = Bool × (ℕ × (List TupleRef × Option (ℕ × List CellSet)))

-- those of a table: which tables count links since it was declared, or what was dropped; and those of an index, with its table
abbrev pub TableParts : Type 0
TableParts = List ℕ ⊎ DroppedTableState

abbrev pub IndexParts : Type 0
IndexParts = ℕ × (DeclaredIndex ⊎ DroppedState)

abbrev pub Parts : Type 0
Parts = RowParts ⊎ (TableParts ⊎ IndexParts)

abbrev pub as_parts : Change → Parts
as_parts (Came n refs) = inl (true, (n, (refs, None)))
as_parts (Went n refs) = inl (false, (n, (refs, None)))
as_parts (Updated n refs width cells) = inl (false, (n, (refs, Some (width, cells))))
as_parts (TableDeclared gained) = inr (inl (inl gained))
as_parts (TableDropped table) = inr (inl (inr table))
as_parts (IndexDeclared n index) = inr (inr (n, inl index))
as_parts (IndexDropped n index) = inr (inr (n, inr index))

abbrev pub as_change : Parts → Change
as_change (inl (true, (n, (refs, None)))) = Came n refs
as_change (inl (false, (n, (refs, None)))) = Went n refs
as_change (inl (came, (n, (refs, Some (width, cells))))) = Updated n refs width cells
as_change (inr (inl (inl gained))) = TableDeclared gained
as_change (inr (inl (inr table))) = TableDropped table
as_change (inr (inr (n, inl index))) = IndexDeclared n index
as_change (inr (inr (n, inr index))) = IndexDropped n index

pub same_change : (c : Change) → as_change (as_parts c) ≡ c
same_change (Came n refs) = refl
same_change (Went n refs) = refl
same_change (Updated n refs width cells) = refl
same_change (TableDeclared gained) = refl
same_change (TableDropped table) = refl
same_change (IndexDeclared n index) = refl
same_change (IndexDropped n index) = refl

abbrev pub row_parts_code : Coded ColumnNumber → Coded Cell → Coded RowParts
row_parts_code column cell = coded× coded_bool (coded× coded_ℕ (coded× (coded_list ref_code) (coded_option (coded× coded_ℕ (coded_list (coded× column cell))))))

abbrev pub change_code : Coded ColumnNumber → Coded Cell → Coded DroppedTableState → Coded DeclaredIndex → Coded DroppedState → Coded Change
change_code column cell table index dropped =
    code_by Parts (coded⊎ (row_parts_code column cell) (coded⊎ (coded⊎ (coded_list coded_ℕ) table) (coded× coded_ℕ (coded⊎ index dropped)))) as_parts as_change same_change
