use Rattle.std.proofs.Common.{◌≡◌, Some, take}
use Rattle.csv.specs.Records.{fields_of}
use Rattle.plain_tables.specs.CsvReading.{all_of}
use Rattle.mm_csv.specs.BlockReading.{columns_of}
use Rattle.mm_csv.proofs.Reading.{cells}
use Rattle.mm_csv.proofs.values.read_row.Given as goal

-- the values so far
abbrev pub invariant-loop-i : goal.invariant-loop-i
invariant-loop-i l = all_of (take l.i (cells (columns_of l.layout) (fields_of l.fields))) ≡ Some l.row.items
