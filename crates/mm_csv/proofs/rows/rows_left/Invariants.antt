use Rattle.std.proofs.Common.{◌≡◌, ◌++◌, ℕ, List, length}
use Rattle.mm_csv.specs.BlockReading.{IsReading, columns_of, records_left}
use Rattle.mm_csv.specs.FrontRecords.{AreRowsOf}
use Rattle.mm_csv.proofs.rows.rows_left.Given as goal

-- the rows of the records so far, behind those that were read before
abbrev pub invariant-loop-row : goal.invariant-loop-row
invariant-loop-row l =
    IsReading l.reader × (done : List (List (List ℕ)))
    × (records_left l.fn.reader ≡ done ++ records_left l.reader)
    × ((before : List (List (List ℕ))) → AreRowsOf (columns_of l.layout) before l.fn.rows → AreRowsOf (columns_of l.layout) (before ++ done) l.rows)

abbrev pub decreases-loop-row : goal.decreases-loop-row
decreases-loop-row l = length (records_left l.reader)
