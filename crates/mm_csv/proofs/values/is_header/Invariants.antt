use Rattle.std.proofs.Common.{◌≡◌, map, take}
use Rattle.csv.specs.Records.{fields_of}
use Rattle.mm_csv.specs.BlockReading.{columns_of}
use Rattle.mm_csv.proofs.values.is_header.Given as goal

-- the names so far
abbrev pub invariant-loop-i : goal.invariant-loop-i
invariant-loop-i l = take l.i (fields_of l.fields) ≡ take l.i (map (λ c. c.name) (columns_of l.layout))
