use Rattle.std.proofs.Common.{◌≡◌, false, take}
use Rattle.plain_tables.specs.Csv.{needs_quotes}
use Rattle.mm_csv.proofs.front.plain_length.Given as goal

abbrev pub invariant-loop-place : goal.invariant-loop-place
invariant-loop-place l = needs_quotes (take l.place l.text) ≡ false
