use Rattle.std.proofs.Common.{◌≡◌, take, false}
use Rattle.plain_tables.specs.Csv as csv_text
use Rattle.mm_csv.proofs.plain.eight_lie_above_commas.Given as goal

abbrev pub invariant-loop-byte : goal.invariant-loop-byte
invariant-loop-byte l = l.low ≡ false → csv_text.needs_quotes (take l.byte-index l.bytes) ≡ false
