use Rattle.std.proofs.Common.{◌≡◌, take}
use Rattle.plain_tables.specs.Csv as csv_text
use Rattle.mm_csv.proofs.plain.has_special.Given as goal

abbrev pub invariant-loop-byte : goal.invariant-loop-byte
invariant-loop-byte l = l.must ≡ csv_text.needs_quotes (take l.byte-index l.field)
