use Rattle.std.proofs.Common.{[], Some, take}
use Rattle.std.specs.Io.KnownBytes.{Appends}
use Rattle.plain_tables.specs.Csv.{block_text}
use Rattle.mm_csv.proofs.block.block_of.Given as goal

abbrev pub invariant-loop-row : goal.invariant-loop-row
invariant-loop-row l = Appends (Some []) l.records.bytes (block_text l.names (take l.row-index l.rows))
