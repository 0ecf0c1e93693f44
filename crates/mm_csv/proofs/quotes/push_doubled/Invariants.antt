use Rattle.std.proofs.Common.{take}
use Rattle.std.specs.Io.KnownBytes.{Appends}
use Rattle.std.specs.List.{flat_map}
use Rattle.plain_tables.specs.Csv.{doubled}
use Rattle.mm_csv.proofs.quotes.push_doubled.Given as goal

abbrev pub invariant-loop-byte : goal.invariant-loop-byte
invariant-loop-byte g l = Appends (g.W.ByteSink.contents l.fn.to) (g.W.ByteSink.contents l.to) (flat_map doubled (take l.byte-index l.field))
