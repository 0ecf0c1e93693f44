use Rattle.std.proofs.Common.{length, take}
use Rattle.std.specs.Prelude.{◌==◌}
use Rattle.std.specs.Io.KnownBytes.{Appends}
use Rattle.mm_csv.specs.Records.{shown_fields}
use Rattle.mm_csv.proofs.fields.write_names.Given as goal

abbrev pub invariant-loop-place : goal.invariant-loop-place
invariant-loop-place g l = Appends l.fn.output l.output (shown_fields (length l.names == 1) (take l.place l.names))
