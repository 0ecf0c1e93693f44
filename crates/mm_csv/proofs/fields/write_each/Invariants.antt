use Rattle.std.proofs.Common.{length, map, take}
use Rattle.std.specs.Prelude.{◌==◌}
use Rattle.std.specs.Io.KnownBytes.{Appends}
use Rattle.plain_tables.specs.Csv.{value_field}
use Rattle.mm_csv.specs.Records.{shown_fields}
use Rattle.mm_csv.proofs.fields.write_each.Given as goal

abbrev pub invariant-loop-place : goal.invariant-loop-place
invariant-loop-place g l = Appends l.fn.output l.output (shown_fields (length l.values == 1) (map value_field (map (λ v. v.now) (take l.place l.values))))
