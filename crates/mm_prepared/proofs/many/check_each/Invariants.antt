use Rattle.std.proofs.Common.{◌≡◌, drop, take}
use Rattle.std.specs.List.{All}
use Rattle.plain_tables.specs.ResolvedLaws.{HasWidth}
use Rattle.mm_prepared.specs.Many.{first_unfit}
use Rattle.mm_prepared.proofs.many.check_each.Given as goal

abbrev pub invariant-loop-row : goal.invariant-loop-row
invariant-loop-row l = record {
  unfit : first_unfit l.resolution l.rows ≡ first_unfit l.resolution (drop l.row-index l.rows);
  widths : All (All HasWidth) (take l.row-index l.rows);
}
