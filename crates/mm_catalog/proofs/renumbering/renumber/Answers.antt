use Rattle.std.proofs.Common.{◌≡◌, ◌<◌, length, ap, arith}
use Rattle.plain_tables.specs.declared.schema.Schema.{Schema}
use Rattle.mm_catalog.specs.Dropped.{moved_by}
use Rattle.mm_catalog.proofs.ColumnsMoved.{renumbered_next}
use Rattle.mm_catalog.proofs.renumbering.renumber.Goals as goal

pub loop-column-preserved : goal.loop-column-preserved
loop-column-preserved c =
    let columns : length c.schema.result.now.columns ≡ length c.args.relation.now.schema.columns = ap (λ (s : Schema). length s.columns) c.schema.ensures in
    let within : c.loop-column.column < length c.args.relation.now.targets = omega (arith, c.loop-column-test.true, c.len-column-end.ensures, columns, c.requires.wide) in
    renumbered_next (moved_by c.args.renumbering) c.args.relation.now c.loop-column.column c.loop-column.relation c.renumber_column.new.relation c.loop-column.invariant within c.renumber_column.ensures
