use Rattle.mm_catalog.specs.Dropped.{moved_by}
use Rattle.mm_catalog.proofs.ColumnsMoved.{no_column}
use Rattle.mm_catalog.proofs.renumbering.renumber_column.Goals as goal

pub returns-in_default : goal.returns-in_default
returns-in_default c = no_column (moved_by c.args.renumbering) c.args.column.0 c.args.relation.now c.in_default.ensures
