use Rattle.std.proofs.Common.{◌-◌, length}
use Rattle.mm_catalog.proofs.create.+count_targets.Given as goal

abbrev pub decreases-count_targets : goal.decreases-count_targets
decreases-count_targets l = length l.relation.now.schema.columns - l.column.0
