use Rattle.std.proofs.Common.{length}
use Rattle.mm_catalog.proofs.taking_back.+forget_each.Given as goal

abbrev pub decreases-forget_each : goal.decreases-forget_each
decreases-forget_each l = length l.tables.now
