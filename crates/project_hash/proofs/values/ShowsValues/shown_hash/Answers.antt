use Rattle.project_hash.proofs.Comparing.{hashed_more}
use Rattle.project_hash.proofs.values.ShowsValues.shown_hash.Goals as goal

pub loop-column-preserved : goal.loop-column-preserved
loop-column-preserved g c =
    hashed_more (g.Self.ShowsValues.values c.args.self.now) c.loop-column.column c.loop-column.hash c.with_value-hash.result c.value.result.now c.value.ensures c.loop-column.invariant c.with_value-hash.ensures
