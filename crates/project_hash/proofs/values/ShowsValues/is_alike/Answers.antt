use Rattle.project_hash.proofs.Comparing.{same_more}
use Rattle.project_hash.proofs.values.ShowsValues.is_alike.Goals as goal

pub loop-column-preserved : goal.loop-column-preserved
loop-column-preserved g c =
    same_more (g.Self.ShowsValues.values c.args.self.now) (g.Self.ShowsValues.values c.args.other.now) c.loop-column.column c.value.result.now c.value-in-loop-column.result.now c.value.ensures
    c.value-in-loop-column.ensures c.loop-column.invariant (c.are_equal.ensures.0 c.if-not-are_equal.false)
