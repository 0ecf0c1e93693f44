use Rattle.std.proofs.Common.{◌≡◌, ◌∙◌, sym, arith, min, length}
use Rattle.std.specs.Ordering.{nat_cmp}
use Rattle.project_hash.proofs.Comparing.{decided_at, undecided_at, compared_at_end}
use Rattle.project_hash.proofs.values.ShowsValues.compare.Goals as goal

pub returns-then-is_ne : goal.returns-then-is_ne
returns-then-is_ne g c =
    decided_at (g.Self.ShowsValues.values c.args.self.now) (g.Self.ShowsValues.values c.args.other.now) c.loop-column.column c.value.result.now c.value-in-loop-column.result.now c.value.ensures
    c.value-in-loop-column.ensures c.loop-column.invariant c.cmp-ordering.result c.cmp-ordering.ensures (sym c.is_ne.ensures ∙ c.if-is_ne.true)

pub loop-column-preserved : goal.loop-column-preserved
loop-column-preserved g c =
    undecided_at (g.Self.ShowsValues.values c.args.self.now) (g.Self.ShowsValues.values c.args.other.now) c.loop-column.column c.value.result.now c.value-in-loop-column.result.now c.value.ensures
    c.value-in-loop-column.ensures c.loop-column.invariant c.cmp-ordering.result c.cmp-ordering.ensures (sym c.is_ne.ensures ∙ c.if-is_ne.false)

pub returns : goal.returns
returns g c =
    let end : c.loop-column.column ≡ min (length (g.Self.ShowsValues.values c.args.self.now)) (length (g.Self.ShowsValues.values c.args.other.now)) = omega arith in
    let widths = compared_at_end (g.Self.ShowsValues.values c.args.self.now) (g.Self.ShowsValues.values c.args.other.now) c.loop-column.column end in
    let lengths : c.cmp.result ≡ nat_cmp (length (g.Self.ShowsValues.values c.args.self.now)) (length (g.Self.ShowsValues.values c.args.other.now)) = cc in
    lengths ∙ sym widths ∙ c.loop-column.invariant
