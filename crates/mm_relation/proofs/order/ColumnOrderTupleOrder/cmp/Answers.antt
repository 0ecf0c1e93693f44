use Rattle.std.proofs.Common.{◌≡◌, ◌∙◌, sym, ap, rules}
use Rattle.mm_relation.specs.Order.{column_cmp}
use Rattle.mm_relation.proofs.order.ColumnOrderTupleOrder.cmp.Goals as goal

pub returns-then-eq : goal.returns-then-eq
returns-then-eq g c =
    let same : c.args.b ≡ c.args.self.now.known = search rules in
    c.to_known.ensures ∙ sym (ap (column_cmp (g.R.LinkedKeys.keys c.args.self.now.others.now) c.args.self.now.column.0 c.args.self.now.rows.now.tuples c.args.a) same)
