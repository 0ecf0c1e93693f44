use Rattle.std.proofs.Common.{◌∙◌, ◌<◌, ◌+◌, IsSome, sym, ap, subst, drop, filter, length, arith}
use Rattle.std.specs.FinMap as finite
use Rattle.std.proofs.lemmas.List.Elements.{All-filter}
use Rattle.plain_tables.specs.declared.resolved.Test.{Test}
use Rattle.temp_list.specs.Reading.{row_passes, unbounded}
use Rattle.temp_list.proofs.Keeping.{skip_bound, keep_unbounded, keep_none_unbounded}
use Rattle.temp_list.proofs.search.keep_passing_unbounded.Goals as goal

pub keep_standing-requires-clause-within : goal.keep_standing-requires-clause-within
keep_standing-requires-clause-within g c =
    subst (λ (t : Test). t.column.0 < length c.args.relation.now.schema.columns) (sym c.test-item.is) (c.requires.columns c.loop-test.test-index c.test-item.result c.loop-test-test.true)

pub loop-test-preserved-then-bounds : goal.loop-test-preserved-then-bounds
loop-test-preserved-then-bounds g c = record {
  held = c.loop-test.invariant.held;
  left = ap (λ ts. filter (row_passes (g.R.Relations.tables c.args.tables.now) c.args.relation.now ts) c.loop-test.rows.items)
      (sym (skip_bound (g.R.Relations.tables c.args.tables.now) c.args.relation.now c.args.column.0 c.args.tests.now c.loop-test.test-index c.test-item.result c.loop-test-test.true c.test-item.is (sym c.bounds.ensures ∙ c.if-bounds.true)))
      ∙ c.loop-test.invariant.left;
}

pub loop-test-preserved : goal.loop-test-preserved
loop-test-preserved g c = record {
  held = rw c.keep_standing.ensures (All-filter _ (λ r. IsSome (finite.get c.args.relation.now.rows r)) c.loop-test.rows.items c.loop-test.invariant.held);
  left = ap (filter (row_passes (g.R.Relations.tables c.args.tables.now) c.args.relation.now (unbounded c.args.column.0 (drop (c.loop-test.test-index + 1) c.args.tests.now)))) c.keep_standing.ensures
      ∙ sym (keep_unbounded (g.R.Relations.tables c.args.tables.now) c.args.relation.now c.args.column.0 c.args.tests.now c.loop-test.test-index c.test-item.result c.loop-test-test.true c.test-item.is (sym c.bounds.ensures ∙ c.if-bounds.false) c.loop-test.rows.items)
      ∙ c.loop-test.invariant.left;
}

pub returns : goal.returns
returns g c =
    sym (keep_none_unbounded (g.R.Relations.tables c.args.tables.now) c.args.relation.now c.args.column.0 c.args.tests.now c.loop-test.test-index c.loop-test.rows.items (omega (arith, c.loop-test-test.false)))
    ∙ c.loop-test.invariant.left
