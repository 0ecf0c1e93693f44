use Rattle.std.proofs.Common.{◌∙◌, ◌<◌, ◌+◌, sym, ap, subst, ◌&&◌, drop, length}
use Rattle.plain_tables.specs.declared.resolved.Test.{Test}
use Rattle.temp_list.specs.Reading.{row_passes}
use Rattle.temp_list.proofs.Reading.{can_read, passes_from}
use Rattle.temp_list.proofs.search.passes_each.Goals as goal

pub value-requires : goal.value-requires
value-requires g c =
    can_read (g.R.Relations.tables c.args.tables.now) c.args.relation.now c.args.r c.row-row.result c.row-row.ensures.row c.row-row.ensures.targets c.a_relation_is_kept.ensures
    c.requires.current c.test-item.result.column.0
    (subst (λ (t : Test). t.column.0 < length c.args.relation.now.schema.columns) (sym c.test-item.is) (c.requires.columns c.loop-test.test-index c.test-item.result c.loop-test-test.true))

pub loop-test-preserved : goal.loop-test-preserved
loop-test-preserved g c =
    sym
    (passes_from (g.R.Relations.tables c.args.tables.now) c.args.relation.now c.args.r c.row-row.result c.row-row.ensures.row c.row-row.ensures.targets c.args.tests.now
    c.loop-test.test-index c.test-item.result c.value.result.now c.passes.result c.loop-test-test.true c.test-item.is c.value.ensures
    c.passes.ensures
    ∙ ap (λ b. b && row_passes (g.R.Relations.tables c.args.tables.now) c.args.relation.now (drop (c.loop-test.test-index + 1) c.args.tests.now) c.args.r) c.if-not-passes.false)
    ∙ c.loop-test.invariant

pub returns-then-not-passes : goal.returns-then-not-passes
returns-then-not-passes g c =
    sym
    (passes_from (g.R.Relations.tables c.args.tables.now) c.args.relation.now c.args.r c.row-row.result c.row-row.ensures.row c.row-row.ensures.targets c.args.tests.now
    c.loop-test.test-index c.test-item.result c.value.result.now c.passes.result c.loop-test-test.true c.test-item.is c.value.ensures
    c.passes.ensures
    ∙ ap (λ b. b && row_passes (g.R.Relations.tables c.args.tables.now) c.args.relation.now (drop (c.loop-test.test-index + 1) c.args.tests.now) c.args.r) c.if-not-passes.true)
    ∙ c.loop-test.invariant
