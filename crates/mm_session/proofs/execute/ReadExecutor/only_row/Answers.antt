use Rattle.std.proofs.Common.{◌≡◌, ◌∙◌, List, ap, sym, subst}
use Rattle.std.specs.Prelude.{slice_get}
use Rattle.std.specs.Option.{option_to_list}
use Rattle.std.proofs.lemmas.Option.{IfSome_then}
use Rattle.mm_relation.specs.State.{RelationState}
use Rattle.plain_tables.specs.declared.resolved.Test.{Test}
use Rattle.plan_chooser.specs.Plans.{Fits}
use Rattle.mm_catalog.proofs.Among.{among_at, there_at}
use Rattle.temp_list.specs.Reading.{HasColumns, passing}
use Rattle.temp_list.proofs.Lists.{same_at}
use Rattle.mm_session.proofs.Picking.{test_columns}
use Rattle.mm_session.proofs.execute.ReadExecutor.only_row.Goals as goal

pub at-relation-requires : goal.at-relation-requires
at-relation-requires c = there_at c.args.catalog.now c.a_catalog_is_consistent.ensures c.args.query.now.source.table.0 c.requires.meant.0.0 c.requires.meant.0.1

pub find_only_row-requires-clause-current : goal.find_only_row-requires-clause-current
find_only_row-requires-clause-current c = (among_at c.args.catalog.now c.a_catalog_is_consistent.ensures c.args.query.now.source.table.0 c.at-relation.result.now c.at-relation.ensures).current

pub find_only_row-requires-clause-columns : goal.find_only_row-requires-clause-columns
find_only_row-requires-clause-columns c =
    subst (HasColumns c.at-relation.result.now) (sym c.as_slice-tests.ensures)
    (test_columns c.args.catalog.now c.a_catalog_is_consistent.ensures c.args.query.now.source.table.0 c.requires.meant.0.0 c.requires.meant.0.1 c.args.query.now.source.tests c.requires.meant.0.2.0 c.at-relation.result.now c.at-relation.ensures)

pub find_only_row-requires-clause-fits : goal.find_only_row-requires-clause-fits
find_only_row-requires-clause-fits c =
    subst (λ (ts : List Test). Fits c.at-relation.result.now ts c.args.plan) (sym c.as_slice-tests.ensures) (c.requires.fits c.at-relation.result.now c.at-relation.ensures)

pub returns : goal.returns
returns c =
    let relations = c.args.catalog.now.relations in
    let source = c.args.query.now.source in
    let s = c.at-relation.result.now in
    IfSome_then c.find_only_row.result c.find_only_row.ensures.only
    (λ row is.
    record {
      ordered = c.requires.ordered;
      passes = λ t at.
          subst (λ (u : RelationState). passing relations u source.tests ≡ option_to_list row) (same_at (slice_get relations source.table.0) s t c.at-relation.ensures at)
          (ap (passing relations s) (sym c.as_slice-tests.ensures) ∙ is);
    })
