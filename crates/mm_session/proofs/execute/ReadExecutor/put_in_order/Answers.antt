use Rattle.std.proofs.Common.{◌≡◌, ◌∙◌, sym, subst}
use Rattle.std.proofs.lemmas.Option.{same_Some}
use Rattle.std.proofs.lemmas.Result.{on_ok_weaker}
use Rattle.mm_relation.specs.State.{RelationState}
use Rattle.mm_catalog.proofs.Among.{among_at, there_at}
use Rattle.temp_list.specs.Reading.{passing}
use Rattle.temp_list.proofs.InOrder.{selected_in_order}
use Rattle.mm_session.proofs.execute.ReadExecutor.put_in_order.Goals as goal

pub at-relation-requires : goal.at-relation-requires
at-relation-requires c = there_at c.args.catalog.now c.a_catalog_is_consistent.ensures c.args.query.now.source.table.0 c.requires.meant.0.0 c.requires.meant.0.1

pub returns : goal.returns
returns c =
    let catalog = c.args.catalog.now in
    let query = c.args.query.now in
    let s = c.at-relation.result.now in
    let there = c.at-relation.ensures in
    let found = c.args.room.now.rows.items in
    on_ok_weaker c.sort.result
    (λ up.
    let same : c.sort.new.rows.items ≡ passing catalog.relations s query.source.tests =
    selected_in_order catalog.relations s (among_at catalog c.a_catalog_is_consistent.ensures query.source.table.0 s there).kept query.source.tests found c.sort.new.rows.items (c.requires.rows s there) c.sort.ensures.moved up in
    record {
      ordered = c.requires.ordered;
      pass = λ t at. subst (λ (u : RelationState). passing catalog.relations u query.source.tests ≡ c.sort.new.rows.items) (same_Some s t (sym there ∙ at)) (sym same);
    })
    c.sort.ensures.sorted
