use Rattle.std.proofs.Common.{◌∙◌, sym, subst}
use Rattle.part_raw.specs.declared.tuple_ref.TupleRef.{TupleRef}
use Rattle.std.proofs.Common.{List}
use Rattle.mm_index.specs.Bag.{IsSameBag}
use Rattle.mm_index.proofs.Bags.{IsSameBag-from_same}
use Rattle.mm_catalog.proofs.Among.{among_at, there_at}
use Rattle.temp_list.specs.Reading.{passing}
use Rattle.mm_session.proofs.Picking.{test_columns, are_passing}
use Rattle.mm_session.proofs.execute.search.rows_passing.Goals as goal

pub at-relation-requires : goal.at-relation-requires
at-relation-requires c = there_at c.args.catalog.now c.a_catalog_is_consistent.ensures c.args.table.0 c.requires.0 c.requires.1

pub find_only_row-requires-clause-current : goal.find_only_row-requires-clause-current
find_only_row-requires-clause-current c = (among_at c.args.catalog.now c.a_catalog_is_consistent.ensures c.args.table.0 c.at-relation.result.now c.at-relation.ensures).current

pub find_row_of_key-requires-clause-columns : goal.find_row_of_key-requires-clause-columns
find_row_of_key-requires-clause-columns c =
    test_columns c.args.catalog.now c.a_catalog_is_consistent.ensures c.args.table.0 c.requires.0 c.requires.1 c.args.tests.now c.requires.2 c.at-relation.result.now c.at-relation.ensures

pub returns-clause-passing : goal.returns-clause-passing
returns-clause-passing c =
    are_passing c.args.catalog.now c.a_catalog_is_consistent.ensures c.args.table.0 c.requires.0 c.requires.1 c.args.tests.now c.at-relation.result.now c.at-relation.ensures
    (test_columns c.args.catalog.now c.a_catalog_is_consistent.ensures c.args.table.0 c.requires.0 c.requires.1 c.args.tests.now c.requires.2 c.at-relation.result.now c.at-relation.ensures)
    c.one_row.result.items (IsSameBag-from_same c.one_row.result.items (passing c.args.catalog.now.relations c.at-relation.result.now c.args.tests.now) (c.one_row.ensures ∙ sym c.in-Some.ensures))

pub find_only_row-requires-clause-columns : goal.find_only_row-requires-clause-columns
find_only_row-requires-clause-columns c =
    test_columns c.args.catalog.now c.a_catalog_is_consistent.ensures c.args.table.0 c.requires.0 c.requires.1 c.args.tests.now c.requires.2 c.at-relation.result.now c.at-relation.ensures

pub returns-in-Some-find_only_row-clause-passing : goal.returns-in-Some-find_only_row-clause-passing
returns-in-Some-find_only_row-clause-passing c =
    are_passing c.args.catalog.now c.a_catalog_is_consistent.ensures c.args.table.0 c.requires.0 c.requires.1 c.args.tests.now c.at-relation.result.now c.at-relation.ensures
    (test_columns c.args.catalog.now c.a_catalog_is_consistent.ensures c.args.table.0 c.requires.0 c.requires.1 c.args.tests.now c.requires.2 c.at-relation.result.now c.at-relation.ensures)
    c.one_row-in-Some-find_only_row.result.items (IsSameBag-from_same c.one_row-in-Some-find_only_row.result.items (passing c.args.catalog.now.relations c.at-relation.result.now c.args.tests.now) (c.one_row-in-Some-find_only_row.ensures ∙ sym c.in-Some-find_only_row.ensures.only))

pub find_rows-requires-clause-there : goal.find_rows-requires-clause-there
find_rows-requires-clause-there c = there_at c.args.catalog.now c.a_catalog_is_consistent.ensures c.args.table.0 c.requires.0 c.requires.1

pub find_rows-requires-clause-columns : goal.find_rows-requires-clause-columns
find_rows-requires-clause-columns c = test_columns c.args.catalog.now c.a_catalog_is_consistent.ensures c.args.table.0 c.requires.0 c.requires.1 c.args.tests.now c.requires.2

pub returns-2-clause-passing : goal.returns-2-clause-passing
returns-2-clause-passing c =
    let s = c.at-relation.result.now in
    are_passing c.args.catalog.now c.a_catalog_is_consistent.ensures c.args.table.0 c.requires.0 c.requires.1 c.args.tests.now s c.at-relation.ensures
    (test_columns c.args.catalog.now c.a_catalog_is_consistent.ensures c.args.table.0 c.requires.0 c.requires.1 c.args.tests.now c.requires.2 s c.at-relation.ensures)
    c.from_vec.result.items
    (subst (λ (refs : List TupleRef). IsSameBag refs (passing c.args.catalog.now.relations s c.args.tests.now)) (sym c.from_vec.ensures.items) (c.in_ok-rows.ensures s c.at-relation.ensures).bag)
