use Rattle.plain_tables.specs.Queries.{stands}
use Rattle.temp_list.specs.Reading.{value_in, row_passes, all_but}
use Rattle.temp_list.proofs.Reading.{sound_at}
use Rattle.temp_list.proofs.Keeping.{passes_others, selected_left}
use Rattle.temp_list.proofs.Selects.{found_held, all_appended, selected_there}
use Rattle.temp_list.proofs.selecting.find_by_one_test.Goals as goal

pub keep_passing_others-requires-clause-held : goal.keep_passing_others-requires-clause-held
keep_passing_others-requires-clause-held g c =
    found_held (g.R.Relations.tables c.args.tables.now) c.at-relation.result.now c.a_relation_is_kept.ensures c.rows_by_tree.new.out.items
    (λ q. stands c.index-tests-n.result.op (value_in (g.R.Relations.tables c.args.tables.now) c.at-relation.result.now c.index-tests-n.result.column.0 q) c.index-tests-n.result.value)
    (all_appended c.clear.new.self.items _ _ c.clear.ensures.items (rw c.sought.ensures at c.in_ok-rows_by_tree.ensures.ok))

pub keep_passing_others-requires-clause-current : goal.keep_passing_others-requires-clause-current
keep_passing_others-requires-clause-current g c = (sound_at (g.R.Relations.tables c.args.tables.now) c.requires.sound c.args.table.0 c.at-relation.result.now c.at-relation.ensures).1

pub returns : goal.returns
returns g c =
    selected_there (g.R.Relations.tables c.args.tables.now) c.args.table.0 c.at-relation.result.now c.at-relation.ensures c.args.tests.now c.keep_passing_others.new.rows.items
    (selected_left (g.R.Relations.tables c.args.tables.now) c.at-relation.result.now c.a_relation_is_kept.ensures c.args.tests.now c.rows_by_tree.new.out.items c.keep_passing_others.new.rows.items
    (λ q. stands c.index-tests-n.result.op (value_in (g.R.Relations.tables c.args.tables.now) c.at-relation.result.now c.index-tests-n.result.column.0 q) c.index-tests-n.result.value)
    (row_passes (g.R.Relations.tables c.args.tables.now) c.at-relation.result.now (all_but c.args.n c.args.tests.now))
    (all_appended c.clear.new.self.items _ _ c.clear.ensures.items (rw c.sought.ensures at c.in_ok-rows_by_tree.ensures.ok))
    (passes_others (g.R.Relations.tables c.args.tables.now) c.at-relation.result.now c.args.tests.now c.args.n c.index-tests-n.result
    (c.requires.fits c.at-relation.result.now c.at-relation.ensures).0 c.index-tests-n.is)
    c.keep_passing_others.ensures)
