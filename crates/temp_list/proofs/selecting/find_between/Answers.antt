use Rattle.temp_list.specs.Reading.{value_in, is_between, row_passes, unbounded}
use Rattle.temp_list.proofs.Reading.{sound_at}
use Rattle.temp_list.proofs.Keeping.{passes_unbounded, selected_left}
use Rattle.temp_list.proofs.Selects.{found_held, all_appended, selected_there}
use Rattle.temp_list.proofs.selecting.find_between.Goals as goal

pub keep_passing_unbounded-requires-clause-held : goal.keep_passing_unbounded-requires-clause-held
keep_passing_unbounded-requires-clause-held g c =
    found_held (g.R.Relations.tables c.args.tables.now) c.at-relation.result.now c.a_relation_is_kept.ensures c.rows_between.new.out.items
    (λ q. is_between c.index-tests-n.result.column.0 c.args.tests.now (value_in (g.R.Relations.tables c.args.tables.now) c.at-relation.result.now c.index-tests-n.result.column.0 q))
    (all_appended c.clear.new.self.items _ _ c.clear.ensures.items c.in_ok-rows_between.ensures.ok)

pub keep_passing_unbounded-requires-clause-current : goal.keep_passing_unbounded-requires-clause-current
keep_passing_unbounded-requires-clause-current g c = (sound_at (g.R.Relations.tables c.args.tables.now) c.requires.sound c.args.table.0 c.at-relation.result.now c.at-relation.ensures).1

pub returns : goal.returns
returns g c =
    selected_there (g.R.Relations.tables c.args.tables.now) c.args.table.0 c.at-relation.result.now c.at-relation.ensures c.args.tests.now c.keep_passing_unbounded.new.rows.items
    (selected_left (g.R.Relations.tables c.args.tables.now) c.at-relation.result.now c.a_relation_is_kept.ensures c.args.tests.now c.rows_between.new.out.items c.keep_passing_unbounded.new.rows.items
    (λ q. is_between c.index-tests-n.result.column.0 c.args.tests.now (value_in (g.R.Relations.tables c.args.tables.now) c.at-relation.result.now c.index-tests-n.result.column.0 q))
    (row_passes (g.R.Relations.tables c.args.tables.now) c.at-relation.result.now (unbounded c.index-tests-n.result.column.0 c.args.tests.now))
    (all_appended c.clear.new.self.items _ _ c.clear.ensures.items c.in_ok-rows_between.ensures.ok)
    (λ r. passes_unbounded (g.R.Relations.tables c.args.tables.now) c.at-relation.result.now c.index-tests-n.result.column.0 r c.args.tests.now)
    c.keep_passing_unbounded.ensures)
