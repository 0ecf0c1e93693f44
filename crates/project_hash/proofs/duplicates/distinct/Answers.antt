use Rattle.std.proofs.Common.{◌≡◌, subst, sym}
use Rattle.std.proofs.lemmas.Result.{IfOk-weaker}
use Rattle.temp_list.specs.Lists.{ListState, IsOver}
use Rattle.project_hash.specs.Distinct.{IsDistinctOf}
use Rattle.project_hash.specs.Shown.{with_rows}
use Rattle.project_hash.proofs.Picked.{picked_distinct, picked_over}
use Rattle.project_hash.proofs.duplicates.distinct.Goals as goal

pub returns-clause-distinct : goal.returns-clause-distinct
returns-clause-distinct g c =
    let relations = g.R.Relations.tables c.args.tables.now in
    IfOk-weaker c.list_of.result (λ (l : ListState). l ≡ with_rows c.args.list c.in_ok-rows.rows.keys) (IsDistinctOf relations c.args.list)
    (λ l is. subst (IsDistinctOf relations c.args.list) (sym is) (picked_distinct relations c.args.list c.in_ok-rows.rows.keys c.in_ok-rows.ensures))
    (rw (← c.as_slice.ensures.keys) c.list_of.ensures)

pub returns-clause-over : goal.returns-clause-over
returns-clause-over g c =
    let relations = g.R.Relations.tables c.args.tables.now in
    IfOk-weaker c.list_of.result (λ (l : ListState). l ≡ with_rows c.args.list c.in_ok-rows.rows.keys) (IsOver relations)
    (λ l is. subst (IsOver relations) (sym is) (picked_over relations c.args.list c.in_ok-rows.rows.keys c.in_ok-rows.ensures c.requires.over))
    (rw (← c.as_slice.ensures.keys) c.list_of.ensures)
