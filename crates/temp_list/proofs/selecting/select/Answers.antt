use Rattle.std.proofs.Common.{◌∙◌, ap}
use Rattle.std.proofs.lemmas.Result.{IfOk-weaker}
use Rattle.temp_list.proofs.Selected.{listing, listed}
use Rattle.temp_list.proofs.selecting.select.Goals as goal

pub returns : goal.returns
returns g c =
    IfOk-weaker c.of_rows.result _ _
    (λ list is. λ s lent.
    listed (g.R.Relations.tables c.args.tables.now) c.args.table.0 s lent c.args.tests.now c.in_ok-rows.rows.items (c.in_ok-rows.ensures s lent) list
    (is ∙ ap (listing c.args.table.0) c.as_slice.ensures.value))
    c.of_rows.ensures
