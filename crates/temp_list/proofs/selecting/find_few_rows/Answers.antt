use Rattle.std.proofs.lemmas.Result.{IfOk-weaker}
use Rattle.std.proofs.lemmas.Option.{IfSome_then}
use Rattle.temp_list.proofs.Selects.{bag_selected}
use Rattle.temp_list.proofs.selecting.find_few_rows.Goals as goal

pub returns : goal.returns
returns g c =
    IfOk-weaker c.passing_in_slots.result _ _
    (λ found is.
    IfSome_then found is
    (λ rows bag.
    bag_selected (g.R.Relations.tables c.args.tables.now) c.requires.sound c.args.table.0 c.at-relation.result.now c.at-relation.ensures c.args.tests.now rows.items bag))
    c.passing_in_slots.ensures
