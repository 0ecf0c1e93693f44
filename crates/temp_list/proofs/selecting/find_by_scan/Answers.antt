use Rattle.std.proofs.lemmas.Result.{IfOk-weaker}
use Rattle.mm_index.proofs.Bags.{IsSameBag-from_same}
use Rattle.temp_list.proofs.Selects.{bag_selected}
use Rattle.temp_list.proofs.selecting.find_by_scan.Goals as goal

pub returns-in-Some : goal.returns-in-Some
returns-in-Some g c =
    bag_selected (g.R.Relations.tables c.args.tables.now) c.requires.sound c.args.table.0 c.at-relation.result.now c.at-relation.ensures c.args.tests.now c.in-Some.rows.items (rw c.in-Some.is at c.in_ok-rows.ensures)

pub returns-in-None : goal.returns-in-None
returns-in-None g c =
    IfOk-weaker c.passing.result _ _
    (λ rows is. bag_selected (g.R.Relations.tables c.args.tables.now) c.requires.sound c.args.table.0 c.at-relation.result.now c.at-relation.ensures c.args.tests.now rows.items (IsSameBag-from_same _ _ is))
    c.passing.ensures
