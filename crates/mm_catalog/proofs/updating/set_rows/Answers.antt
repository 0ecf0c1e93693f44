use Rattle.std.proofs.Common.{◌≡◌, Some, take, get_or, sym, ap, ◌∙◌}
use Rattle.std.specs.List.{slice_get}
use Rattle.mm_catalog.proofs.UpdateRefused.{not_set, updated_there}
use Rattle.mm_catalog.proofs.updating.set_rows.Goals as goal
use Rattle.mm_catalog.proofs.updating.set_rows.Goals.{After-index-rest-0}
use Rattle.mm_catalog.proofs.Taking.{split_here}

there : (c : After-index-rest-0) → slice_get c.args.relations.now c.args.table.0 ≡ Some (get_or c.split_at_mut-before.result.1.now 0 c.index-rest-0.result)
there c = split_here c.args.relations.now c.split_at_mut-before.result.1.now c.args.table.0 c.index-rest-0.result c.requires.there c.split_at_mut-before.ensures.back

pub set_rows_beside-requires-clause-stands : goal.set_rows_beside-requires-clause-stands
set_rows_beside-requires-clause-stands c =
    let n = c.args.table.0 in
    let k = c.requires.consistent in
    let at = there (goal.at.set_rows_beside-requires-clause-stands c).After-index-rest-0 in
    (k.0, n, (k.2, ap (λ rs. slice_get rs n) k.1 ∙ at, c.split_at_mut-before.ensures.front ∙ ap (take n) (sym k.1)))

pub set_rows_beside-requires-clause-columns : goal.set_rows_beside-requires-clause-columns
set_rows_beside-requires-clause-columns c =
    c.requires.columns _ (there (goal.at.set_rows_beside-requires-clause-columns c).After-index-rest-0)

pub set_rows_beside-requires-clause-held : goal.set_rows_beside-requires-clause-held
set_rows_beside-requires-clause-held c =
    c.requires.held _ (there (goal.at.set_rows_beside-requires-clause-held c).After-index-rest-0)

pub returns-clause-updated : goal.returns-clause-updated
returns-clause-updated c =
    let n = c.args.table.0 in
    let k = c.requires.consistent in
    let at = there (goal.at.returns-clause-updated c).After-index-rest-0 in
    updated_there c.set_rows_beside.result k.0 n c.args.relations.now c.split_at_mut-before.result.0.now c.split_at_mut-before.result.1.now _ c.set_rows_beside.new.before c.set_rows_beside.new.relation c.args.rows.now c.args.assignments.now
    (k.2, ap (λ rs. slice_get rs n) k.1 ∙ at, c.split_at_mut-before.ensures.front ∙ ap (take n) (sym k.1)) k.1 c.split_at_mut-before.ensures.back c.set_rows_beside.ensures.updated

pub returns-clause-refused : goal.returns-clause-refused
returns-clause-refused c =
    not_set c.args.relations.now c.args.table.0 _ c.args.assignments.now
    (there (goal.at.returns-clause-refused c).After-index-rest-0)
    c.set_rows_beside.result c.split_at_mut-before.result.0.now c.split_at_mut-before.ensures.front c.set_rows_beside.ensures.refused
