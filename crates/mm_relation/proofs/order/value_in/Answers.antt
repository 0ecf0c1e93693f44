use Rattle.std.proofs.Common.{rules, ◌<◌, IsSome, length, subst, sym, ◌∙◌}
use Rattle.mm_relation.proofs.Stored.{read_there, column_there, value_there}
use Rattle.mm_relation.proofs.order.value_in.Goals as goal

pub bounds-cells-column : goal.bounds-cells-column
bounds-cells-column g c =
    let is = read_there (g.R.LinkedKeys.keys c.args.others.now) c.args.column.0 c.args.rows.now.tuples c.args.r c.cells.result.now c.cells.ensures.row in
    let readable = subst IsSome is c.requires in
    column_there (g.R.LinkedKeys.keys c.args.others.now) c.args.column.0 c.cells.result.now c.cells.ensures.keyed readable

pub offset_bounds-cells-column : goal.offset_bounds-cells-column
offset_bounds-cells-column g c =
    let is = read_there (g.R.LinkedKeys.keys c.args.others.now) c.args.column.0 c.args.rows.now.tuples c.args.r c.cells.result.now c.cells.ensures.row in
    let readable = subst IsSome is c.requires in
    let inside : c.args.column.0 < length c.cells.result.now = column_there (g.R.LinkedKeys.keys c.args.others.now) c.args.column.0 c.cells.result.now c.cells.ensures.keyed readable in
    search rules

pub key_of-requires : goal.key_of-requires
key_of-requires g c =
    let is = read_there (g.R.LinkedKeys.keys c.args.others.now) c.args.column.0 c.args.rows.now.tuples c.args.r c.cells.result.now c.cells.ensures.row in
    let readable = subst IsSome is c.requires in
    subst IsSome (value_there (g.R.LinkedKeys.keys c.args.others.now) c.args.column.0 c.cells.result.now c.cells.ensures.keyed readable c.index-cells-column.result _ (sym c.index-cells-column.is ∙ sym c.in-Link.ensures)) readable

pub returns-in-Held : goal.returns-in-Held
returns-in-Held g c =
    let is = read_there (g.R.LinkedKeys.keys c.args.others.now) c.args.column.0 c.args.rows.now.tuples c.args.r c.cells.result.now c.cells.ensures.row in
    let readable = subst IsSome is c.requires in
    is ∙ value_there (g.R.LinkedKeys.keys c.args.others.now) c.args.column.0 c.cells.result.now c.cells.ensures.keyed readable c.index-cells-column.result _ (sym c.index-cells-column.is ∙ sym c.in-Held.ensures)

pub returns-in-Link : goal.returns-in-Link
returns-in-Link g c =
    let is = read_there (g.R.LinkedKeys.keys c.args.others.now) c.args.column.0 c.args.rows.now.tuples c.args.r c.cells.result.now c.cells.ensures.row in
    let readable = subst IsSome is c.requires in
    is ∙ value_there (g.R.LinkedKeys.keys c.args.others.now) c.args.column.0 c.cells.result.now c.cells.ensures.keyed readable c.index-cells-column.result _ (sym c.index-cells-column.is ∙ sym c.in-Link.ensures) ∙ c.key_of.ensures
