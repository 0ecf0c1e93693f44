use Rattle.std.proofs.Common.{rules, ◌<◌, IsSome, length, subst, sym, ◌∙◌}
use Rattle.mm_relation.specs.State.{linked_keys}
use Rattle.mm_relation.proofs.Stored.{column_there, value_there}
use Rattle.mm_relation.proofs.view.RowView.value.Goals as goal

pub bounds-cells-column : goal.bounds-cells-column
bounds-cells-column g c =
    let keys = linked_keys c.self.inside.targets.now (g.R.Relations.tables c.args.others.now) in
    let readable = rw (← c.self.view_is) at c.requires in
    column_there keys c.args.column.0 c.self.inside.cells.now c.self.invariant readable

pub offset_bounds-cells-column : goal.offset_bounds-cells-column
offset_bounds-cells-column g c =
    let keys = linked_keys c.self.inside.targets.now (g.R.Relations.tables c.args.others.now) in
    let readable = rw (← c.self.view_is) at c.requires in
    let inside : c.args.column.0 < length c.self.inside.cells.now = column_there keys c.args.column.0 c.self.inside.cells.now c.self.invariant readable in
    search rules

pub linked_key-requires : goal.linked_key-requires
linked_key-requires g c =
    let keys = linked_keys c.self.inside.targets.now (g.R.Relations.tables c.args.others.now) in
    let readable = rw (← c.self.view_is) at c.requires in
    subst IsSome (value_there keys c.args.column.0 c.self.inside.cells.now c.self.invariant readable c.index-cells-column.result _ (sym c.index-cells-column.is ∙ sym c.in-Link.ensures)) readable

pub returns-in-Held : goal.returns-in-Held
returns-in-Held g c =
    let keys = linked_keys c.self.inside.targets.now (g.R.Relations.tables c.args.others.now) in
    let readable = rw (← c.self.view_is) at c.requires in
    rw (← c.self.view_is) (value_there keys c.args.column.0 c.self.inside.cells.now c.self.invariant readable c.index-cells-column.result _ (sym c.index-cells-column.is ∙ sym c.in-Held.ensures))

pub returns-in-Link : goal.returns-in-Link
returns-in-Link g c =
    let keys = linked_keys c.self.inside.targets.now (g.R.Relations.tables c.args.others.now) in
    let readable = rw (← c.self.view_is) at c.requires in
    rw (← c.self.view_is) (value_there keys c.args.column.0 c.self.inside.cells.now c.self.invariant readable c.index-cells-column.result _ (sym c.index-cells-column.is ∙ sym c.in-Link.ensures) ∙ c.linked_key.ensures)
