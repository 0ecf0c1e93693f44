use Rattle.std.proofs.Common.{sym, ap, ◌∙◌, subst, IsSome}
use Rattle.std.specs.FinMap.{insert}
use Rattle.part_raw.proofs.Mapped.{mapped-insert}
use Rattle.mm_relation.specs.Rows.{row_of, rows_in, outside, among}
use Rattle.mm_relation.proofs.Stored.{cell_set, cells_set, cells_set-whole, cells_set-row, column_within, column_above}
use Rattle.mm_relation.proofs.Parted.{outside-insert, among-insert}
use Rattle.mm_relation.proofs.Hiding.{seen_slot, seen_held, seen_row, parted_written}
use Rattle.mm_relation.proofs.rows.Rows.set_cell.Goals as goal

pub replace-requires-clause-held : goal.replace-requires-clause-held
replace-requires-clause-held c = seen_held c.self.inside.hidden c.self.inside.store.tuples c.args.r (rw (← c.self.view_is) at c.requires.held)

pub replace-requires-clause-column : goal.replace-requires-clause-column
replace-requires-clause-column c =
    let held = rw (← c.self.view_is) at c.requires.held in
    let same = seen_row c.self.inside.hidden c.self.inside.store.tuples c.args.r (seen_slot c.self.inside.hidden c.self.inside.store.tuples c.args.r held) in
    column_within c.self.inside.store c.args.r c.self.invariant.rows c.args.column.0 (λ row at. (rw (← c.self.view_is) at c.requires.column) row (same ∙ at)) (subst IsSome same held)

pub invariant_of-self : goal.invariant_of-self
invariant_of-self c =
    let held = rw (← c.self.view_is) at c.requires.held in
    let is_out = seen_slot c.self.inside.hidden c.self.inside.store.tuples c.args.r held in
    let same = seen_row c.self.inside.hidden c.self.inside.store.tuples c.args.r is_out in
    let above = column_above c.self.inside.store.tuples c.args.r c.args.column.0 (λ row at. (rw (← c.self.view_is) at c.requires.column) row (same ∙ at)) (subst IsSome same held) in
    let is = cell_set c.self.inside.store c.replace.new.self c.args.r c.args.column.0 c.args.cell c.replace.ensures.tuples (subst IsSome same held) in
    rw is
    (parted_written c.self.inside.store.width c.self.inside.store.tuples c.self.inside.store.counts c.self.inside.hidden c.self.inside.hidden_count c.self.inside.owed c.self.invariant c.args.r is_out
    (seen_held c.self.inside.hidden c.self.inside.store.tuples c.args.r held)
    (cells_set c.self.inside.store c.replace.new.self c.args.r c.args.column.0 c.args.cell c.replace.ensures.tuples (subst IsSome same held))
    (cells_set-whole c.self.inside.store c.replace.new.self c.args.r c.args.column.0 c.args.cell c.replace.ensures.tuples (subst IsSome same held) c.self.invariant.rows above))

pub returns-clause-row : goal.returns-clause-row
returns-clause-row c =
    let held = rw (← c.self.view_is) at c.requires.held in
    let is_out = seen_slot c.self.inside.hidden c.self.inside.store.tuples c.args.r held in
    let same = seen_row c.self.inside.hidden c.self.inside.store.tuples c.args.r is_out in
    let above = column_above c.self.inside.store.tuples c.args.r c.args.column.0 (λ row at. (rw (← c.self.view_is) at c.requires.column) row (same ∙ at)) (subst IsSome same held) in
    let is = cell_set c.self.inside.store c.replace.new.self c.args.r c.args.column.0 c.args.cell c.replace.ensures.tuples (subst IsSome same held) in
    let cells = cells_set c.self.inside.store c.replace.new.self c.args.r c.args.column.0 c.args.cell c.replace.ensures.tuples (subst IsSome same held) in
    rw (← c.self.view_is)
    (λ row at.
    ap (λ s. rows_in (outside c.self.inside.hidden s.tuples)) is
    ∙ ap rows_in (outside-insert c.self.inside.hidden c.self.inside.store.tuples c.args.r is_out cells)
    ∙ mapped-insert (λ r. row_of) (outside c.self.inside.hidden c.self.inside.store.tuples) c.args.r cells
    ∙ ap (insert (rows_in (outside c.self.inside.hidden c.self.inside.store.tuples)) c.args.r)
    (cells_set-row c.self.inside.store c.replace.new.self c.args.r c.args.column.0 c.args.cell c.replace.ensures.tuples (subst IsSome same held) c.self.invariant.rows above row (sym same ∙ at)))

pub returns-clause-width : goal.returns-clause-width
returns-clause-width c =
    let held = rw (← c.self.view_is) at c.requires.held in
    let same = seen_row c.self.inside.hidden c.self.inside.store.tuples c.args.r (seen_slot c.self.inside.hidden c.self.inside.store.tuples c.args.r held) in
    rw (← c.self.view_is) (ap (λ s. s.width) (cell_set c.self.inside.store c.replace.new.self c.args.r c.args.column.0 c.args.cell c.replace.ensures.tuples (subst IsSome same held)))

pub returns-clause-aside : goal.returns-clause-aside
returns-clause-aside c =
    let held = rw (← c.self.view_is) at c.requires.held in
    let is_out = seen_slot c.self.inside.hidden c.self.inside.store.tuples c.args.r held in
    let same = seen_row c.self.inside.hidden c.self.inside.store.tuples c.args.r is_out in
    let is = cell_set c.self.inside.store c.replace.new.self c.args.r c.args.column.0 c.args.cell c.replace.ensures.tuples (subst IsSome same held) in
    let cells = cells_set c.self.inside.store c.replace.new.self c.args.r c.args.column.0 c.args.cell c.replace.ensures.tuples (subst IsSome same held) in
    let still = ap (λ s. rows_in (among c.self.inside.hidden s.tuples)) is ∙ ap rows_in (among-insert c.self.inside.hidden c.self.inside.store.tuples c.args.r is_out cells) in
    rw (← c.self.view_is) (λ i. record { numbers = outside c.self.inside.hidden (is i).counts; counted = (is i).counted; hidden = still i; owed = c.self.inside.owed })
