use Rattle.std.proofs.Common.{ap, ◌∙◌}
use Rattle.part_raw.proofs.Mapped.{mapped-remove}
use Rattle.mm_relation.specs.Rows.{row_of, rows_in, outside, among}
use Rattle.mm_relation.proofs.Parted.{outside-dropped, among-dropped}
use Rattle.mm_relation.proofs.Hiding.{hidden_slot, hidden_covered, some_hidden, parted_dropped}
use Rattle.mm_relation.proofs.rows.Rows.drop_hidden.Goals as goal

pub remove-requires : goal.remove-requires
remove-requires c = hidden_covered c.self.inside.store.width c.self.inside.store.tuples c.self.inside.store.counts c.self.inside.hidden c.self.inside.hidden_count c.self.inside.owed c.self.invariant c.args.r (hidden_slot c.self.inside.hidden c.self.inside.store.tuples c.args.r (rw (← c.self.view_is) at c.requires))

pub overflow_sub-self : goal.overflow_sub-self
overflow_sub-self c = some_hidden c.self.inside.store.width c.self.inside.store.tuples c.self.inside.store.counts c.self.inside.hidden c.self.inside.hidden_count c.self.inside.owed c.self.invariant c.args.r (hidden_slot c.self.inside.hidden c.self.inside.store.tuples c.args.r (rw (← c.self.view_is) at c.requires))

pub remove-requires-2 : goal.remove-requires-2
remove-requires-2 c = c.self.invariant.held c.args.r (hidden_slot c.self.inside.hidden c.self.inside.store.tuples c.args.r (rw (← c.self.view_is) at c.requires))

pub invariant_of-self : goal.invariant_of-self
invariant_of-self c =
    let is_in = hidden_slot c.self.inside.hidden c.self.inside.store.tuples c.args.r (rw (← c.self.view_is) at c.requires) in
    rw (c.remove-2.ensures.width, c.remove-2.ensures.tuples, c.remove-2.ensures.counts)
    (parted_dropped c.self.inside.store.width c.self.inside.store.tuples c.self.inside.store.counts c.self.inside.hidden c.self.inside.hidden_count c.self.inside.owed c.self.invariant c.args.r is_in c.remove.new.self c.remove.ensures.changes c.remove.ensures.covers)

pub returns-clause-tuples : goal.returns-clause-tuples
returns-clause-tuples c =
    let is_in = hidden_slot c.self.inside.hidden c.self.inside.store.tuples c.args.r (rw (← c.self.view_is) at c.requires) in
    rw (← c.self.view_is)
    (ap (λ tuples. rows_in (outside c.remove.new.self tuples)) c.remove-2.ensures.tuples
    ∙ ap rows_in (outside-dropped c.self.inside.hidden c.self.inside.store.tuples c.args.r c.remove.new.self c.remove.ensures.changes is_in))

pub returns-clause-aside : goal.returns-clause-aside
returns-clause-aside c =
    let is_in = hidden_slot c.self.inside.hidden c.self.inside.store.tuples c.args.r (rw (← c.self.view_is) at c.requires) in
    let numbers = ap (outside c.remove.new.self) c.remove-2.ensures.counts ∙ outside-dropped c.self.inside.hidden c.self.inside.store.counts c.args.r c.remove.new.self c.remove.ensures.changes is_in in
    let fewer =
    ap (λ tuples. rows_in (among c.remove.new.self tuples)) c.remove-2.ensures.tuples
    ∙ ap rows_in (among-dropped c.self.inside.hidden c.self.inside.store.tuples c.args.r c.remove.new.self c.remove.ensures.changes) ∙ mapped-remove (λ r. row_of) (among c.self.inside.hidden c.self.inside.store.tuples) c.args.r in
    rw (← c.self.view_is) (λ i. record { numbers = numbers i; counted = c.remove-2.ensures.counted i; hidden = fewer i; owed = c.self.inside.owed })
