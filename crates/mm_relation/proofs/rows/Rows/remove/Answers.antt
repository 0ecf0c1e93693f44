use Rattle.std.proofs.Common.{ap, ◌∙◌}
use Rattle.part_raw.proofs.Mapped.{mapped-remove}
use Rattle.mm_relation.specs.Rows.{row_of, rows_in, outside, among}
use Rattle.mm_relation.proofs.Stored.{held_alike}
use Rattle.mm_relation.proofs.Parted.{outside-held, outside-slot, outside-remove, among-remove}
use Rattle.mm_relation.proofs.Hiding.{parted_without}
use Rattle.mm_relation.proofs.rows.Rows.remove.Goals as goal

pub remove-requires : goal.remove-requires
remove-requires c = outside-held c.self.inside.hidden c.self.inside.store.tuples c.args.r (held_alike (outside c.self.inside.hidden c.self.inside.store.tuples) c.args.r ∙ (rw (← c.self.view_is) at c.requires))

pub invariant_of-self : goal.invariant_of-self
invariant_of-self c =
    let seen = held_alike (outside c.self.inside.hidden c.self.inside.store.tuples) c.args.r ∙ (rw (← c.self.view_is) at c.requires) in
    rw (c.remove.ensures.width, c.remove.ensures.tuples, c.remove.ensures.counts)
    (parted_without c.self.inside.store.width c.self.inside.store.tuples c.self.inside.store.counts c.self.inside.hidden c.self.inside.hidden_count c.self.inside.owed c.self.invariant c.args.r
    (outside-slot c.self.inside.hidden c.self.inside.store.tuples c.args.r seen) (outside-held c.self.inside.hidden c.self.inside.store.tuples c.args.r seen))

pub returns-clause-rows : goal.returns-clause-rows
returns-clause-rows c =
    let seen = held_alike (outside c.self.inside.hidden c.self.inside.store.tuples) c.args.r ∙ (rw (← c.self.view_is) at c.requires) in
    let is_out = outside-slot c.self.inside.hidden c.self.inside.store.tuples c.args.r seen in
    rw (← c.self.view_is)
    (ap (λ tuples. rows_in (outside c.self.inside.hidden tuples)) c.remove.ensures.tuples ∙ ap rows_in (outside-remove c.self.inside.hidden c.self.inside.store.tuples c.args.r is_out)
    ∙ mapped-remove (λ r. row_of) (outside c.self.inside.hidden c.self.inside.store.tuples) c.args.r)

pub returns-clause-aside : goal.returns-clause-aside
returns-clause-aside c =
    let seen = held_alike (outside c.self.inside.hidden c.self.inside.store.tuples) c.args.r ∙ (rw (← c.self.view_is) at c.requires) in
    let is_out = outside-slot c.self.inside.hidden c.self.inside.store.tuples c.args.r seen in
    let numbers = ap (outside c.self.inside.hidden) c.remove.ensures.counts ∙ outside-remove c.self.inside.hidden c.self.inside.store.counts c.args.r is_out in
    let still = ap (λ tuples. rows_in (among c.self.inside.hidden tuples)) c.remove.ensures.tuples ∙ ap rows_in (among-remove c.self.inside.hidden c.self.inside.store.tuples c.args.r is_out) in
    rw (← c.self.view_is) (λ i. record { numbers = numbers i; counted = c.remove.ensures.counted i; hidden = still i; owed = c.self.inside.owed })
