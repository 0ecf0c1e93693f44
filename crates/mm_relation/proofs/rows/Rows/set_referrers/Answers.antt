use Rattle.std.proofs.Common.{ap, ◌∙◌}
use Rattle.mm_relation.specs.Rows.{rows_of, rows_in, row_store, outside, among}
use Rattle.mm_relation.proofs.Stored.{held_alike}
use Rattle.mm_relation.proofs.Parted.{outside-held, outside-slot, outside-insert}
use Rattle.mm_relation.proofs.Hiding.{parted_counted}
use Rattle.mm_relation.proofs.rows.Rows.set_referrers.Goals as goal

pub set_count-requires-clause-held : goal.set_count-requires-clause-held
set_count-requires-clause-held c = outside-held c.self.inside.hidden c.self.inside.store.tuples c.args.r (held_alike (outside c.self.inside.hidden c.self.inside.store.tuples) c.args.r ∙ (rw (← c.self.view_is) at c.requires.held))

pub invariant_of-self : goal.invariant_of-self
invariant_of-self c =
    let seen = held_alike (outside c.self.inside.hidden c.self.inside.store.tuples) c.args.r ∙ (rw (← c.self.view_is) at c.requires.held) in
    rw c.set_count.ensures
    (parted_counted c.self.inside.store.width c.self.inside.store.tuples c.self.inside.store.counts c.self.inside.hidden c.self.inside.hidden_count c.self.inside.owed c.self.invariant c.args.r
    (outside-slot c.self.inside.hidden c.self.inside.store.tuples c.args.r seen) (outside-held c.self.inside.hidden c.self.inside.store.tuples c.args.r seen) c.args.n)

pub returns : goal.returns
returns c =
    let seen = held_alike (outside c.self.inside.hidden c.self.inside.store.tuples) c.args.r ∙ (rw (← c.self.view_is) at c.requires.held) in
    let numbers = outside-insert c.self.inside.hidden c.self.inside.store.counts c.args.r (outside-slot c.self.inside.hidden c.self.inside.store.tuples c.args.r seen) c.args.n in
    rw (← c.self.view_is)
    (ap (λ s. rows_of s c.self.inside.hidden c.self.inside.owed) c.set_count.ensures
    ∙ (λ i. row_store c.self.inside.store.width (rows_in (outside c.self.inside.hidden c.self.inside.store.tuples))
    (record { numbers = numbers i; counted = c.self.inside.store.counted; hidden = rows_in (among c.self.inside.hidden c.self.inside.store.tuples); owed = c.self.inside.owed }) c.self.inside.store.free))
