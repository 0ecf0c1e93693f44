use Rattle.std.proofs.Common.{sym, ◌∙◌}
use Rattle.mm_relation.specs.Rows.{outside}
use Rattle.mm_relation.proofs.Stored.{held_alike}
use Rattle.mm_relation.proofs.Parted.{outside-held, outside-slot}
use Rattle.mm_relation.proofs.Hiding.{number_seen}
use Rattle.mm_relation.proofs.rows.Rows.referrers.Goals as goal

pub count-requires : goal.count-requires
count-requires c = outside-held c.self.inside.hidden c.self.inside.store.tuples c.args.r (held_alike (outside c.self.inside.hidden c.self.inside.store.tuples) c.args.r ∙ (rw (← c.self.view_is) at c.requires))

pub returns : goal.returns
returns c =
    let seen = held_alike (outside c.self.inside.hidden c.self.inside.store.tuples) c.args.r ∙ (rw (← c.self.view_is) at c.requires) in
    rw (← c.self.view_is)
    (c.count.ensures ∙ sym (number_seen c.self.inside.store.width c.self.inside.store.tuples c.self.inside.store.counts c.self.inside.hidden c.self.inside.hidden_count c.self.inside.owed c.self.invariant c.args.r
    (outside-slot c.self.inside.hidden c.self.inside.store.tuples c.args.r seen)))
