use Rattle.std.proofs.Common.{◌∙◌}
use Rattle.mm_relation.specs.Rows.{outside}
use Rattle.mm_relation.proofs.Stored.{held_alike}
use Rattle.mm_relation.proofs.Parted.{outside-held, outside-slot}
use Rattle.mm_relation.proofs.Hiding.{number_seen}
use Rattle.mm_relation.proofs.rows.Rows.is_counted.Goals as goal

pub returns-clause-none : goal.returns-clause-none
returns-clause-none c = λ uncounted.
    rw (← c.self.view_is) (λ r held.
    let seen = held_alike (outside c.self.inside.hidden c.self.inside.store.tuples) r ∙ held in
    number_seen c.self.inside.store.width c.self.inside.store.tuples c.self.inside.store.counts c.self.inside.hidden c.self.inside.hidden_count c.self.inside.owed c.self.invariant r
    (outside-slot c.self.inside.hidden c.self.inside.store.tuples r seen)
    ∙ c.is_counted.ensures.none uncounted r (outside-held c.self.inside.hidden c.self.inside.store.tuples r seen))
