use Rattle.std.proofs.Common.{◌∙◌}
use Rattle.mm_relation.specs.Rows.{among, outside}
use Rattle.mm_relation.proofs.Stored.{held_alike}
use Rattle.mm_relation.proofs.Parted.{among-held, outside-held}
use Rattle.mm_relation.proofs.rows.Rows.slots.Goals as goal

pub returns-clause-within : goal.returns-clause-within
returns-clause-within c r held =
    c.slots.ensures.within r (outside-held c.self.inside.hidden c.self.inside.store.tuples r (held_alike (outside c.self.inside.hidden c.self.inside.store.tuples) r ∙ (rw (← c.self.view_is) at held)))

pub returns-clause-hidden : goal.returns-clause-hidden
returns-clause-hidden c r held =
    c.slots.ensures.within r (among-held c.self.inside.hidden c.self.inside.store.tuples r (held_alike (among c.self.inside.hidden c.self.inside.store.tuples) r ∙ (rw (← c.self.view_is) at held)))
