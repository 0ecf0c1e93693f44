use Rattle.std.proofs.Common.{sym, ◌∙◌}
use Rattle.mm_relation.specs.Rows.{outside}
use Rattle.mm_relation.proofs.Stored.{held_alike}
use Rattle.mm_relation.proofs.Hiding.{none_named}
use Rattle.mm_relation.proofs.rows.Rows.forget_counts.Goals as goal

pub forget_counts-requires : goal.forget_counts-requires
forget_counts-requires c =
    none_named c.self.inside.store.width c.self.inside.store.tuples c.self.inside.store.counts c.self.inside.hidden c.self.inside.hidden_count c.self.inside.owed c.self.invariant
    (λ r held. (rw (← c.self.view_is) at c.requires) r (sym (held_alike (outside c.self.inside.hidden c.self.inside.store.tuples) r) ∙ held))

pub invariant_of-self : goal.invariant_of-self
invariant_of-self c = rw c.forget_counts.ensures c.self.invariant
