use Rattle.std.proofs.Common.{refl}
use Rattle.mm_relation.proofs.Keeping.{kept_on, current_on, served}
use Rattle.mm_relation.proofs.relation.Relation.add_referrers.Goals as goal

pub invariant_of-self : goal.invariant_of-self
invariant_of-self c = rw c.count_up.ensures (
  kept_on c.self.inside.rows.aside c.self.inside.schema c.self.inside.targets.items c.self.inside.declared.items c.self.inside.rows.tuples c.self.inside.by_key.tree c.self.inside.indexes c.self.invariant.0
      _ c.self.inside.rows.tuples c.self.inside.by_key.tree c.self.inside.indexes c.self.invariant.0.keyed c.self.invariant.0.few refl,
  c.self.invariant.1,
  c.self.invariant.2,
)

pub returns-clause-current : goal.returns-clause-current
returns-clause-current c = rw c.count_up.ensures (λ keys current.
    let was = rw (← c.self.view_is) at current in
    current_on c.self.inside.rows.aside c.self.inside.schema c.self.inside.targets.items c.self.inside.declared.items c.self.inside.rows.tuples c.self.inside.by_key.tree c.self.inside.indexes c.self.invariant.0
    _ c.self.inside.rows.tuples c.self.inside.by_key.tree c.self.inside.indexes keys was.readable
    (served c.self.inside.rows.aside c.self.inside.schema c.self.inside.targets.items c.self.inside.declared.items c.self.inside.rows.tuples c.self.inside.by_key.tree c.self.inside.indexes c.self.invariant.0 keys was))
