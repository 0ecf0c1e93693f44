use Rattle.std.proofs.Common.{◌∙◌, sym, subst}
use Rattle.mm_relation.specs.Declaring.{declaration, is_index, without_first}
use Rattle.mm_relation.specs.Seen.{state}
use Rattle.mm_relation.specs.State.{IsKept, IsCurrent}
use Rattle.mm_relation.proofs.Declared.{kept_without, state_without, current_without}
use Rattle.mm_relation.proofs.Owed.{owed_fewer}
use Rattle.mm_relation.proofs.relation.Relation.drop_index.Goals as goal

pub invariant_of-self : goal.invariant_of-self
invariant_of-self c = (
  subst IsKept
      (λ i. state c.self.inside.rows.aside c.self.inside.schema c.self.inside.targets.items (sym c.drop_declared.ensures i) c.self.inside.rows.tuples c.self.inside.by_key.tree (sym c.drop_index.ensures i))
      (kept_without c.self.inside.rows.aside c.self.inside.schema c.self.inside.targets.items c.self.inside.declared.items c.self.inside.rows.tuples c.self.inside.by_key.tree c.self.inside.indexes c.self.invariant.0 c.args.kind c.args.column),
  c.self.invariant.1,
  rw c.drop_index.ensures (owed_fewer _ _ c.self.inside.by_key _ c.self.inside.indexes c.self.invariant.2),
)

pub returns-clause-dropped : goal.returns-clause-dropped
returns-clause-dropped c =
    let others = without_first (is_index (declaration c.args.column c.args.kind)) c.self.inside.declared.items in
    rw (← c.self.view_is)
    ((λ i. state c.self.inside.rows.aside c.self.inside.schema c.self.inside.targets.items (c.drop_declared.ensures i) c.self.inside.rows.tuples c.self.inside.by_key.tree (c.drop_index.ensures i))
    ∙ state_without c.self.inside.rows.aside c.self.inside.schema c.self.inside.targets.items c.self.inside.declared.items c.self.inside.rows.tuples c.self.inside.by_key.tree c.self.inside.indexes c.self.invariant.0 c.args.kind c.args.column others)

pub returns-clause-current : goal.returns-clause-current
returns-clause-current c = λ keys before.
    let others = without_first (is_index (declaration c.args.column c.args.kind)) c.self.inside.declared.items in
    subst (IsCurrent keys)
    (sym ((λ i. state c.self.inside.rows.aside c.self.inside.schema c.self.inside.targets.items (c.drop_declared.ensures i) c.self.inside.rows.tuples c.self.inside.by_key.tree (c.drop_index.ensures i))
    ∙ state_without c.self.inside.rows.aside c.self.inside.schema c.self.inside.targets.items c.self.inside.declared.items c.self.inside.rows.tuples c.self.inside.by_key.tree c.self.inside.indexes c.self.invariant.0 c.args.kind c.args.column others))
    (current_without c.self.inside.rows.aside c.self.inside.schema c.self.inside.targets.items c.self.inside.declared.items c.self.inside.rows.tuples c.self.inside.by_key.tree c.self.inside.indexes c.self.invariant.0 c.args.kind c.args.column others keys (rw (← c.self.view_is) at before))
