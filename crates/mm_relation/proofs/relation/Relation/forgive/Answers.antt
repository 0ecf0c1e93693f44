use Rattle.std.proofs.Common.{◌≡◌, ◌-◌, ◌∙◌, ap, arith}
use Rattle.mm_relation.proofs.Room.{keep_none}
use Rattle.mm_relation.proofs.Owed.{kept_alike, owed_left}
use Rattle.mm_relation.proofs.Keeping.{same_state}
use Rattle.mm_relation.proofs.relation.Relation.forgive.Goals as goal

pub invariant_of-self : goal.invariant_of-self
invariant_of-self c =
    let tuples : c.settle.new.rows.tuples ≡ c.self.inside.rows.tuples = c.settle.ensures.tuples ∙ ap (λ s. s.tuples) c.forgive.ensures in
    let aside : c.settle.new.rows.aside ≡ record c.self.inside.rows.aside { owed = c.self.inside.rows.aside.owed - c.args.n } = c.settle.ensures.aside ∙ ap (λ s. s.aside) c.forgive.ensures in (
      rw tuples (kept_alike c.self.inside.rows.aside c.self.inside.schema c.self.inside.targets.items c.self.inside.declared.items c.self.inside.rows.tuples c.self.inside.by_key.tree c.self.inside.indexes c.self.invariant.0 c.settle.new.rows.aside c.settle.new.by_key.tree c.settle.new.indexes c.settle.ensures.by_key c.settle.ensures.same),
      c.settle.ensures.width ∙ ap (λ s. s.width) c.forgive.ensures ∙ c.self.invariant.1,
      rw aside ((rw c.forgive.ensures at c.settle.ensures.owed)
          (owed_left 0 0 c.self.inside.rows.aside.owed (c.self.inside.rows.aside.owed - c.args.n) c.self.inside.rows.aside.hidden c.self.inside.by_key c.self.inside.by_key c.self.inside.indexes c.self.inside.indexes (keep_none c.self.inside.indexes) c.self.invariant.2 (omega arith) (omega arith) (omega (arith, c.self.invariant.2.key_room)))),
    )

pub returns : goal.returns
returns c =
    let tuples : c.settle.new.rows.tuples ≡ c.self.inside.rows.tuples = c.settle.ensures.tuples ∙ ap (λ s. s.tuples) c.forgive.ensures in
    let aside : c.settle.new.rows.aside ≡ record c.self.inside.rows.aside { owed = c.self.inside.rows.aside.owed - c.args.n } = c.settle.ensures.aside ∙ ap (λ s. s.aside) c.forgive.ensures in
    rw (← c.self.view_is, aside)
    (same_state (record c.self.inside.rows.aside { owed = c.self.inside.rows.aside.owed - c.args.n }) c.self.inside.schema c.self.inside.targets.items c.self.inside.declared.items c.self.inside.rows.tuples c.settle.new.rows.tuples c.self.inside.by_key.tree c.settle.new.by_key.tree c.self.inside.indexes c.settle.new.indexes tuples c.settle.ensures.by_key c.settle.ensures.same)
