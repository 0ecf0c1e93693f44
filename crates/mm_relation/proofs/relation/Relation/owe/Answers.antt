use Rattle.std.proofs.Common.{◌≡◌, ◌+◌, arith, refl, length}
use Rattle.mm_relation.specs.Owing.{HasOwed}
use Rattle.mm_relation.specs.Rows.{RowStore}
use Rattle.mm_relation.specs.State.{IsKept}
use Rattle.mm_relation.specs.Seen.{state}
use Rattle.mm_relation.proofs.Owed.{either, kept_alike, on_err, on_ok, owed_left, owed_made}
use Rattle.mm_relation.proofs.Keeping.{same_state}
use Rattle.mm_relation.proofs.relation.Relation.owe.Goals as goal

pub invariant_of-self : goal.invariant_of-self
invariant_of-self c = (
  kept_alike c.self.inside.rows.aside c.self.inside.schema c.self.inside.targets.items c.self.inside.declared.items c.self.inside.rows.tuples c.self.inside.by_key.tree c.self.inside.indexes c.self.invariant.0 c.self.inside.rows.aside c.make_ready.new.by_key.tree c.make_ready.new.indexes c.make_ready.ensures.by_key c.make_ready.ensures.same,
  c.self.invariant.1,
  owed_left 0 0 _ _ _ c.self.inside.by_key c.make_ready.new.by_key c.self.inside.indexes c.make_ready.new.indexes c.make_ready.ensures.keeps c.self.invariant.2 (omega arith) (omega arith) (omega (arith, c.self.invariant.2.key_room, c.make_ready.ensures.key_kept)),
)

pub invariant_of-self-2 : goal.invariant_of-self-2
invariant_of-self-2 c =
    let more = record c.self.inside.rows { aside = record c.self.inside.rows.aside { owed = c.self.inside.rows.aside.owed + c.args.n } } in
    either (λ (rows : RowStore). IsKept (state rows.aside c.self.inside.schema c.self.inside.targets.items c.self.inside.declared.items rows.tuples c.make_ready.new.by_key.tree c.make_ready.new.indexes) × (rows.width ≡ length c.self.inside.schema.columns) × HasOwed rows.aside.owed rows.aside.hidden c.make_ready.new.by_key c.make_ready.new.indexes)
    c.owe.result c.owe.new.self more c.self.inside.rows c.owe.ensures.ok c.owe.ensures.err (
      kept_alike c.self.inside.rows.aside c.self.inside.schema c.self.inside.targets.items c.self.inside.declared.items c.self.inside.rows.tuples c.self.inside.by_key.tree c.self.inside.indexes c.self.invariant.0 more.aside c.make_ready.new.by_key.tree c.make_ready.new.indexes c.make_ready.ensures.by_key c.make_ready.ensures.same,
      c.self.invariant.1,
      owed_made _ _ _ c.self.inside.by_key c.make_ready.new.by_key c.self.inside.indexes c.make_ready.new.indexes c.make_ready.ensures.keeps c.self.invariant.2 (rw c.owed.ensures.value at c.in_ok-make_ready.ensures.key_room) (rw c.owed.ensures.value at c.in_ok-make_ready.ensures.room),
    ) (
      kept_alike c.self.inside.rows.aside c.self.inside.schema c.self.inside.targets.items c.self.inside.declared.items c.self.inside.rows.tuples c.self.inside.by_key.tree c.self.inside.indexes c.self.invariant.0 c.self.inside.rows.aside c.make_ready.new.by_key.tree c.make_ready.new.indexes c.make_ready.ensures.by_key c.make_ready.ensures.same,
      c.self.invariant.1,
      owed_left 0 0 _ _ _ c.self.inside.by_key c.make_ready.new.by_key c.self.inside.indexes c.make_ready.new.indexes c.make_ready.ensures.keeps c.self.invariant.2 (omega arith) (omega arith) (omega (arith, c.self.invariant.2.key_room, c.make_ready.ensures.key_kept)),
    )

pub returns-clause-owed : goal.returns-clause-owed
returns-clause-owed c =
    let aside = record c.self.inside.rows.aside { owed = c.self.inside.rows.aside.owed + c.args.n } in
    rw (← c.self.view_is)
    (on_ok (λ (rows : RowStore). state rows.aside c.self.inside.schema c.self.inside.targets.items c.self.inside.declared.items rows.tuples c.make_ready.new.by_key.tree c.make_ready.new.indexes) c.owe.result c.owe.new.self (record c.self.inside.rows { aside = aside }) _
    (same_state aside c.self.inside.schema c.self.inside.targets.items c.self.inside.declared.items c.self.inside.rows.tuples c.self.inside.rows.tuples c.self.inside.by_key.tree c.make_ready.new.by_key.tree c.self.inside.indexes c.make_ready.new.indexes refl c.make_ready.ensures.by_key c.make_ready.ensures.same) c.owe.ensures.ok)

pub returns-clause-unchanged : goal.returns-clause-unchanged
returns-clause-unchanged c =
    rw (← c.self.view_is)
    (on_err (λ (rows : RowStore). state rows.aside c.self.inside.schema c.self.inside.targets.items c.self.inside.declared.items rows.tuples c.make_ready.new.by_key.tree c.make_ready.new.indexes) c.owe.result c.owe.new.self c.self.inside.rows _
    (same_state c.self.inside.rows.aside c.self.inside.schema c.self.inside.targets.items c.self.inside.declared.items c.self.inside.rows.tuples c.self.inside.rows.tuples c.self.inside.by_key.tree c.make_ready.new.by_key.tree c.self.inside.indexes c.make_ready.new.indexes refl c.make_ready.ensures.by_key c.make_ready.ensures.same) c.owe.ensures.err)
