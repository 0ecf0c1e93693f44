use Rattle.std.proofs.Common.{◌≡◌, ◌<◌, ◌∙◌, sym, ap, arith, subst, length}
use Rattle.mm_relation.specs.Rows.{row_of}
use Rattle.std.specs.FinMap.{len}
use Rattle.mm_relation.specs.Seen.{state}
use Rattle.mm_relation.specs.State.{IsKept, IsCurrent, linked_keys}
use Rattle.mm_relation.proofs.Keeping.{same_state, can_read, row_read, served, kept_on, current_on, readable_after, few_after, told_placed}
use Rattle.mm_relation.proofs.Serving.{seen_declared}
use Rattle.mm_relation.proofs.Owed.{not_err, owed_after}
use Rattle.mm_relation.proofs.relation.Relation.insert_row.Goals as goal

pub place-requires-clause-read : goal.place-requires-clause-read
place-requires-clause-read g c =
    let same = same_state c.self.inside.rows.aside c.self.inside.schema c.self.inside.targets.items c.self.inside.declared.items c.self.inside.rows.tuples c.make_room.new.rows.tuples c.self.inside.by_key.tree c.make_room.new.by_key.tree c.self.inside.indexes c.make_room.new.indexes
    c.make_room.ensures.rows c.make_room.ensures.by_key c.make_room.ensures.same in
    let keys = linked_keys c.self.inside.targets.items (g.R.Relations.tables c.args.others.now) in
    rw c.as_slice-2.ensures.value
    (can_read c.self.inside.rows.aside c.self.inside.schema c.self.inside.targets.items c.self.inside.declared.items c.make_room.new.rows.tuples c.make_room.new.by_key.tree c.make_room.new.indexes (subst IsKept (sym same) c.self.invariant.0) keys (subst (IsCurrent keys) (sym same) (rw (← c.self.view_is) at c.requires.current)))

pub place-requires-clause-row_read : goal.place-requires-clause-row_read
place-requires-clause-row_read g c =
    let same = same_state c.self.inside.rows.aside c.self.inside.schema c.self.inside.targets.items c.self.inside.declared.items c.self.inside.rows.tuples c.make_room.new.rows.tuples c.self.inside.by_key.tree c.make_room.new.by_key.tree c.self.inside.indexes c.make_room.new.indexes
    c.make_room.ensures.rows c.make_room.ensures.by_key c.make_room.ensures.same in
    let keys = linked_keys c.self.inside.targets.items (g.R.Relations.tables c.args.others.now) in
    rw c.as_slice-2.ensures.value
    (row_read c.self.inside.rows.aside c.self.inside.schema c.self.inside.targets.items c.self.inside.declared.items c.make_room.new.rows.tuples c.make_room.new.by_key.tree c.make_room.new.indexes (subst IsKept (sym same) c.self.invariant.0) keys (row_of c.args.cells.now.items) (rw (← c.self.view_is) at c.requires.readable))

pub place-requires-clause-serve : goal.place-requires-clause-serve
place-requires-clause-serve g c =
    let same = same_state c.self.inside.rows.aside c.self.inside.schema c.self.inside.targets.items c.self.inside.declared.items c.self.inside.rows.tuples c.make_room.new.rows.tuples c.self.inside.by_key.tree c.make_room.new.by_key.tree c.self.inside.indexes c.make_room.new.indexes
    c.make_room.ensures.rows c.make_room.ensures.by_key c.make_room.ensures.same in
    let keys = linked_keys c.self.inside.targets.items (g.R.Relations.tables c.args.others.now) in
    rw c.as_slice-2.ensures.value
    (served c.self.inside.rows.aside c.self.inside.schema c.self.inside.targets.items c.self.inside.declared.items c.make_room.new.rows.tuples c.make_room.new.by_key.tree c.make_room.new.indexes (subst IsKept (sym same) c.self.invariant.0) keys (subst (IsCurrent keys) (sym same) (rw (← c.self.view_is) at c.requires.current)))

pub place-requires-clause-width : goal.place-requires-clause-width
place-requires-clause-width g c =
    let wide : length c.args.cells.now.items ≡ length c.self.inside.targets.items = rw (← c.self.view_is) at c.requires.width in
    omega (arith, wide, c.self.invariant.0.width, c.self.invariant.1, c.make_room.ensures.width)

pub invariant_of-self-2 : goal.invariant_of-self-2
invariant_of-self-2 g c =
    let same = same_state c.self.inside.rows.aside c.self.inside.schema c.self.inside.targets.items c.self.inside.declared.items c.self.inside.rows.tuples c.make_room.new.rows.tuples c.self.inside.by_key.tree c.make_room.new.by_key.tree c.self.inside.indexes c.make_room.new.indexes
    c.make_room.ensures.rows c.make_room.ensures.by_key c.make_room.ensures.same in
    let counted : len c.make_room.new.rows.tuples ≡ len c.self.inside.rows.tuples = ap len c.make_room.ensures.rows in
    let few : len c.make_room.new.rows.tuples < 16777216 = omega (arith, counted, c.len.ensures, c.if-len-from.false) in (
      kept_on c.self.inside.rows.aside c.self.inside.schema c.self.inside.targets.items c.self.inside.declared.items c.make_room.new.rows.tuples c.make_room.new.by_key.tree c.make_room.new.indexes (subst IsKept (sym same) c.self.invariant.0)
          c.place.new.rows.aside c.place.new.rows.tuples c.place.new.by_key.tree c.place.new.indexes c.place.ensures.keyed
          (few_after c.make_room.new.rows.tuples c.place.new.rows.tuples (row_of c.args.cells.now.items) c.place.result c.place.ensures.fresh c.place.ensures.put c.place.ensures.kept few)
          c.place.ensures.declared,
      c.place.ensures.width ∙ c.make_room.ensures.width ∙ c.self.invariant.1,
      owed_after c.make_room.new.rows.aside c.place.new.rows.aside c.place.new.by_key c.place.new.indexes c.place.result c.place.ensures.aside c.place.ensures.kept_aside c.place.ensures.owed,
    )

pub returns-clause-current : goal.returns-clause-current
returns-clause-current g c =
    let same = same_state c.self.inside.rows.aside c.self.inside.schema c.self.inside.targets.items c.self.inside.declared.items c.self.inside.rows.tuples c.make_room.new.rows.tuples c.self.inside.by_key.tree c.make_room.new.by_key.tree c.self.inside.indexes c.make_room.new.indexes
    c.make_room.ensures.rows c.make_room.ensures.by_key c.make_room.ensures.same in
    let keys = linked_keys c.self.inside.targets.items (g.R.Relations.tables c.args.others.now) in
    let current = subst (IsCurrent keys) (sym same) (rw (← c.self.view_is) at c.requires.current) in
    rw (← c.self.view_is)
    (current_on c.self.inside.rows.aside c.self.inside.schema c.self.inside.targets.items c.self.inside.declared.items c.make_room.new.rows.tuples c.make_room.new.by_key.tree c.make_room.new.indexes (subst IsKept (sym same) c.self.invariant.0)
    c.place.new.rows.aside c.place.new.rows.tuples c.place.new.by_key.tree c.place.new.indexes keys
    (readable_after keys (length c.self.inside.targets.items) c.make_room.new.rows.tuples c.place.new.rows.tuples (row_of c.args.cells.now.items) c.place.result c.place.ensures.put c.place.ensures.kept
    current.readable (rw (← c.self.view_is) at c.requires.readable))
    (rw c.as_slice-2.ensures.value at c.place.ensures.serve))

pub returns-clause-told : goal.returns-clause-told
returns-clause-told g c =
    let few : len c.self.inside.rows.tuples < 16777216 = omega (arith, c.len.ensures, c.if-len-from.false) in
    rw (← c.self.view_is) (told_placed (state c.self.inside.rows.aside c.self.inside.schema c.self.inside.targets.items c.self.inside.declared.items c.self.inside.rows.tuples c.self.inside.by_key.tree c.self.inside.indexes) (row_of c.args.cells.now.items).key c.place.result few (rw c.make_room.ensures.rows at c.place.ensures.told))

pub place-requires-clause-owed : goal.place-requires-clause-owed
place-requires-clause-owed g c = rw c.make_room.ensures.aside (not_err c.make_room.result (sym c.if-is_err.ensures.value) c.make_room.ensures.room)

pub invariant_of-self : goal.invariant_of-self
invariant_of-self g c = (
  kept_on c.self.inside.rows.aside c.self.inside.schema c.self.inside.targets.items c.self.inside.declared.items c.self.inside.rows.tuples c.self.inside.by_key.tree c.self.inside.indexes c.self.invariant.0 c.make_room.new.rows.aside c.make_room.new.rows.tuples c.make_room.new.by_key.tree c.make_room.new.indexes
      (rw (c.make_room.ensures.rows, c.make_room.ensures.by_key) c.self.invariant.0.keyed) (rw c.make_room.ensures.rows c.self.invariant.0.few)
      (seen_declared c.self.inside.indexes c.make_room.new.indexes c.make_room.ensures.same),
  c.make_room.ensures.width ∙ c.self.invariant.1,
  rw c.make_room.ensures.aside c.make_room.ensures.owed,
)
