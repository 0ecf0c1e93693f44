use Rattle.std.proofs.Common.{◌≡◌, ◌≤◌, ◌∙◌, IsSome, refl, sym, arith, subst, length}
use Rattle.std.proofs.lemmas.List.Elements.{All-contains}
use Rattle.std.specs.FinMap.{get, len}
use Rattle.mm_relation.specs.State.{tree_list, IsKeyed, IsKept, IsCurrent, linked_keys}
use Rattle.mm_relation.specs.Indexes.{Serve}
use Rattle.mm_relation.proofs.Keeping.{same_state, can_read, served, kept_on, current_on}
use Rattle.mm_relation.proofs.Serving.{seen_declared}
use Rattle.mm_relation.proofs.Setting.{no_more}
use Rattle.mm_relation.proofs.Each.{as_few, can_set, readable_set}
use Rattle.mm_relation.proofs.Room.{rooms_fewer}
use Rattle.mm_relation.proofs.Owed.{kept_alike, owed_changed, owed_left}
use Rattle.mm_relation.proofs.relation.Relation.change_rows.Goals as goal

pub reserve-requires-clause-few : goal.reserve-requires-clause-few
reserve-requires-clause-few g c =
    let held = rw (← c.self.view_is) at c.requires.held in
    let among : length c.args.rs.now ≤ length (tree_list c.self.inside.by_key.tree) =
    no_more c.args.rs.now (tree_list c.self.inside.by_key.tree) c.requires.once
    (λ r h. c.self.invariant.0.keyed.lists.listed r (All-contains (λ q. IsSome (get c.self.inside.rows.tuples q)) c.args.rs.now r held h)) in
    let count : length (tree_list c.self.inside.by_key.tree) ≡ len c.self.inside.rows.tuples = c.self.invariant.0.keyed.lists.count in
    omega (arith, among, count, c.self.invariant.0.few, c.owed-owed.ensures.few)

pub change_all-requires-clause-read : goal.change_all-requires-clause-read
change_all-requires-clause-read g c =
    let keys = linked_keys c.self.inside.targets.items (g.R.Relations.tables c.args.others.now) in
    let same = same_state c.self.inside.rows.aside c.self.inside.schema c.self.inside.targets.items c.self.inside.declared.items c.self.inside.rows.tuples c.self.inside.rows.tuples c.self.inside.by_key.tree c.self.inside.by_key.tree c.self.inside.indexes c.reserve.new.indexes
    refl refl c.reserve.ensures.same in
    let kept = subst IsKept (sym same) c.self.invariant.0 in
    let current = subst (IsCurrent keys) (sym same) (rw (← c.self.view_is) at c.requires.current) in
    rw c.as_slice.ensures.value (can_read c.self.inside.rows.aside c.self.inside.schema c.self.inside.targets.items c.self.inside.declared.items c.self.inside.rows.tuples c.self.inside.by_key.tree c.reserve.new.indexes kept keys current)

pub change_all-requires-clause-served : goal.change_all-requires-clause-served
change_all-requires-clause-served g c =
    let keys = linked_keys c.self.inside.targets.items (g.R.Relations.tables c.args.others.now) in
    let same = same_state c.self.inside.rows.aside c.self.inside.schema c.self.inside.targets.items c.self.inside.declared.items c.self.inside.rows.tuples c.self.inside.rows.tuples c.self.inside.by_key.tree c.self.inside.by_key.tree c.self.inside.indexes c.reserve.new.indexes
    refl refl c.reserve.ensures.same in
    let kept = subst IsKept (sym same) c.self.invariant.0 in
    let current = subst (IsCurrent keys) (sym same) (rw (← c.self.view_is) at c.requires.current) in
    rw c.as_slice.ensures.value
    (tree_list c.self.inside.by_key.tree, c.self.invariant.0.keyed, served c.self.inside.rows.aside c.self.inside.schema c.self.inside.targets.items c.self.inside.declared.items c.self.inside.rows.tuples c.self.inside.by_key.tree c.reserve.new.indexes kept keys current)

pub invariant_of-self-2 : goal.invariant_of-self-2
invariant_of-self-2 g c =
    let keys = linked_keys c.self.inside.targets.items (g.R.Relations.tables c.args.others.now) in
    let same = same_state c.self.inside.rows.aside c.self.inside.schema c.self.inside.targets.items c.self.inside.declared.items c.self.inside.rows.tuples c.self.inside.rows.tuples c.self.inside.by_key.tree c.self.inside.by_key.tree c.self.inside.indexes c.reserve.new.indexes
    refl refl c.reserve.ensures.same in
    let kept = subst IsKept (sym same) c.self.invariant.0 in
    let current = subst (IsCurrent keys) (sym same) (rw (← c.self.view_is) at c.requires.current) in
    let after : IsKeyed c.change_all.new.rows.tuples (tree_list c.self.inside.by_key.tree) × Serve keys c.change_all.new.rows.tuples (tree_list c.self.inside.by_key.tree) c.settle_indexes.new.indexes =
    rw c.settle_indexes.ensures.same
    ((rw c.as_slice.ensures.value at c.change_all.ensures.served) (tree_list c.self.inside.by_key.tree) c.self.invariant.0.keyed
    (served c.self.inside.rows.aside c.self.inside.schema c.self.inside.targets.items c.self.inside.declared.items c.self.inside.rows.tuples c.self.inside.by_key.tree c.reserve.new.indexes kept keys current)) in (
      kept_on c.self.inside.rows.aside c.self.inside.schema c.self.inside.targets.items c.self.inside.declared.items c.self.inside.rows.tuples c.self.inside.by_key.tree c.reserve.new.indexes kept
          c.change_all.new.rows.aside c.change_all.new.rows.tuples c.self.inside.by_key.tree c.settle_indexes.new.indexes after.0
          (as_few c.self.inside.rows.tuples c.change_all.new.rows.tuples (tree_list c.self.inside.by_key.tree) c.self.invariant.0.keyed after.0 c.self.invariant.0.few)
          (seen_declared c.change_all.new.indexes c.settle_indexes.new.indexes c.settle_indexes.ensures.same ∙ c.change_all.ensures.declared),
      c.change_all.ensures.width ∙ c.self.invariant.1,
      c.settle_indexes.ensures.owed c.self.inside.by_key
          (rw c.change_all.ensures.aside
          (owed_changed _ _ c.self.inside.rows.aside.owed (length c.args.rs.now) c.self.inside.rows.aside.hidden c.self.inside.by_key c.self.inside.indexes c.reserve.new.indexes c.change_all.new.indexes
          c.reserve.ensures.keeps (omega (arith, c.owed-owed.ensures.value)) (omega (arith, c.owed-owed.ensures.value)) c.in_ok-reserve.ensures.reserved c.change_all.ensures.keeps c.self.invariant.2)),
    )

pub returns-clause-current : goal.returns-clause-current
returns-clause-current g c =
    let keys = linked_keys c.self.inside.targets.items (g.R.Relations.tables c.args.others.now) in
    let same = same_state c.self.inside.rows.aside c.self.inside.schema c.self.inside.targets.items c.self.inside.declared.items c.self.inside.rows.tuples c.self.inside.rows.tuples c.self.inside.by_key.tree c.self.inside.by_key.tree c.self.inside.indexes c.reserve.new.indexes
    refl refl c.reserve.ensures.same in
    let kept = subst IsKept (sym same) c.self.invariant.0 in
    let current = subst (IsCurrent keys) (sym same) (rw (← c.self.view_is) at c.requires.current) in
    let after : IsKeyed c.change_all.new.rows.tuples (tree_list c.self.inside.by_key.tree) × Serve keys c.change_all.new.rows.tuples (tree_list c.self.inside.by_key.tree) c.settle_indexes.new.indexes =
    rw c.settle_indexes.ensures.same
    ((rw c.as_slice.ensures.value at c.change_all.ensures.served) (tree_list c.self.inside.by_key.tree) c.self.invariant.0.keyed
    (served c.self.inside.rows.aside c.self.inside.schema c.self.inside.targets.items c.self.inside.declared.items c.self.inside.rows.tuples c.self.inside.by_key.tree c.reserve.new.indexes kept keys current)) in
    let can = can_set keys (length c.self.inside.targets.items) c.self.inside.rows.tuples c.args.sets.now current.readable
    (rw (← c.self.view_is) at c.requires.columns) c.requires.not_the_key (rw (← c.self.view_is) at c.requires.readable) in
    rw (← c.self.view_is)
    (current_on c.self.inside.rows.aside c.self.inside.schema c.self.inside.targets.items c.self.inside.declared.items c.self.inside.rows.tuples c.self.inside.by_key.tree c.reserve.new.indexes kept
    c.change_all.new.rows.aside c.change_all.new.rows.tuples c.self.inside.by_key.tree c.settle_indexes.new.indexes keys
    (readable_set keys (length c.self.inside.targets.items) c.self.inside.rows.tuples c.args.sets.now current.readable can c.change_all.new.rows.tuples c.args.rs.now c.change_all.ensures.rows)
    after.1)

pub change_all-requires-clause-room : goal.change_all-requires-clause-room
change_all-requires-clause-room g c = rooms_fewer _ _ (length c.args.rs.now) 1 c.reserve.new.indexes (omega arith) (omega arith) c.in_ok-reserve.ensures.reserved

pub invariant_of-self : goal.invariant_of-self
invariant_of-self g c = (
  kept_alike c.self.inside.rows.aside c.self.inside.schema c.self.inside.targets.items c.self.inside.declared.items c.self.inside.rows.tuples c.self.inside.by_key.tree c.self.inside.indexes c.self.invariant.0 c.self.inside.rows.aside c.self.inside.by_key.tree c.reserve.new.indexes refl c.reserve.ensures.same,
  c.self.invariant.1,
  owed_left 0 0 _ _ _ c.self.inside.by_key c.self.inside.by_key c.self.inside.indexes c.reserve.new.indexes c.reserve.ensures.keeps c.self.invariant.2 (omega arith) (omega arith) c.self.invariant.2.key_room,
)
