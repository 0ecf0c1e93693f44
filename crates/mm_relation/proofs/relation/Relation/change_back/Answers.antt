use Rattle.std.proofs.Common.{◌≡◌, ◌-◌, ◌∙◌, ap, arith, refl, length, ◌∷◌, []}
use Rattle.std.specs.FinMap.{insert}
use Rattle.part_raw.proofs.Tuples.{held_tuple}
use Rattle.mm_relation.specs.State.{tree_list, IsKeyed, IsCurrent, linked_keys}
use Rattle.mm_relation.specs.Indexes.{Serve}
use Rattle.mm_relation.specs.Settings.{CellsSet, with_cells}
use Rattle.mm_relation.specs.Rows.{Aside}
use Rattle.mm_relation.specs.Seen.{state}
use Rattle.mm_relation.proofs.Keeping.{can_read, served, kept_on, current_on}
use Rattle.mm_relation.proofs.Serving.{seen_declared}
use Rattle.mm_relation.proofs.Setting.{one_set, none_set}
use Rattle.mm_relation.proofs.Each.{as_few, can_set, readable_set}
use Rattle.mm_relation.proofs.Room.{rooms_fewer}
use Rattle.mm_relation.proofs.Owed.{owed_left}
use Rattle.mm_relation.proofs.relation.Relation.change_back.Goals as goal

pub change_last-requires-clause-read : goal.change_last-requires-clause-read
change_last-requires-clause-read g c =
    rw c.as_slice.ensures.value (can_read c.self.inside.rows.aside c.self.inside.schema c.self.inside.targets.items c.self.inside.declared.items c.self.inside.rows.tuples c.self.inside.by_key.tree c.self.inside.indexes c.self.invariant.0 (linked_keys c.self.inside.targets.items (g.R.Relations.tables c.args.others.now)) (rw (← c.self.view_is) at c.requires.current))

pub change_last-requires-clause-room : goal.change_last-requires-clause-room
change_last-requires-clause-room g c =
    let owed = rw (← c.self.view_is) at c.requires.owed in
    rooms_fewer _ _ 1 1 c.self.inside.indexes (omega (arith, owed)) (omega (arith, owed)) c.self.invariant.2.room

pub change_last-requires-clause-settable : goal.change_last-requires-clause-settable
change_last-requires-clause-settable g c =
    let keys = linked_keys c.self.inside.targets.items (g.R.Relations.tables c.args.others.now) in
    let current : IsCurrent keys (state c.self.inside.rows.aside c.self.inside.schema c.self.inside.targets.items c.self.inside.declared.items c.self.inside.rows.tuples c.self.inside.by_key.tree c.self.inside.indexes) = rw (← c.self.view_is) at c.requires.current in
    rw c.as_slice.ensures.value
    (can_set keys (length c.self.inside.targets.items) c.self.inside.rows.tuples c.args.sets.now current.readable
    (rw (← c.self.view_is) at c.requires.columns) c.requires.not_the_key (rw (← c.self.view_is) at c.requires.readable))

pub change_last-requires-clause-served : goal.change_last-requires-clause-served
change_last-requires-clause-served g c =
    rw c.as_slice.ensures.value
    (tree_list c.self.inside.by_key.tree, c.self.invariant.0.keyed, served c.self.inside.rows.aside c.self.inside.schema c.self.inside.targets.items c.self.inside.declared.items c.self.inside.rows.tuples c.self.inside.by_key.tree c.self.inside.indexes c.self.invariant.0 (linked_keys c.self.inside.targets.items (g.R.Relations.tables c.args.others.now)) (rw (← c.self.view_is) at c.requires.current))

pub forgive-requires : goal.forgive-requires
forgive-requires g c =
    let owed = rw (← c.self.view_is) at c.requires.owed in
    rw c.change_last.ensures.aside (omega (arith, owed))

pub invariant_of-self : goal.invariant_of-self
invariant_of-self g c =
    let keys = linked_keys c.self.inside.targets.items (g.R.Relations.tables c.args.others.now) in
    let owed = rw (← c.self.view_is) at c.requires.owed in
    let current : IsCurrent keys (state c.self.inside.rows.aside c.self.inside.schema c.self.inside.targets.items c.self.inside.declared.items c.self.inside.rows.tuples c.self.inside.by_key.tree c.self.inside.indexes) = rw (← c.self.view_is) at c.requires.current in
    let after : IsKeyed c.change_last.new.rows.tuples (tree_list c.self.inside.by_key.tree) × Serve keys c.change_last.new.rows.tuples (tree_list c.self.inside.by_key.tree) c.change_last.new.indexes =
    (rw c.as_slice.ensures.value at c.change_last.ensures.served) (tree_list c.self.inside.by_key.tree) c.self.invariant.0.keyed
    (served c.self.inside.rows.aside c.self.inside.schema c.self.inside.targets.items c.self.inside.declared.items c.self.inside.rows.tuples c.self.inside.by_key.tree c.self.inside.indexes c.self.invariant.0 keys current) in
    let tuples : c.settle.new.rows.tuples ≡ c.change_last.new.rows.tuples = c.settle.ensures.tuples ∙ ap (λ s. s.tuples) c.forgive.ensures in
    let aside : c.settle.new.rows.aside ≡ record c.change_last.new.rows.aside { owed = c.change_last.new.rows.aside.owed - 1 } = c.settle.ensures.aside ∙ ap (λ s. s.aside) c.forgive.ensures in (
      kept_on c.self.inside.rows.aside c.self.inside.schema c.self.inside.targets.items c.self.inside.declared.items c.self.inside.rows.tuples c.self.inside.by_key.tree c.self.inside.indexes c.self.invariant.0
          c.settle.new.rows.aside c.settle.new.rows.tuples c.settle.new.by_key.tree c.settle.new.indexes
          (rw (tuples, c.settle.ensures.by_key) after.0) (rw tuples (as_few c.self.inside.rows.tuples c.change_last.new.rows.tuples (tree_list c.self.inside.by_key.tree) c.self.invariant.0.keyed after.0 c.self.invariant.0.few))
          (seen_declared c.change_last.new.indexes c.settle.new.indexes c.settle.ensures.same ∙ c.change_last.ensures.declared),
      c.settle.ensures.width ∙ ap (λ s. s.width) c.forgive.ensures ∙ c.change_last.ensures.width ∙ c.self.invariant.1,
      rw (aside, c.change_last.ensures.aside) ((rw (c.forgive.ensures, c.change_last.ensures.aside) at c.settle.ensures.owed)
          (owed_left 1 0 c.self.inside.rows.aside.owed (c.self.inside.rows.aside.owed - 1) c.self.inside.rows.aside.hidden c.self.inside.by_key c.self.inside.by_key c.self.inside.indexes c.change_last.new.indexes c.change_last.ensures.keeps c.self.invariant.2
          (omega (arith, owed)) (omega arith) (omega (arith, c.self.invariant.2.key_room)))),
    )

pub returns-clause-changed : goal.returns-clause-changed
returns-clause-changed g c =
    let held = rw (← c.self.view_is) at c.requires.held in
    let found = held_tuple c.self.inside.rows.tuples c.args.r held in
    let tuples : c.settle.new.rows.tuples ≡ insert c.self.inside.rows.tuples c.args.r (with_cells c.args.sets.now found.0) = c.settle.ensures.tuples ∙ ap (λ s. s.tuples) c.forgive.ensures ∙ c.change_last.ensures.row found.0 found.1 in
    let aside : c.settle.new.rows.aside ≡ record c.self.inside.rows.aside { owed = c.self.inside.rows.aside.owed - 1 } = c.settle.ensures.aside ∙ ap (λ s. s.aside) c.forgive.ensures ∙ ap (λ (a : Aside). record a { owed = a.owed - 1 }) c.change_last.ensures.aside in
    rw (← c.self.view_is, tuples, aside) (record {
      rows = one_set c.self.inside.rows.tuples c.self.inside.rows.tuples [] c.args.sets.now c.args.r found.0 (none_set c.self.inside.rows.tuples c.args.sets.now) (λ h. absurd (omega (arith, h.1))) found.1;
      referrers = refl;
      keeps = record { schema = refl; targets = refl; declared = refl; counted = refl; hidden = refl; owed = refl };
    })

pub returns-clause-current : goal.returns-clause-current
returns-clause-current g c =
    let keys = linked_keys c.self.inside.targets.items (g.R.Relations.tables c.args.others.now) in
    let current : IsCurrent keys (state c.self.inside.rows.aside c.self.inside.schema c.self.inside.targets.items c.self.inside.declared.items c.self.inside.rows.tuples c.self.inside.by_key.tree c.self.inside.indexes) = rw (← c.self.view_is) at c.requires.current in
    let after : IsKeyed c.change_last.new.rows.tuples (tree_list c.self.inside.by_key.tree) × Serve keys c.change_last.new.rows.tuples (tree_list c.self.inside.by_key.tree) c.change_last.new.indexes =
    (rw c.as_slice.ensures.value at c.change_last.ensures.served) (tree_list c.self.inside.by_key.tree) c.self.invariant.0.keyed
    (served c.self.inside.rows.aside c.self.inside.schema c.self.inside.targets.items c.self.inside.declared.items c.self.inside.rows.tuples c.self.inside.by_key.tree c.self.inside.indexes c.self.invariant.0 keys current) in
    let held = rw (← c.self.view_is) at c.requires.held in
    let found = held_tuple c.self.inside.rows.tuples c.args.r held in
    let tuples : c.settle.new.rows.tuples ≡ c.change_last.new.rows.tuples = c.settle.ensures.tuples ∙ ap (λ s. s.tuples) c.forgive.ensures in
    let can = can_set keys (length c.self.inside.targets.items) c.self.inside.rows.tuples c.args.sets.now current.readable
    (rw (← c.self.view_is) at c.requires.columns) c.requires.not_the_key (rw (← c.self.view_is) at c.requires.readable) in
    let set : CellsSet c.self.inside.rows.tuples c.change_last.new.rows.tuples (c.args.r ∷ []) c.args.sets.now = rw (c.change_last.ensures.row found.0 found.1)
    (one_set c.self.inside.rows.tuples c.self.inside.rows.tuples [] c.args.sets.now c.args.r found.0 (none_set c.self.inside.rows.tuples c.args.sets.now) (λ h. absurd (omega (arith, h.1))) found.1) in
    rw (← c.self.view_is)
    (current_on c.self.inside.rows.aside c.self.inside.schema c.self.inside.targets.items c.self.inside.declared.items c.self.inside.rows.tuples c.self.inside.by_key.tree c.self.inside.indexes c.self.invariant.0
    c.settle.new.rows.aside c.settle.new.rows.tuples c.settle.new.by_key.tree c.settle.new.indexes keys
    (rw tuples (readable_set keys (length c.self.inside.targets.items) c.self.inside.rows.tuples c.args.sets.now current.readable can c.change_last.new.rows.tuples (c.args.r ∷ []) set))
    (rw (tuples, c.settle.ensures.by_key, c.settle.ensures.same) after.1))
