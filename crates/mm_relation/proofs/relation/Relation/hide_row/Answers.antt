use Rattle.std.proofs.Common.{◌≡◌, ◌+◌, ◌∙◌, ap, arith, refl, length}
use Rattle.std.specs.FinMap.{len, remove}
use Rattle.part_raw.proofs.Tuples.{held_tuple, len-remove_held}
use Rattle.mm_relation.specs.State.{tree_list, IsCurrent, linked_keys}
use Rattle.mm_relation.specs.Seen.{state}
use Rattle.mm_relation.proofs.Keeping.{can_read, served, kept_on, current_on, readable_without}
use Rattle.mm_relation.proofs.relation.Relation.hide_row.Goals as goal

pub withdraw-requires-clause-read : goal.withdraw-requires-clause-read
withdraw-requires-clause-read g c =
    rw c.as_slice.ensures.value (can_read c.self.inside.rows.aside c.self.inside.schema c.self.inside.targets.items c.self.inside.declared.items c.self.inside.rows.tuples c.self.inside.by_key.tree c.self.inside.indexes c.self.invariant.0 (linked_keys c.self.inside.targets.items (g.R.Relations.tables c.args.others.now)) (rw (← c.self.view_is) at c.requires.current))

pub withdraw-requires-clause-serve : goal.withdraw-requires-clause-serve
withdraw-requires-clause-serve g c =
    rw c.as_slice.ensures.value (served c.self.inside.rows.aside c.self.inside.schema c.self.inside.targets.items c.self.inside.declared.items c.self.inside.rows.tuples c.self.inside.by_key.tree c.self.inside.indexes c.self.invariant.0 (linked_keys c.self.inside.targets.items (g.R.Relations.tables c.args.others.now)) (rw (← c.self.view_is) at c.requires.current))

pub invariant_of-self : goal.invariant_of-self
invariant_of-self g c =
    let held = rw (← c.self.view_is) at c.requires.held in
    let found = held_tuple c.self.inside.rows.tuples c.args.r held in
    let hid = c.withdraw.ensures.hidden found.0 found.1 in
    let fewer : len (remove c.self.inside.rows.tuples c.args.r) + 1 ≡ len c.self.inside.rows.tuples = len-remove_held c.self.inside.rows.tuples c.args.r held in
    let now : len c.withdraw.new.rows.tuples ≡ len (remove c.self.inside.rows.tuples c.args.r) = ap (λ s. len s.tuples) hid in (
      kept_on c.self.inside.rows.aside c.self.inside.schema c.self.inside.targets.items c.self.inside.declared.items c.self.inside.rows.tuples c.self.inside.by_key.tree c.self.inside.indexes c.self.invariant.0
          c.withdraw.new.rows.aside c.withdraw.new.rows.tuples c.withdraw.new.by_key.tree c.withdraw.new.indexes c.withdraw.ensures.keyed (omega (arith, now, fewer, c.self.invariant.0.few)) c.withdraw.ensures.declared,
      ap (λ s. s.width) hid ∙ c.self.invariant.1,
      c.withdraw.ensures.owed,
    )

pub returns-clause-current : goal.returns-clause-current
returns-clause-current g c =
    let keys = linked_keys c.self.inside.targets.items (g.R.Relations.tables c.args.others.now) in
    let held = rw (← c.self.view_is) at c.requires.held in
    let found = held_tuple c.self.inside.rows.tuples c.args.r held in
    let current : IsCurrent keys (state c.self.inside.rows.aside c.self.inside.schema c.self.inside.targets.items c.self.inside.declared.items c.self.inside.rows.tuples c.self.inside.by_key.tree c.self.inside.indexes) = rw (← c.self.view_is) at c.requires.current in
    let taken : c.withdraw.new.rows.tuples ≡ remove c.self.inside.rows.tuples c.args.r = ap (λ s. s.tuples) (c.withdraw.ensures.hidden found.0 found.1) in
    rw (← c.self.view_is)
    (current_on c.self.inside.rows.aside c.self.inside.schema c.self.inside.targets.items c.self.inside.declared.items c.self.inside.rows.tuples c.self.inside.by_key.tree c.self.inside.indexes c.self.invariant.0
    c.withdraw.new.rows.aside c.withdraw.new.rows.tuples c.withdraw.new.by_key.tree c.withdraw.new.indexes keys
    (rw taken (readable_without keys (length c.self.inside.targets.items) c.self.inside.rows.tuples (tree_list c.self.inside.by_key.tree) c.args.r c.self.invariant.0.keyed held current.readable))
    (rw c.as_slice.ensures.value at c.withdraw.ensures.serve))

pub returns-clause-hidden : goal.returns-clause-hidden
returns-clause-hidden g c =
    rw (← c.self.view_is)
    (λ row found. let hid = c.withdraw.ensures.hidden row found in
    record {
      rows = ap (λ s. s.tuples) hid;
      referrers = ap (λ s. s.aside.numbers) hid;
      keeps = record { schema = refl; targets = refl; declared = refl; counted = ap (λ s. s.aside.counted) hid; hidden = ap (λ s. s.aside.hidden) hid; owed = ap (λ s. s.aside.owed) hid };
    })
