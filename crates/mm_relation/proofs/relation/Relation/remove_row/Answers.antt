use Rattle.std.proofs.Common.{◌≡◌, ◌+◌, ◌∙◌, ap, arith, length}
use Rattle.std.specs.FinMap.{len, remove}
use Rattle.part_raw.proofs.Tuples.{len-remove_held}
use Rattle.mm_relation.specs.State.{tree_list, IsCurrent, linked_keys}
use Rattle.mm_relation.specs.Seen.{state}
use Rattle.mm_relation.proofs.Keeping.{can_read, served, kept_on, current_on, readable_without}
use Rattle.mm_relation.proofs.relation.Relation.remove_row.Goals as goal

pub displace-requires-clause-read : goal.displace-requires-clause-read
displace-requires-clause-read g c =
    rw c.as_slice.ensures.value
    (can_read c.self.inside.rows.aside c.self.inside.schema c.self.inside.targets.items c.self.inside.declared.items c.self.inside.rows.tuples c.self.inside.by_key.tree c.self.inside.indexes c.self.invariant.0
    (linked_keys c.self.inside.targets.items (g.R.Relations.tables c.args.others.now))
    (rw (← c.self.view_is) at c.requires.current))

pub displace-requires-clause-serve : goal.displace-requires-clause-serve
displace-requires-clause-serve g c =
    rw c.as_slice.ensures.value
    (served c.self.inside.rows.aside c.self.inside.schema c.self.inside.targets.items c.self.inside.declared.items c.self.inside.rows.tuples c.self.inside.by_key.tree c.self.inside.indexes c.self.invariant.0
    (linked_keys c.self.inside.targets.items (g.R.Relations.tables c.args.others.now))
    (rw (← c.self.view_is) at c.requires.current))

pub invariant_of-self : goal.invariant_of-self
invariant_of-self g c =
    let held = rw (← c.self.view_is) at c.requires.held in
    let fewer : len (remove c.self.inside.rows.tuples c.args.r) + 1 ≡ len c.self.inside.rows.tuples = len-remove_held c.self.inside.rows.tuples c.args.r held in
    let now : len c.displace.new.rows.tuples ≡ len (remove c.self.inside.rows.tuples c.args.r) = ap len c.displace.ensures.taken in (
      kept_on c.self.inside.rows.aside c.self.inside.schema c.self.inside.targets.items c.self.inside.declared.items c.self.inside.rows.tuples c.self.inside.by_key.tree c.self.inside.indexes c.self.invariant.0
          c.displace.new.rows.aside c.displace.new.rows.tuples c.displace.new.by_key.tree c.displace.new.indexes c.displace.ensures.keyed (omega (arith, now, fewer, c.self.invariant.0.few)) c.displace.ensures.declared,
      c.displace.ensures.width ∙ c.self.invariant.1,
      rw c.displace.ensures.aside (c.displace.ensures.owed c.self.invariant.2),
    )

pub returns-clause-current : goal.returns-clause-current
returns-clause-current g c =
    let keys = linked_keys c.self.inside.targets.items (g.R.Relations.tables c.args.others.now) in
    let current : IsCurrent keys (state c.self.inside.rows.aside c.self.inside.schema c.self.inside.targets.items c.self.inside.declared.items c.self.inside.rows.tuples c.self.inside.by_key.tree c.self.inside.indexes) =
    rw (← c.self.view_is) at c.requires.current in
    rw (← c.self.view_is)
    (current_on c.self.inside.rows.aside c.self.inside.schema c.self.inside.targets.items c.self.inside.declared.items c.self.inside.rows.tuples c.self.inside.by_key.tree c.self.inside.indexes c.self.invariant.0
    c.displace.new.rows.aside c.displace.new.rows.tuples c.displace.new.by_key.tree c.displace.new.indexes keys
    (rw c.displace.ensures.taken (readable_without keys (length c.self.inside.targets.items) c.self.inside.rows.tuples (tree_list c.self.inside.by_key.tree) c.args.r c.self.invariant.0.keyed (rw (← c.self.view_is) at c.requires.held) current.readable))
    (rw c.as_slice.ensures.value at c.displace.ensures.serve))
