use Rattle.std.proofs.Common.{◌≡◌, ◌+◌, ◌-◌, ◌∙◌, ap, arith, refl, length}
use Rattle.std.specs.FinMap.{len, insert}
use Rattle.part_raw.proofs.Tuples.{held_tuple, len-insert_fresh, len-remove_held}
use Rattle.mm_relation.specs.State.{IsCurrent, linked_keys}
use Rattle.mm_relation.specs.Seen.{state}
use Rattle.mm_relation.proofs.Keeping.{can_read, row_read, served, kept_on, current_on, readable_with}
use Rattle.mm_relation.proofs.Serving.{seen_declared}
use Rattle.mm_relation.proofs.Owed.{some_hidden}
use Rattle.mm_relation.proofs.relation.Relation.show_row.Goals as goal

pub restore-requires-clause-read : goal.restore-requires-clause-read
restore-requires-clause-read g c =
    rw c.as_slice.ensures.value (can_read c.self.inside.rows.aside c.self.inside.schema c.self.inside.targets.items c.self.inside.declared.items c.self.inside.rows.tuples c.self.inside.by_key.tree c.self.inside.indexes c.self.invariant.0 (linked_keys c.self.inside.targets.items (g.R.Relations.tables c.args.others.now)) (rw (← c.self.view_is) at c.requires.current))

pub restore-requires-clause-row_read : goal.restore-requires-clause-row_read
restore-requires-clause-row_read g c = λ row found.
    rw c.as_slice.ensures.value (row_read c.self.inside.rows.aside c.self.inside.schema c.self.inside.targets.items c.self.inside.declared.items c.self.inside.rows.tuples c.self.inside.by_key.tree c.self.inside.indexes c.self.invariant.0 (linked_keys c.self.inside.targets.items (g.R.Relations.tables c.args.others.now)) row ((rw (← c.self.view_is) at c.requires.readable) row found))

pub restore-requires-clause-serve : goal.restore-requires-clause-serve
restore-requires-clause-serve g c =
    rw c.as_slice.ensures.value (served c.self.inside.rows.aside c.self.inside.schema c.self.inside.targets.items c.self.inside.declared.items c.self.inside.rows.tuples c.self.inside.by_key.tree c.self.inside.indexes c.self.invariant.0 (linked_keys c.self.inside.targets.items (g.R.Relations.tables c.args.others.now)) (rw (← c.self.view_is) at c.requires.current))

pub restore-requires-clause-some : goal.restore-requires-clause-some
restore-requires-clause-some g c =
    let some = some_hidden c.self.inside.rows.aside.hidden c.args.r (rw (← c.self.view_is) at c.requires.hidden) in
    omega (arith, some, c.hidden_are_apart.ensures.owed)

pub forgive-requires : goal.forgive-requires
forgive-requires g c =
    let hidden = rw (← c.self.view_is) at c.requires.hidden in
    let found = held_tuple c.self.inside.rows.aside.hidden c.args.r hidden in
    let fewer = len-remove_held c.self.inside.rows.aside.hidden c.args.r hidden in
    rw (c.restore.ensures.shown found.0 found.1) (omega (arith, fewer, c.hidden_are_apart.ensures.owed))

pub invariant_of-self : goal.invariant_of-self
invariant_of-self g c =
    let hidden = rw (← c.self.view_is) at c.requires.hidden in
    let few = rw (← c.self.view_is) at c.requires.few in
    let found = held_tuple c.self.inside.rows.aside.hidden c.args.r hidden in
    let shown = c.restore.ensures.shown found.0 found.1 in
    let tuples : c.settle.new.rows.tuples ≡ c.restore.new.rows.tuples = c.settle.ensures.tuples ∙ ap (λ s. s.tuples) c.forgive.ensures in
    let aside : c.settle.new.rows.aside ≡ record c.restore.new.rows.aside { owed = c.restore.new.rows.aside.owed - 1 } = c.settle.ensures.aside ∙ ap (λ s. s.aside) c.forgive.ensures in
    let more : len (insert c.self.inside.rows.tuples c.args.r found.0) ≡ len c.self.inside.rows.tuples + 1 = len-insert_fresh c.self.inside.rows.tuples c.args.r found.0 c.restore.ensures.fresh in
    let now : len c.settle.new.rows.tuples ≡ len (insert c.self.inside.rows.tuples c.args.r found.0) = ap len tuples ∙ ap (λ s. len s.tuples) shown in (
      kept_on c.self.inside.rows.aside c.self.inside.schema c.self.inside.targets.items c.self.inside.declared.items c.self.inside.rows.tuples c.self.inside.by_key.tree c.self.inside.indexes c.self.invariant.0
          c.settle.new.rows.aside c.settle.new.rows.tuples c.settle.new.by_key.tree c.settle.new.indexes
          (rw (tuples, c.settle.ensures.by_key) c.restore.ensures.keyed) (omega (arith, now, more, few))
          (seen_declared c.restore.new.indexes c.settle.new.indexes c.settle.ensures.same ∙ c.restore.ensures.declared),
      c.settle.ensures.width ∙ ap (λ s. s.width) c.forgive.ensures ∙ ap (λ s. s.width) shown ∙ c.self.invariant.1,
      rw aside ((rw c.forgive.ensures at c.settle.ensures.owed) c.restore.ensures.owed),
    )

pub returns-clause-current : goal.returns-clause-current
returns-clause-current g c =
    let keys = linked_keys c.self.inside.targets.items (g.R.Relations.tables c.args.others.now) in
    let hidden = rw (← c.self.view_is) at c.requires.hidden in
    let found = held_tuple c.self.inside.rows.aside.hidden c.args.r hidden in
    let current : IsCurrent keys (state c.self.inside.rows.aside c.self.inside.schema c.self.inside.targets.items c.self.inside.declared.items c.self.inside.rows.tuples c.self.inside.by_key.tree c.self.inside.indexes) = rw (← c.self.view_is) at c.requires.current in
    let put : c.restore.new.rows.tuples ≡ insert c.self.inside.rows.tuples c.args.r found.0 = ap (λ s. s.tuples) (c.restore.ensures.shown found.0 found.1) in
    let tuples : c.settle.new.rows.tuples ≡ c.restore.new.rows.tuples = c.settle.ensures.tuples ∙ ap (λ s. s.tuples) c.forgive.ensures in
    rw (← c.self.view_is)
    (current_on c.self.inside.rows.aside c.self.inside.schema c.self.inside.targets.items c.self.inside.declared.items c.self.inside.rows.tuples c.self.inside.by_key.tree c.self.inside.indexes c.self.invariant.0
    c.settle.new.rows.aside c.settle.new.rows.tuples c.settle.new.by_key.tree c.settle.new.indexes keys
    (rw (tuples, put) (readable_with keys (length c.self.inside.targets.items) c.self.inside.rows.tuples c.args.r found.0 current.readable ((rw (← c.self.view_is) at c.requires.readable) found.0 found.1)))
    (rw (tuples, c.settle.ensures.by_key, c.settle.ensures.same) (rw c.as_slice.ensures.value at c.restore.ensures.serve)))

pub returns-clause-shown : goal.returns-clause-shown
returns-clause-shown g c =
    let aside : c.settle.new.rows.aside ≡ record c.restore.new.rows.aside { owed = c.restore.new.rows.aside.owed - 1 } = c.settle.ensures.aside ∙ ap (λ s. s.aside) c.forgive.ensures in
    rw (← c.self.view_is)
    (λ row found. let shown = c.restore.ensures.shown row found in
    record {
      rows = c.settle.ensures.tuples ∙ ap (λ s. s.tuples) c.forgive.ensures ∙ ap (λ s. s.tuples) shown;
      referrers = ap (λ a. a.numbers) aside ∙ ap (λ s. s.aside.numbers) shown;
      keeps = record { schema = refl; targets = refl; declared = refl; counted = ap (λ a. a.counted) aside ∙ ap (λ s. s.aside.counted) shown; hidden = ap (λ a. a.hidden) aside ∙ ap (λ s. s.aside.hidden) shown; owed = ap (λ a. a.owed) aside ∙ ap (λ s. s.aside.owed - 1) shown };
    })
