use Rattle.std.proofs.Common.{◌∙◌}
use Rattle.mm_relation.specs.Rows.{outside}
use Rattle.mm_relation.proofs.Stored.{held_alike, row_under}
use Rattle.mm_relation.proofs.Parted.{outside-held, outside-slot, get-outside}
use Rattle.mm_relation.proofs.rows.Rows.cells.Goals as goal

pub get-requires : goal.get-requires
get-requires c = outside-held c.self.inside.hidden c.self.inside.store.tuples c.args.r (held_alike (outside c.self.inside.hidden c.self.inside.store.tuples) c.args.r ∙ (rw (← c.self.view_is) at c.requires))

pub returns-clause-row : goal.returns-clause-row
returns-clause-row c =
    let seen = held_alike (outside c.self.inside.hidden c.self.inside.store.tuples) c.args.r ∙ (rw (← c.self.view_is) at c.requires) in
    let is_out = outside-slot c.self.inside.hidden c.self.inside.store.tuples c.args.r seen in
    rw (← c.self.view_is) (row_under (outside c.self.inside.hidden c.self.inside.store.tuples) c.args.r c.get.result.now (get-outside c.self.inside.hidden c.self.inside.store.tuples c.args.r is_out ∙ c.get.ensures.tuple))

pub returns-clause-keyed : goal.returns-clause-keyed
returns-clause-keyed c = (c.self.invariant.rows c.args.r c.get.result.now c.get.ensures.tuple).1

pub returns-clause-width : goal.returns-clause-width
returns-clause-width c = rw (← c.self.view_is) ((c.self.invariant.rows c.args.r c.get.result.now c.get.ensures.tuple).0)
