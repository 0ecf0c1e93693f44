use Rattle.std.proofs.Common.{sym, ap, ◌∙◌, subst, IsSome}
use Rattle.std.proofs.lemmas.Option.{same_Some}
use Rattle.mm_relation.specs.Rows.{row_of, rows_of, with_shown}
use Rattle.mm_relation.proofs.Stored.{tuple_under, row_under}
use Rattle.mm_relation.proofs.Hiding.{hidden_slot, hidden_row, hidden_covered, some_hidden, parted_shown, rows_shown}
use Rattle.mm_relation.proofs.rows.Rows.show.Goals as goal

pub remove-requires : goal.remove-requires
remove-requires c =
    let is_in = hidden_slot c.self.inside.hidden c.self.inside.store.tuples c.args.r (rw (← c.self.view_is) at c.requires) in
    hidden_covered c.self.inside.store.width c.self.inside.store.tuples c.self.inside.store.counts c.self.inside.hidden c.self.inside.hidden_count c.self.inside.owed c.self.invariant c.args.r is_in

pub invariant_of-self : goal.invariant_of-self
invariant_of-self c =
    let is_in = hidden_slot c.self.inside.hidden c.self.inside.store.tuples c.args.r (rw (← c.self.view_is) at c.requires) in
    parted_shown c.self.inside.store.width c.self.inside.store.tuples c.self.inside.store.counts c.self.inside.hidden c.self.inside.hidden_count c.self.inside.owed c.self.invariant c.args.r is_in
    c.remove.new.self c.remove.ensures.changes c.remove.ensures.covers

pub returns : goal.returns
returns c =
    let held = rw (← c.self.view_is) at c.requires in
    let is_in = hidden_slot c.self.inside.hidden c.self.inside.store.tuples c.args.r held in
    let same = hidden_row c.self.inside.hidden c.self.inside.store.tuples c.args.r is_in in
    let found = tuple_under c.self.inside.store.tuples c.args.r (subst IsSome same held) in
    rw (← c.self.view_is)
    (λ row at.
    rows_shown c.self.inside.store c.self.inside.hidden c.self.inside.owed c.args.r found.0 found.1 c.remove.new.self c.remove.ensures.changes (c.self.invariant.unnamed c.args.r is_in)
    ∙ ap (with_shown (rows_of c.self.inside.store c.self.inside.hidden c.self.inside.owed) c.args.r)
    (same_Some (row_of found.0) row (sym (row_under c.self.inside.store.tuples c.args.r found.0 found.1) ∙ sym same ∙ at)))

pub overflow_sub-self : goal.overflow_sub-self
overflow_sub-self c = some_hidden c.self.inside.store.width c.self.inside.store.tuples c.self.inside.store.counts c.self.inside.hidden c.self.inside.hidden_count c.self.inside.owed c.self.invariant c.args.r (hidden_slot c.self.inside.hidden c.self.inside.store.tuples c.args.r (rw (← c.self.view_is) at c.requires))
