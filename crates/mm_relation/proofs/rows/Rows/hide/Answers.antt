use Rattle.std.proofs.Common.{sym, ap, ◌∙◌, arith, subst, IsSome}
use Rattle.std.proofs.lemmas.Option.{same_Some}
use Rattle.part_raw.proofs.Mapped.{len-mapped}
use Rattle.mm_relation.specs.Rows.{row_of, rows_of, among, with_hidden}
use Rattle.mm_relation.proofs.Stored.{tuple_under, row_under}
use Rattle.mm_relation.proofs.Hiding.{seen_slot, seen_held, seen_row, none_hidden, number_none, parted_hidden, rows_hidden}
use Rattle.mm_relation.proofs.rows.Rows.hide.Goals as goal

pub put_slot-requires-clause-none : goal.put_slot-requires-clause-none
put_slot-requires-clause-none c = none_hidden c.self.inside.store.width c.self.inside.store.tuples c.self.inside.store.counts c.self.inside.hidden c.self.inside.hidden_count c.self.inside.owed c.self.invariant

pub put_slot-requires-clause-room : goal.put_slot-requires-clause-room
put_slot-requires-clause-room c =
    let held = rw (← c.self.view_is) at c.requires.held in
    let more = rw (← c.self.view_is) at c.requires.owed in
    c.self.invariant.covered (omega (arith, more)) c.args.r (seen_held c.self.inside.hidden c.self.inside.store.tuples c.args.r held)

pub invariant_of-self : goal.invariant_of-self
invariant_of-self c =
    let held = rw (← c.self.view_is) at c.requires.held in
    let more = rw (← c.self.view_is) at c.requires.owed in
    let is_out = seen_slot c.self.inside.hidden c.self.inside.store.tuples c.args.r held in
    let there = seen_held c.self.inside.hidden c.self.inside.store.tuples c.args.r held in
    parted_hidden c.self.inside.store.width c.self.inside.store.tuples c.self.inside.store.counts c.self.inside.hidden c.self.inside.hidden_count c.self.inside.owed c.self.invariant c.args.r is_out there
    c.put_slot.new.hidden c.put_slot.ensures.changes c.put_slot.ensures.covers
    (omega (arith, more, c.self.invariant.count, len-mapped (λ r. row_of) (among c.self.inside.hidden c.self.inside.store.tuples)))
    (number_none c.self.inside.store.width c.self.inside.store.tuples c.self.inside.store.counts c.self.inside.hidden c.self.inside.hidden_count c.self.inside.owed c.self.invariant c.args.r is_out there (rw (← c.self.view_is) at c.requires.unnamed))

pub returns : goal.returns
returns c =
    let held = rw (← c.self.view_is) at c.requires.held in
    let is_out = seen_slot c.self.inside.hidden c.self.inside.store.tuples c.args.r held in
    let same = seen_row c.self.inside.hidden c.self.inside.store.tuples c.args.r is_out in
    let found = tuple_under c.self.inside.store.tuples c.args.r (subst IsSome same held) in
    rw (← c.self.view_is)
    (λ row at.
    rows_hidden c.self.inside.store c.self.inside.hidden c.self.inside.owed c.args.r found.0 found.1 c.put_slot.new.hidden c.put_slot.ensures.changes
    ∙ ap (with_hidden (rows_of c.self.inside.store c.self.inside.hidden c.self.inside.owed) c.args.r)
    (same_Some (row_of found.0) row (sym (row_under c.self.inside.store.tuples c.args.r found.0 found.1) ∙ sym same ∙ at)))
