use Rattle.std.proofs.Common.{◌≡◌, true, false, not, cond, is_some, sym, ap, ◌∙◌}
use Rattle.std.specs.FinMap.{get}
use Rattle.mm_relation.specs.Rows.{outside, has_slot}
use Rattle.mm_relation.proofs.Stored.{held_alike}
use Rattle.mm_relation.proofs.Parted.{is_outside}
use Rattle.mm_relation.proofs.Hiding.{none_hidden}
use Rattle.mm_relation.proofs.rows.Rows.holds.Goals as goal

pub hides-requires : goal.hides-requires
hides-requires c = none_hidden c.self.inside.store.width c.self.inside.store.tuples c.self.inside.store.counts c.self.inside.hidden c.self.inside.hidden_count c.self.inside.owed c.self.invariant

pub returns-then-holds : goal.returns-then-holds
returns-then-holds c =
    let held : is_some (get c.self.inside.store.tuples c.args.r) ≡ true = sym c.holds.ensures ∙ c.if-holds.true in
    rw (← c.self.view_is)
    (ap not c.hides.ensures ∙ ap (λ b. cond b (not (has_slot c.self.inside.hidden c.args.r.number)) false) (sym held) ∙ sym (is_outside c.self.inside.hidden c.self.inside.store.tuples c.args.r) ∙ held_alike (outside c.self.inside.hidden c.self.inside.store.tuples) c.args.r)

pub returns-else-holds : goal.returns-else-holds
returns-else-holds c =
    let absent : is_some (get c.self.inside.store.tuples c.args.r) ≡ false = sym c.holds.ensures ∙ c.if-holds.false in
    rw (← c.self.view_is)
    (c.if-holds.false ∙ ap (λ b. cond b (not (has_slot c.self.inside.hidden c.args.r.number)) false) (sym absent) ∙ sym (is_outside c.self.inside.hidden c.self.inside.store.tuples c.args.r) ∙ held_alike (outside c.self.inside.hidden c.self.inside.store.tuples) c.args.r)
