use Rattle.std.proofs.Common.{◌≡◌, ◌∙◌, false, is_some, sym, ap}
use Rattle.mm_relation.specs.Rows.{outside, has_slot}
use Rattle.mm_relation.proofs.Stored.{held_alike}
use Rattle.mm_relation.proofs.Parted.{get-outside}
use Rattle.mm_relation.proofs.Hiding.{none_hidden}
use Rattle.mm_relation.proofs.rows.Rows.fills.Goals as goal

pub returns-then-self-eq0 : goal.returns-then-self-eq0
returns-then-self-eq0 c full r same =
    let inside = c.self.inside in
    let shown : has_slot inside.hidden r.number ≡ false =
    none_hidden inside.store.width inside.store.tuples inside.store.counts inside.hidden inside.hidden_count inside.owed c.self.invariant c.if-self-eq0.true r.number in
    rw (← c.self.view_is)
    (sym (held_alike (outside inside.hidden inside.store.tuples) r) ∙ ap is_some (get-outside inside.hidden inside.store.tuples r shown) ∙ c.fills.ensures full r same)
