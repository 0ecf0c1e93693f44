use Rattle.std.proofs.Common.{◌≡◌, ◌+◌, ◌∙◌, false, IsSome, sym, ap, subst, arith}
use Rattle.std.specs.FinMap.{get}
use Rattle.mm_relation.specs.Rows.{Aside, has_slot}
use Rattle.mm_relation.proofs.Settling.{slot_hidden, none_dropped, none_passed, dropped_one}
use Rattle.mm_relation.proofs.rows.Rows.clear_slot.Goals as goal

pub drop_hidden-requires : goal.drop_hidden-requires
drop_hidden-requires c =
    let is_in = sym c.has.ensures ∙ c.if-has.true in
    rw (← c.self.view_is) (slot_hidden c.self.inside.hidden c.self.inside.store.tuples (record { number = c.args.slot }) is_in (c.self.invariant.held (record { number = c.args.slot }) is_in))

pub returns-then-has-clause-none : goal.returns-then-has-clause-none
returns-then-has-clause-none c = rw c.drop_hidden.ensures.aside (none_dropped c.args.slot c.args.self.now.aside.hidden c.requires)

pub returns-else-has-clause-none : goal.returns-else-has-clause-none
returns-else-has-clause-none c =
    rw (← c.self.view_is)
    (none_passed c.self.inside.hidden c.self.inside.store.tuples c.args.slot (c.args.slot + 1)
    (λ slot after before. subst (λ n. has_slot c.self.inside.hidden n ≡ false) (omega (arith, after, before)) (sym c.has.ensures ∙ c.if-has.false))
    (rw (← c.self.view_is) at c.requires))

pub returns-then-has-clause-drops : goal.returns-then-has-clause-drops
returns-then-has-clause-drops c =
    let gone = ap (λ (a : Aside). a.hidden) c.drop_hidden.ensures.aside in record {
      tuples = c.drop_hidden.ensures.tuples;
      width = c.drop_hidden.ensures.width;
      aside = c.drop_hidden.ensures.aside ∙ ap (λ h. record c.args.self.now.aside { hidden = h }) (sym gone);
      hidden = λ q held. dropped_one c.args.self.now.aside.hidden (record { number = c.args.slot }) q (subst (λ h. IsSome (get h q)) gone held);
    }
