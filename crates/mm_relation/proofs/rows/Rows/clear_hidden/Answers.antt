use Rattle.std.proofs.Common.{◌*◌, ◌≤◌, ◌∙◌, ap, arith}
use Rattle.mm_relation.specs.Rows.{aside_of}
use Rattle.mm_relation.proofs.Settling.{all_dropped, none_hidden}
use Rattle.mm_relation.proofs.rows.Rows.clear_hidden.Goals as goal

pub returns-then-self-eq0-clause-aside : goal.returns-then-self-eq0-clause-aside
returns-then-self-eq0-clause-aside c =
    let none = none_hidden c.self.inside.hidden c.self.inside.store.tuples (omega (arith, c.if-self-eq0.true, c.self.invariant.count)) in
    rw (← c.self.view_is) (ap (λ hidden. record (aside_of c.self.inside.store c.self.inside.hidden c.self.inside.owed) { hidden = hidden }) none)

pub returns-clause-aside : goal.returns-clause-aside
returns-clause-aside c =
    let l = c.loop-place in
    let over : c.hidden_words-start.result.1 * 64 ≤ l.place * 64 = omega (arith, c.loop-place-test.false) in
    let none = all_dropped l.self.aside.hidden (c.hidden_words-start.result.1 * 64) (λ r held. omega (arith, over, l.invariant.none r held)) (λ r held. c.hidden_words-start.ensures.last r (l.invariant.drops.hidden r held)) in
    l.invariant.drops.aside ∙ ap (λ hidden. record c.args.self.now.aside { hidden = hidden }) none
