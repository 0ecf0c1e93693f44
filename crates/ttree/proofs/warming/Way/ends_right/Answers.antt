use Rattle.std.proofs.Common.{◌∙◌, All, List, Ordering, refl, sym, ap, subst, arith}
use Rattle.part_raw.specs.declared.tuple_ref.TupleRef.{TupleRef}
use Rattle.ttree_node.specs.Tree.{whole, items_of}
use Rattle.ttree_node.specs.Look.{position}
use Rattle.ttree.specs.Searching.{taken}
use Rattle.ttree.specs.declared.asking.Seek.TheVariants.{First}
use Rattle.ttree.proofs.Descent.{All-here}
use Rattle.ttree.proofs.Neighbours.{gap_at}
use Rattle.ttree.proofs.warming.Way.ends_right.Goals as goal

pub ask-requires-clause-may_ask : goal.ask-requires-clause-may_ask
ask-requires-clause-may_ask g c =
    let CanPlace : TupleRef → Type 0 = g.P.Probe.can_place c.args.probe.now in
    let z = position c.args.self.now.last in
    let held : All CanPlace (items_of z.here) = All-here g.row.MAX (whole z) z refl CanPlace c.requires.placed in
    let here : All CanPlace c.items-items.result.now = subst (λ (items : List TupleRef). All CanPlace items) (sym c.items-items.ensures) held in
    let found = c.in-Some-Some.ensures.lookup in
    subst CanPlace (sym found.1) (here c.in-Some.before c.in-Some-Some.below.now found.3.0)

pub ask-requires-2-clause-may_ask : goal.ask-requires-2-clause-may_ask
ask-requires-2-clause-may_ask g c =
    let CanPlace : TupleRef → Type 0 = g.P.Probe.can_place c.args.probe.now in
    let z = position c.args.self.now.last in
    let held : All CanPlace (items_of z.here) = All-here g.row.MAX (whole z) z refl CanPlace c.requires.placed in
    let here : All CanPlace c.items-items.result.now = subst (λ (items : List TupleRef). All CanPlace items) (sym c.items-items.ensures) held in
    let found = c.in-Some-Some.ensures'.lookup in
    c.ask.ensures.probe.only.may_ask _ (subst CanPlace (sym found.1) (here c.args.self.now.high c.in-Some-Some.first.now found.3.0))

pub returns-clause-gap : goal.returns-clause-gap
returns-clause-gap g c =
    let place : TupleRef → Ordering = λ r. taken First (g.P.Probe.place c.args.probe.now r) in
    let below = c.in-Some-Some.ensures.lookup in
    let first = c.in-Some-Some.ensures'.lookup in
    let r = c.in-Some-Some.first.now in
    λ _. gap_at place (position c.args.self.now.last) c.requires.in_order c.items-items.result.now c.items-items.ensures c.in-Some.before c.args.self.now.high (omega (arith, c.in-Some.ensures)) first.3.0
    c.in-Some-Some.below.now r below.1 first.1 (sym c.ask.ensures.value ∙ c.in-Less.is)
    (sym (ap (λ (p : TupleRef → Ordering). taken First (p r)) c.ask.ensures.probe.only.answers) ∙ sym c.ask-2.ensures.value ∙ c.in-Greater.is)
