use Rattle.std.proofs.Common.{◌≡◌, ◌-◌, ◌∙◌, ap, arith}
use Rattle.std.specs.FinMap.{empty, empty_of_len, len}
use Rattle.mm_relation.specs.Rows.{Aside, RowStore}
use Rattle.mm_relation.specs.Seen.{state}
use Rattle.mm_relation.proofs.Owed.{kept_alike, none_in, nothing_owed}
use Rattle.mm_relation.proofs.Keeping.{same_state}
use Rattle.mm_relation.proofs.relation.Relation.settle_all.Goals as goal
use Rattle.mm_relation.proofs.relation.Relation.settle_all.Goals.{After-settle}

-- what is kept aside of the rows in the end
aside : (c : After-settle) → c.settle.new.rows.aside ≡ record c.self.inside.rows.aside { hidden = empty; owed = 0 }
aside c =
    c.settle.ensures.aside ∙ ap (λ (s : RowStore). s.aside) c.forgive.ensures
    ∙ ap (λ (a : Aside). record a { owed = a.owed - c.owed-owed.result }) c.clear_hidden.ensures.aside
    ∙ ap (λ k. record c.self.inside.rows.aside { hidden = empty; owed = k }) (omega (arith, c.owed-owed.ensures.value))

tuples : (c : After-settle) → c.settle.new.rows.tuples ≡ c.self.inside.rows.tuples
tuples c = c.settle.ensures.tuples ∙ ap (λ (s : RowStore). s.tuples) c.forgive.ensures ∙ c.clear_hidden.ensures.tuples

pub returns-then-owed-eq0 : goal.returns-then-owed-eq0
returns-then-owed-eq0 c =
    let none = empty_of_len c.self.inside.rows.aside.hidden (omega (arith, c.owed-owed.ensures.hidden, c.if-owed-eq0.true)) in
    let owed : c.self.inside.rows.aside.owed ≡ 0 = omega (arith, c.owed-owed.ensures.value, c.if-owed-eq0.true) in
    rw (← c.self.view_is)
    (λ i. state (record c.self.inside.rows.aside { hidden = none i; owed = owed i }) c.self.inside.schema c.self.inside.targets.items c.self.inside.declared.items c.self.inside.rows.tuples c.self.inside.by_key.tree c.self.inside.indexes)

pub forgive-requires : goal.forgive-requires
forgive-requires c =
    let hidden = ap (λ (a : Aside). len a.hidden) c.clear_hidden.ensures.aside in
    let owed = ap (λ (a : Aside). a.owed) c.clear_hidden.ensures.aside in
    omega (arith, hidden, none_in, owed, c.owed-owed.ensures.value)

pub invariant_of-self : goal.invariant_of-self
invariant_of-self c =
    let at = (goal.at.invariant_of-self c).After-settle in (
      rw (tuples at) (kept_alike c.self.inside.rows.aside c.self.inside.schema c.self.inside.targets.items c.self.inside.declared.items c.self.inside.rows.tuples c.self.inside.by_key.tree c.self.inside.indexes c.self.invariant.0 c.settle.new.rows.aside c.settle.new.by_key.tree c.settle.new.indexes c.settle.ensures.by_key c.settle.ensures.same),
      c.settle.ensures.width ∙ ap (λ (s : RowStore). s.width) c.forgive.ensures ∙ c.clear_hidden.ensures.width ∙ c.self.invariant.1,
      rw (aside at) (nothing_owed empty c.settle.new.by_key c.settle.new.indexes (omega (arith, none_in))),
    )

pub returns : goal.returns
returns c =
    let at = (goal.at.returns c).After-settle in
    rw (← c.self.view_is, aside at)
    (same_state (record c.self.inside.rows.aside { hidden = empty; owed = 0 }) c.self.inside.schema c.self.inside.targets.items c.self.inside.declared.items c.self.inside.rows.tuples c.settle.new.rows.tuples c.self.inside.by_key.tree c.settle.new.by_key.tree c.self.inside.indexes c.settle.new.indexes (tuples at) c.settle.ensures.by_key c.settle.ensures.same)
