use Rattle.std.proofs.Common.{ℕ, ◌<◌, ◌/◌, List, length, sym, ap, ◌∙◌, subst}
use Rattle.mm_relation.specs.Rows.{rows_of, rows_in, outside, among}
use Rattle.mm_relation.proofs.Parted.{outside-same, among-same}
use Rattle.mm_relation.proofs.Hiding.{none_owed, parted_covered, rows_covered}
use Rattle.mm_relation.proofs.rows.Rows.shed_spares.Goals as goal

pub shed-requires : goal.shed-requires
shed-requires c = none_owed c.self.inside.store.width c.self.inside.store.tuples c.self.inside.store.counts c.self.inside.hidden c.self.inside.hidden_count c.self.inside.owed c.self.invariant

pub invariant_of-self : goal.invariant_of-self
invariant_of-self c =
    rw (c.shed_spares.ensures.tuples, c.shed_spares.ensures.counts, c.shed_spares.ensures.width)
    (parted_covered c.self.inside.store.width c.self.inside.store.tuples c.self.inside.store.counts c.self.inside.hidden c.self.inside.hidden_count c.self.inside.owed c.self.invariant c.shed.new.hidden c.self.inside.owed c.shed.ensures.same c.self.invariant.within c.self.invariant.few
    (λ owing r held. subst (λ (words : List ℕ). r.number / 64 < length words) (sym (c.shed.ensures.kept owing)) (c.self.invariant.covered owing r held)))

pub returns-clause-tuples : goal.returns-clause-tuples
returns-clause-tuples c =
    rw (← c.self.view_is)
    (ap (λ tuples. rows_in (outside c.shed.new.hidden tuples)) c.shed_spares.ensures.tuples ∙ ap rows_in (outside-same c.self.inside.hidden c.shed.new.hidden c.self.inside.store.tuples c.shed.ensures.same))

pub returns-clause-aside : goal.returns-clause-aside
returns-clause-aside c =
    let numbers = ap (outside c.shed.new.hidden) c.shed_spares.ensures.counts ∙ outside-same c.self.inside.hidden c.shed.new.hidden c.self.inside.store.counts c.shed.ensures.same in
    let still = ap (λ tuples. rows_in (among c.shed.new.hidden tuples)) c.shed_spares.ensures.tuples ∙ ap rows_in (among-same c.self.inside.hidden c.shed.new.hidden c.self.inside.store.tuples c.shed.ensures.same) in
    rw (← c.self.view_is) (λ i. record { numbers = numbers i; counted = c.shed_spares.ensures.counted i; hidden = still i; owed = c.self.inside.owed })

pub returns-clause-kept : goal.returns-clause-kept
returns-clause-kept c few =
    rw (← c.self.view_is)
    (ap (λ s. rows_of s c.shed.new.hidden c.self.inside.owed) (c.shed_spares.ensures.kept (rw (← c.self.view_is) at few))
    ∙ rows_covered c.self.inside.store c.self.inside.hidden c.self.inside.owed c.shed.new.hidden c.self.inside.owed c.shed.ensures.same)
