use Rattle.std.proofs.Common.{◌+◌, ◌≤◌, arith}
use Rattle.std.specs.Prelude.{Result, Ok, Err, OnErr}
use Rattle.mm_relation.proofs.Hiding.{parted_covered, rows_covered}
use Rattle.mm_relation.proofs.rows.Rows.owe.Goals as goal

pub invariant_of-self : goal.invariant_of-self
invariant_of-self c =
    parted_covered c.self.inside.store.width c.self.inside.store.tuples c.self.inside.store.counts c.self.inside.hidden c.self.inside.hidden_count c.self.inside.owed c.self.invariant c.cover.new.hidden c.self.inside.owed c.cover.ensures.same c.self.invariant.within c.self.invariant.few
    (λ owing r held. omega (arith, c.self.invariant.covered owing r held, c.cover.ensures.grows))

pub invariant_of-self-2 : goal.invariant_of-self-2
invariant_of-self-2 c =
    let few : c.self.inside.owed + c.args.n ≤ 16777216 = rw (← c.self.view_is) at c.requires in
    parted_covered c.self.inside.store.width c.self.inside.store.tuples c.self.inside.store.counts c.self.inside.hidden c.self.inside.hidden_count c.self.inside.owed c.self.invariant c.cover.new.hidden (c.self.inside.owed + c.args.n) c.cover.ensures.same (omega (arith, c.self.invariant.within)) few
    c.in_ok-cover.ensures.covered

pub returns-clause-ok : goal.returns-clause-ok
returns-clause-ok c = rw (← c.self.view_is) (rows_covered c.self.inside.store c.self.inside.hidden c.self.inside.owed c.cover.new.hidden (c.self.inside.owed + c.args.n) c.cover.ensures.same)

on_err : {A E : Type 0} {P : Type 0} (o : Result A E) → P → OnErr o P
on_err (Ok x) p = tt
on_err (Err e) p = p

pub returns-in_err-cover-clause-err : goal.returns-in_err-cover-clause-err
returns-in_err-cover-clause-err c =
    on_err c.from_residual.result (rw (← c.self.view_is) (rows_covered c.self.inside.store c.self.inside.hidden c.self.inside.owed c.cover.new.hidden c.self.inside.owed c.cover.ensures.same))
