use Rattle.std.proofs.lemmas.Result.{MatchResult-weaker, on_ok_weaker, on_err_weaker}
use Rattle.std.proofs.Common.{refl}
use Rattle.mm_prepared.specs.Cells.{cell_value}
use Rattle.mm_prepared.specs.declared.declined.Declined.TheVariants as declined
use Rattle.mm_shared.specs.Noted.{noted_tables}
use Rattle.mm_statements.proofs.Executing.{unchanged}
use Rattle.mm_statements.proofs.Right.{bind-right}
use Rattle.mm_statements.proofs.Seen.{bound-seen, named-seen, past-seen}
use Rattle.mm_statements.proofs.database.Database.bind.Goals as goal

pub invariant_of-self : goal.invariant_of-self
invariant_of-self c = record {
  right =
      bind-right (noted_tables c.self.inside.noted) c.self.inside.statements c.bind.new.self c.args.number c.args.place (cell_value c.args.cell) declined.NoSuchStatement c.bind.result
      c.bind.ensures.bound c.bind.ensures.unchanged c.bind.ensures.missing c.self.invariant.right;
  current = c.self.invariant.current;
}

pub returns-clause-bound : goal.returns-clause-bound
returns-clause-bound c =
    rw (← c.self.view_is)
    (on_ok_weaker c.bind.result (bound-seen c.self.inside.held c.self.inside.statements c.bind.new.self c.args.number c.args.place (cell_value c.args.cell)) c.bind.ensures.bound)

pub returns-clause-declined : goal.returns-clause-declined
returns-clause-declined c =
    rw (← c.self.view_is)
    (MatchResult-weaker c.bind.result c.bind.ensures.declined (λ x any. any)
    (λ e past other. past-seen c.self.inside.held c.self.inside.statements c.args.number c.args.place (past other)))

pub returns-clause-unchanged : goal.returns-clause-unchanged
returns-clause-unchanged c =
    let s = c.self.inside.held in
    let old = c.self.inside.statements in
    rw (← c.self.view_is)
    (on_err_weaker c.bind.result (λ same. unchanged s s old c.bind.new.self refl (named-seen old c.bind.new.self same)) c.bind.ensures.unchanged)
