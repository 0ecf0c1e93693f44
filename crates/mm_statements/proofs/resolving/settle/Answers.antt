use Rattle.std.proofs.Common.{◌∙◌, Ok, ap, sym}
use Rattle.mm_catalog.specs.Seen.{database_of}
use Rattle.mm_shared.specs.Noted.{noted_tables}
use Rattle.mm_statements.proofs.NotedMeanings.{right-now}
use Rattle.mm_statements.proofs.Right.{forgotten-right}
use Rattle.mm_statements.proofs.resolving.settle.Goals as goal

pub returns-then-are_current-clause-right : goal.returns-then-are_current-clause-right
returns-then-are_current-clause-right c =
    right-now (database_of c.args.catalog.now) c.args.noted.now c.args.statements.now (c.requires.current (sym c.are_current.ensures ∙ c.if-are_current.true)) c.requires.right

pub returns-then-others-clause-noted : goal.returns-then-others-clause-noted
returns-then-others-clause-noted c = record {
  right =
      forgotten-right (noted_tables c.args.noted.now) (noted_tables c.renew.new.self) c.args.statements.now c.forget.new.self c.forget.ensures c.requires.right;
  current = λ now. c.in_ok-others.ensures.noted;
}

pub returns-then-others-clause-right : goal.returns-then-others-clause-right
returns-then-others-clause-right c =
    forgotten-right (noted_tables c.args.noted.now) (database_of c.args.catalog.now) c.args.statements.now c.forget.new.self c.forget.ensures c.requires.right

-- What was noted before is what is noted now.
pub returns-else-others-clause-right : goal.returns-else-others-clause-right
returns-else-others-clause-right c =
    right-now (database_of c.args.catalog.now) c.args.noted.now c.args.statements.now
    (sym (c.in_ok-others.ensures.others (ap Ok c.if-others.false)) ∙ c.in_ok-others.ensures.noted) c.requires.right
