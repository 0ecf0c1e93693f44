use Rattle.std.proofs.Common.{arith}
use Rattle.std.proofs.lemmas.Result.{IfOk-weaker}
use Rattle.mm_cells.specs.Values.{values_of}
use Rattle.mm_session.specs.Walked.{rows_shown}
use Rattle.mm_session.proofs.Placed.{heads_some}
use Rattle.mm_session.proofs.Sinks.{values_put}
use Rattle.mm_session.proofs.execute.ReadExecutor.select_values.Goals as goal

pub returns-in-Some-clause-shown : goal.returns-in-Some-clause-shown
returns-in-Some-clause-shown c = (
  c.in_ok-push_only.ensures.columns,
  values_put values_of c.clear.new.self c.push_only.new.sink (rows_shown c.args.catalog.now c.args.query.now) c.clear.ensures c.in_ok-push_only.ensures.shown,
)

pub returns-clause-some : goal.returns-clause-some
returns-clause-some c =
    let some = heads_some c.args.catalog.now c.a_catalog_is_consistent.ensures c.args.query.now c.requires in
    IfOk-weaker c.fill-columns.result _ _ (λ k is. omega (arith, is.0, some)) c.fill-columns.ensures.shown
