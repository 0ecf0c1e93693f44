use Rattle.std.proofs.Common.{sym, subst}
use Rattle.std.specs.Prelude.{IfErr}
use Rattle.std.proofs.lemmas.Result.{IfErr-weaker}
use Rattle.plain_tables.specs.Doing.{done}
use Rattle.plain_tables.specs.ResolvedLaws.{IsMeant}
use Rattle.plain_tables.specs.declared.resolved.Resolved.TheVariants as resolved
use Rattle.mm_catalog.specs.Seen.{database_of}
use Rattle.mm_transactions.specs.State.{saved_of}
use Rattle.mm_session.specs.Changing.{HasDeclined}
use Rattle.mm_session.specs.Sessions.{State}
use Rattle.mm_session.proofs.Performing.{declined_unchanged}
use Rattle.mm_session.proofs.session.Session.load.Goals as goal

pub load-requires : goal.load-requires
load-requires c =
    subst (λ (s : State). IsMeant s.limits s.database (resolved.Load c.args.table c.args.rows)) (sym c.self.view_is) c.requires

pub returns-clause-refused : goal.returns-clause-refused
returns-clause-refused c =
    let before = c.self.inside.responder in
    let after = c.load.new.self.tables.catalog in
    let new : State = record { limits = after.limits; database = database_of after; saved = saved_of c.load.new.self.tables; catalog = after; ended = c.self.inside.ended; kept = before.kept } in
    let command = resolved.Load c.args.table c.args.rows in
    subst (λ (s : State). IfErr c.load.result (HasDeclined s new (done s.limits s.database command))) c.self.view_is
    (IfErr-weaker c.load.result _ _ (declined_unchanged before.executor.tables.catalog after command) c.load.ensures.refused)
