use Rattle.std.proofs.Common.{sym, subst}
use Rattle.std.specs.Prelude.{IfErr}
use Rattle.std.proofs.lemmas.Result.{IfErr-weaker}
use Rattle.plain_tables.specs.Doing.{done}
use Rattle.plain_tables.specs.ResolvedLaws.{IsMeant}
use Rattle.plain_tables.specs.declared.resolved.Resolved.TheVariants as resolved
use Rattle.mm_catalog.specs.Seen.{database_of}
use Rattle.mm_transactions.specs.State.{saved_of}
use Rattle.mm_session.specs.Changing.{HasDeclined}
use Rattle.mm_session.specs.Sessions.{State}
use Rattle.mm_session.proofs.Performing.{declined_unchanged}
use Rattle.mm_session.proofs.session.Session.insert.Goals as goal

pub insert-requires : goal.insert-requires
insert-requires c =
    subst (λ (s : State). IsMeant s.limits s.database (resolved.Insert c.args.table c.args.values.now)) (sym c.self.view_is) c.requires

pub returns-clause-refused : goal.returns-clause-refused
returns-clause-refused c =
    let before = c.self.inside.responder in
    let after = c.insert.new.self.tables.catalog in
    let new : State = record { limits = after.limits; database = database_of after; saved = saved_of c.insert.new.self.tables; catalog = after; ended = c.self.inside.ended; kept = before.kept } in
    let command = resolved.Insert c.args.table c.args.values.now in
    subst (λ (s : State). IfErr c.insert.result (HasDeclined s new (done s.limits s.database command))) c.self.view_is
    (IfErr-weaker c.insert.result _ _ (declined_unchanged before.executor.tables.catalog after command) c.insert.ensures.refused)
