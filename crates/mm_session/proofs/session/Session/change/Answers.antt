use Rattle.std.proofs.Common.{sym, subst}
use Rattle.std.specs.Prelude.{IfErr}
use Rattle.std.proofs.lemmas.Result.{IfErr-weaker}
use Rattle.plain_tables.specs.Doing.{done}
use Rattle.plain_tables.specs.ResolvedLaws.{IsMeant}
use Rattle.mm_catalog.specs.Seen.{database_of}
use Rattle.mm_transactions.specs.State.{saved_of}
use Rattle.mm_session.specs.Changing.{HasDeclined}
use Rattle.mm_session.specs.Sessions.{State}
use Rattle.mm_session.proofs.Performing.{declined_unchanged}
use Rattle.mm_session.proofs.session.Session.change.Goals as goal

pub change-requires-clause-meant : goal.change-requires-clause-meant
change-requires-clause-meant c = subst (λ (s : State). IsMeant s.limits s.database c.args.command.now) (sym c.self.view_is) c.requires.meant

pub returns-clause-refused : goal.returns-clause-refused
returns-clause-refused c =
    let before = c.self.inside.responder in
    let after = c.change.new.self.tables.catalog in
    let new : State = record { limits = after.limits; database = database_of after; saved = saved_of c.change.new.self.tables; catalog = after; ended = c.self.inside.ended; kept = before.kept } in
    subst (λ (s : State). IfErr c.change.result (HasDeclined s new (done s.limits s.database c.args.command.now))) c.self.view_is
    (IfErr-weaker c.change.result _ _ (declined_unchanged before.executor.tables.catalog after c.args.command.now) c.change.ensures.refused)
