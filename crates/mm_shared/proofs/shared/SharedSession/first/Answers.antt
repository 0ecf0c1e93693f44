use Rattle.std.proofs.Common.{subst, sym, IfOk}
use Rattle.plain_tables.specs.Doing.{done}
use Rattle.plain_tables.specs.ResolvedLaws.{IsMeant}
use Rattle.plain_tables.specs.declared.resolved.Resolved.TheVariants as resolved
use Rattle.mm_cells.specs.Values.{values_of}
use Rattle.mm_session.specs.First.{ShowsFirst}
use Rattle.mm_session.specs.Sessions.{State}
use Rattle.mm_shared.proofs.shared.SharedSession.first.Goals as goal

pub first-requires : goal.first-requires
first-requires c = subst (λ (s : State). IsMeant s.limits s.database (resolved.Select c.args.query.now)) (sym c.session.ensures) c.requires

pub returns-clause-shown : goal.returns-clause-shown
returns-clause-shown c =
    subst
    (λ (s : State). IfOk c.first.result (λ columns. ShowsFirst (done s.limits s.database (resolved.Select c.args.query.now)).outcome c.args.most columns (values_of c.first.new.cells)))
    c.session.ensures c.first.ensures.shown
