use Rattle.std.proofs.Common.{subst, sym, IfOk}
use Rattle.plain_tables.specs.Doing.{done}
use Rattle.plain_tables.specs.ResolvedLaws.{IsMeant}
use Rattle.plain_tables.specs.declared.resolved.Resolved.TheVariants as resolved
use Rattle.mm_cells.specs.Values.{values_of}
use Rattle.mm_session.specs.Changing.{ShowsValues}
use Rattle.mm_session.specs.Sessions.{State}
use Rattle.mm_shared.proofs.shared.SharedSession.select.Goals as goal

pub select-requires : goal.select-requires
select-requires c = subst (λ (s : State). IsMeant s.limits s.database (resolved.Select c.args.query.now)) (sym c.session.ensures) c.requires

pub returns-clause-shown : goal.returns-clause-shown
returns-clause-shown c =
    subst
    (λ (s : State). IfOk c.select.result (λ columns. ShowsValues (done s.limits s.database (resolved.Select c.args.query.now)).outcome columns (values_of c.select.new.cells)))
    c.session.ensures c.select.ensures.shown
