use Rattle.std.proofs.Common.{◌≡◌, ◌≤◌, subst, sym, IfOk}
use Rattle.std.specs.Prelude.{◌^◌, IsErrOf}
use Rattle.plain_tables.specs.Doing.{done}
use Rattle.plain_tables.specs.ResolvedLaws.{IsMeant}
use Rattle.plain_tables.specs.declared.resolved.Resolved.TheVariants as resolved
use Rattle.mm_session.specs.Counting.{HasRows}
use Rattle.mm_session.specs.Sessions.{State}
use Rattle.mm_session.specs.declared.fault.CountFault.TheVariants as counting
use Rattle.mm_shared.proofs.shared.SharedSession.count.Goals as goal

pub count-requires : goal.count-requires
count-requires c = subst (λ (s : State). IsMeant s.limits s.database (resolved.Select c.args.query.now)) (sym c.session.ensures) c.requires

pub returns-clause-counted : goal.returns-clause-counted
returns-clause-counted c =
    subst
    (λ (s : State). IfOk c.count.result (λ count. HasRows (done s.limits s.database (resolved.Select c.args.query.now)).outcome (λ n. count ≡ n)))
    c.session.ensures c.count.ensures.counted

pub returns-clause-too_many : goal.returns-clause-too_many
returns-clause-too_many c =
    subst
    (λ (s : State). IsErrOf c.count.result counting.TooMany → HasRows (done s.limits s.database (resolved.Select c.args.query.now)).outcome (λ n. 2 ^ 64 ≤ n))
    c.session.ensures c.count.ensures.too_many
