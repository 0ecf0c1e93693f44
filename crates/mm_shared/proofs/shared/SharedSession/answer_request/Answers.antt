use Rattle.std.proofs.Common.{◌∙◌, ap, sym, Err}
use Rattle.std.proofs.lemmas.Result.{err_from_is_err_and}
use Rattle.std.specs.Arc.{arc_value}
use Rattle.std.specs.Option.{option_map_or}
use Rattle.mm_shared.proofs.Sharing.{change-fault, goes-as, own-goes}
use Rattle.mm_shared.proofs.shared.SharedSession.answer_request.Goals as goal

pub returns-in_default-clause-run : goal.returns-in_default-clause-run
returns-in_default-clause-run c =
    rw (← c.self.view_is)
    (own-goes arc_value c.self.inside.shared c.self.inside.own c.answer_request.new.self c.in_default.is (record { line = c.args.line.now; block = c.args.block.now })
    c.answer_request.new.answer c.in_ok-answer_request.ensures.run)

pub returns-in_ok-answer_request-in-Some-get_mut-clause-run : goal.returns-in_ok-answer_request-in-Some-get_mut-clause-run
returns-in_ok-answer_request-in-Some-get_mut-clause-run c =
    rw (← c.self.view_is)
    (goes-as c.in-Some-get_mut.session.now (option_map_or arc_value c.self.inside.shared c.self.inside.own)
    (c.in-Some-get_mut.ensures.value ∙ sym (ap (λ o. option_map_or arc_value o c.self.inside.own) c.in-Some.is)) c.answer_request-in-Some-get_mut.new.self
    (record { line = c.args.line.now; block = c.args.block.now }) c.answer_request-in-Some-get_mut.new.answer c.in_ok-answer_request-in-Some-get_mut.ensures.run)

pub returns-in_ok-read_request-in-None-clause-run : goal.returns-in_ok-read_request-in-None-clause-run
returns-in_ok-read_request-in-None-clause-run c =
    rw (← c.self.view_is)
    (goes-as c.in-Some.shared.value (option_map_or arc_value c.self.inside.shared c.self.inside.own)
    (sym (ap (λ o. option_map_or arc_value o c.self.inside.own) c.in-Some.is)) c.in-Some.shared.value
    (record { line = c.args.line.now; block = c.args.block.now }) c.read_request.new.answer (rw c.deref.ensures at c.in_ok-read_request-in-None.ensures.run))

pub returns-in_err-read_request-in-None-clause-change : goal.returns-in_err-read_request-in-None-clause-change
returns-in_err-read_request-in-None-clause-change c =
    let e = err_from_is_err_and c.from_residual-in_err-read_request-in-None.result c.from_residual-in_err-read_request-in-None.ensures.1 in
    rw (← c.self.view_is, c.in-Some.is, e.1, e.2)
    (λ is. rw c.deref.ensures at (c.read_request.ensures.changes (c.in_err-read_request-in-None.was ∙ ap Err (change-fault c.in_err-read_request-in-None.field-0.0 is))))
