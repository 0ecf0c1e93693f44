use Rattle.std.proofs.Common.{◌∙◌, [], ap, sym, true, Err}
use Rattle.std.proofs.lemmas.Result.{err_from_is_err_and}
use Rattle.std.specs.Arc.{arc_value}
use Rattle.std.specs.Option.{option_map_or}
use Rattle.mm_shared.proofs.Sharing.{breaks-off-as, finishes-as, own-breaks-off, own-finishes, write-fault}
use Rattle.mm_shared.proofs.shared.SharedSession.end.Goals as goal

pub returns-in_err-end-clause-write : goal.returns-in_err-end-clause-write
returns-in_err-end-clause-write g c =
    let e = err_from_is_err_and c.from_residual.result c.from_residual.ensures.1 in
    rw (← c.self.view_is, e.1, e.2)
    (λ is.
    own-breaks-off arc_value c.self.inside.shared c.self.inside.own c.end.new.self c.in_default.is (g.W.Write.contents c.args.w.now) (g.W.Write.contents c.end.new.w) [] true
    (c.end.ensures.write (c.in_err-end.was ∙ ap Err (write-fault c.in_err-end.field-0.0 is))))

pub returns-in_default-clause-ok : goal.returns-in_default-clause-ok
returns-in_default-clause-ok g c =
    rw (← c.self.view_is)
    (own-finishes arc_value c.self.inside.shared c.self.inside.own c.end.new.self c.in_default.is (g.W.Write.contents c.args.w.now) (g.W.Write.contents c.end.new.w)
    c.in_ok-end.ensures.ok)

pub returns-in_err-end-in-Some-get_mut-clause-write : goal.returns-in_err-end-in-Some-get_mut-clause-write
returns-in_err-end-in-Some-get_mut-clause-write g c =
    let e = err_from_is_err_and c.from_residual-in_err-end-in-Some-get_mut.result c.from_residual-in_err-end-in-Some-get_mut.ensures.1 in
    rw (← c.self.view_is, e.1, e.2)
    (λ is.
    breaks-off-as c.in-Some-get_mut.session.now (option_map_or arc_value c.self.inside.shared c.self.inside.own)
    (c.in-Some-get_mut.ensures.value ∙ sym (ap (λ o. option_map_or arc_value o c.self.inside.own) c.in-Some.is))
    (g.W.Write.contents c.args.w.now) (g.W.Write.contents c.end-in-Some-get_mut.new.w)
    c.end-in-Some-get_mut.new.self [] true (c.end-in-Some-get_mut.ensures.write (c.in_err-end-in-Some-get_mut.was ∙ ap Err (write-fault c.in_err-end-in-Some-get_mut.field-0.0 is))))

pub returns-in_ok-end-in-Some-get_mut-clause-ok : goal.returns-in_ok-end-in-Some-get_mut-clause-ok
returns-in_ok-end-in-Some-get_mut-clause-ok g c =
    rw (← c.self.view_is)
    (finishes-as c.in-Some-get_mut.session.now (option_map_or arc_value c.self.inside.shared c.self.inside.own)
    (c.in-Some-get_mut.ensures.value ∙ sym (ap (λ o. option_map_or arc_value o c.self.inside.own) c.in-Some.is))
    (g.W.Write.contents c.args.w.now) (g.W.Write.contents c.end-in-Some-get_mut.new.w)
    c.end-in-Some-get_mut.new.self c.in_ok-end-in-Some-get_mut.ensures.ok)
