use Rattle.std.proofs.Common.{◌∙◌, ap, false, sym, Err}
use Rattle.std.proofs.lemmas.Result.{err_from_is_err_and}
use Rattle.std.specs.Arc.{arc_value}
use Rattle.std.specs.Option.{option_map_or}
use Rattle.mm_shared.proofs.Sharing.{breaks-off-as, own-breaks-off, write-fault}
use Rattle.mm_shared.proofs.shared.SharedSession.feed.Goals as goal

pub returns-in_err-feed-clause-write : goal.returns-in_err-feed-clause-write
returns-in_err-feed-clause-write g c =
    let e = err_from_is_err_and c.from_residual.result c.from_residual.ensures.1 in
    rw (← c.self.view_is, e.1, e.2)
    (λ is.
    own-breaks-off arc_value c.self.inside.shared c.self.inside.own c.feed.new.self c.in_default.is (g.W.Write.contents c.args.w.now) (g.W.Write.contents c.feed.new.w)
    c.args.piece.now false (c.feed.ensures.write (c.in_err-feed.was ∙ ap Err (write-fault c.in_err-feed.field-0.0 is))))

pub returns-in_err-feed-in-Some-get_mut-clause-write : goal.returns-in_err-feed-in-Some-get_mut-clause-write
returns-in_err-feed-in-Some-get_mut-clause-write g c =
    let e = err_from_is_err_and c.from_residual-in_err-feed-in-Some-get_mut.result c.from_residual-in_err-feed-in-Some-get_mut.ensures.1 in
    rw (← c.self.view_is, e.1, e.2)
    (λ is.
    breaks-off-as c.in-Some-get_mut.session.now (option_map_or arc_value c.self.inside.shared c.self.inside.own)
    (c.in-Some-get_mut.ensures.value ∙ sym (ap (λ o. option_map_or arc_value o c.self.inside.own) c.in-Some.is))
    (g.W.Write.contents c.args.w.now) (g.W.Write.contents c.feed-in-Some-get_mut.new.w)
    c.feed-in-Some-get_mut.new.self c.args.piece.now false (c.feed-in-Some-get_mut.ensures.write (c.in_err-feed-in-Some-get_mut.was ∙ ap Err (write-fault c.in_err-feed-in-Some-get_mut.field-0.0 is))))
