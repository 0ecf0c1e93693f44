use Rattle.std.proofs.Common.{◌++◌, ◌∙◌, ap, sym, take, append_assoc}
use Rattle.std.proofs.lemmas.List.{take-append-drop}
use Rattle.mm_session.proofs.Writing.{Appends-append}
use Rattle.mm_session.proofs.stream.writing.write_whole.Goals as goal

pub loop-rest-preserved : goal.loop-rest-preserved
loop-rest-preserved g c =
    let (sent, gained, is) = c.loop-rest.invariant in
    let n = c.in-Ok.n in
    let rest = c.loop-rest.rest.now in (
      sent ++ take n rest,
      Appends-append _ _ _ sent (take n rest) gained c.in-Ok.ensures.bytes,
      is ∙ ap (λ r. sent ++ r) (sym (take-append-drop n rest)) ∙ rw c.split_at.ensures.back (sym (append_assoc sent (take n rest) _)),
    )
