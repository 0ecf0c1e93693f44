use Rattle.std.proofs.Common.{[], ◌∷◌, ◌++◌, refl, sym, ◌∙◌, append_assoc}
use Rattle.mm_session.specs.Responding.{IsRest, IsLineWith}
use Rattle.mm_session.proofs.Kept.{keeps-no_block}
use Rattle.mm_session.proofs.Taking.{takes-behind}
use Rattle.mm_session.proofs.stream.responder.Responder.take.Goals as goal

pub returns-in-Some-split_line-clause-takes : goal.returns-in-Some-split_line-clause-takes
returns-in-Some-split_line-clause-takes c =
    let self = c.args.self.now in
    let line = c.in-Some-split_line.line.now in
    let others = c.in-Some-split_line.others.now in
    takes-behind (IsRest self) (IsLineWith self line) self c.end_line.new.self (line ++ 10 ∷ [])
    (λ rest is. (rest, keeps-no_block self.executor.tables.catalog.limits rest self.kept (sym c.take.ensures.value ∙ c.in_default.is) is, refl))
    c.args.bytes.now others _ (c.in-Some-split_line.ensures.1 ∙ sym (append_assoc line (10 ∷ []) others)) c.end_line.ensures.takes
