use Rattle.std.proofs.Common.{◌∷◌, [], reverse, ap, ◌∙◌}
use Rattle.std.proofs.lemmas.List.{reverse-append}
use Rattle.mm_transactions.proofs.log.UndoLog.open.Goals as goal

pub returns-clause-opened : goal.returns-clause-opened
returns-clause-opened c =
    let marks = c.self.inside.marks.items in
    let commands = c.self.inside.commands in
    rw (← c.self.view_is) (ap reverse c.in_ok-push.ensures.items ∙ reverse-append marks (commands ∷ []) ∙ ap (λ n. n ∷ reverse marks) c.self.invariant.count)
