use Rattle.std.proofs.lemmas.Result.{IfOk-weaker, IfErr-weaker}
use Rattle.mm_resolver.proofs.commands.resolve.Goals as goal

pub returns-in-Load-clause-meant : goal.returns-in-Load-clause-meant
returns-in-Load-clause-meant g c = rw c.in-Load.is (IfOk-weaker c.resolve_load.result _ _ (λ r means. means 0) c.resolve_load.ensures.meant)

pub returns-in-Load-clause-refused : goal.returns-in-Load-clause-refused
returns-in-Load-clause-refused g c = rw c.in-Load.is (IfErr-weaker c.resolve_load.result _ _ (λ e means other. means other 0) c.resolve_load.ensures.refused)
