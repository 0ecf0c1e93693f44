use Rattle.std.proofs.Common.{subst, ◌∙◌}
use Rattle.std.specs.List.{Contains}
use Rattle.mm_session.proofs.Lines.{without_return-unbroken}
use Rattle.mm_session.proofs.stream.lines.judge.Goals as goal

pub new-requires : goal.new-requires
new-requires c = λ found.
    without_return-unbroken c.args.line.now c.requires (subst (λ l. Contains l 10) (c.in-Ok.ensures.cases.0 ∙ c.trim_return-line.ensures) found)
