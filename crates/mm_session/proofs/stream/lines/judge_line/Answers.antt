use Rattle.std.proofs.Common.{sym, ◌∙◌}
use Rattle.mm_session.proofs.Whole.{unsplit, split-broken}
use Rattle.mm_session.proofs.stream.lines.judge_line.Goals as goal

pub returns-then-is_some : goal.returns-then-is_some
returns-then-is_some c = split-broken c.args.line.now c.split_line.result c.split_line.ensures (sym c.is_some.ensures ∙ c.if-is_some.true)

pub judge-requires : goal.judge-requires
judge-requires c = unsplit c.args.line.now c.split_line.result c.split_line.ensures (sym c.is_some.ensures ∙ c.if-is_some.false)
