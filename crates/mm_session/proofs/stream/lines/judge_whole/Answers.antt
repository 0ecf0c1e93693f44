use Rattle.std.proofs.Common.{sym, ◌∙◌}
use Rattle.mm_session.proofs.Whole.{takes-asked, whole-with, not_whole-with}
use Rattle.mm_session.proofs.stream.lines.judge_whole.Goals as goal

pub returns-then-unwrap_or-block : goal.returns-then-unwrap_or-block
returns-then-unwrap_or-block c =
    let line = c.args.line.now in
    let takes = takes-asked line c.asked.result (c.asked.ensures line c.in_ok-judged.ensures.1) in
    (whole-with line c.args.block.now _ c.in_ok-judged.ensures.0 takes (sym c.unwrap_or.ensures ∙ c.if-unwrap_or-block.true), c.in_ok-judged.ensures.1)

pub returns-else-unwrap_or-block : goal.returns-else-unwrap_or-block
returns-else-unwrap_or-block c =
    let line = c.args.line.now in
    let takes = takes-asked line c.asked.result (c.asked.ensures line c.in_ok-judged.ensures.1) in
    not_whole-with line c.args.block.now _ takes (λ same. c.if-unwrap_or-block.false (c.unwrap_or.ensures ∙ same))
