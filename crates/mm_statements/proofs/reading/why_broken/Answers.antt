-- The text is judged as it is read: without the carriage return at its end.
use Rattle.std.proofs.Common.{subst}
use Rattle.plain_streams.specs.Division.{IsUnbroken}
use Rattle.mm_statements.specs.Querying as querying
use Rattle.mm_statements.proofs.Marks.{return-unbroken}
use Rattle.mm_statements.proofs.reading.why_broken.Goals as goal

pub returns-then-text-gt-LONGEST_LINE : goal.returns-then-text-gt-LONGEST_LINE
returns-then-text-gt-LONGEST_LINE c = rw (← c.trim_return-text.ensures) (querying.too_long c.if-text-gt-LONGEST_LINE.true)

pub returns-in-Ok : goal.returns-in-Ok
returns-in-Ok c =
    rw (← c.trim_return-text.ensures)
    (querying.broken (record { short = c.if-text-gt-LONGEST_LINE.false; utf8 = c.in-Ok.ensures.cases.1 })
    (λ free. c.requires (return-unbroken c.args.line.now (subst IsUnbroken c.trim_return-text.ensures free))))

pub returns-in-Err : goal.returns-in-Err
returns-in-Err c = rw (← c.trim_return-text.ensures) (querying.not_utf8 c.if-text-gt-LONGEST_LINE.false c.in-Err.ensures.cases.0)
