use Rattle.mm_statements.specs.Querying as querying
use Rattle.mm_statements.proofs.reading.readable.Goals as goal

pub returns-in-Some-TooLong-clause-unread : goal.returns-in-Some-TooLong-clause-unread
returns-in-Some-TooLong-clause-unread c =
    let judged = rw c.in-Some-TooLong.field-0-is at c.in-Some-TooLong.ensures in
    querying.too_long judged.1

pub returns-in-Some-NotUtf8-clause-unread : goal.returns-in-Some-NotUtf8-clause-unread
returns-in-Some-NotUtf8-clause-unread c =
    let judged = rw c.in-Some-NotUtf8.field-0-is at c.in-Some-NotUtf8.ensures in
    querying.not_utf8 judged.1.0 judged.1.1

pub returns-in-Some-Silent-clause-unread : goal.returns-in-Some-Silent-clause-unread
returns-in-Some-Silent-clause-unread c =
    let judged = rw c.in-Some-Silent.field-0-is at c.in-Some-Silent.ensures in
    querying.silent judged.1.0 judged.1.1
