use Rattle.mm_session.proofs.Asks.{asks-judged, unasked-too_long, unasked-not_utf8, unasked-silent}
use Rattle.mm_session.proofs.stream.lines.Judged.asked.Goals as goal

pub returns-in-Text : goal.returns-in-Text
returns-in-Text c = λ line is. asks-judged line c.in-Text.text c.block_length.result (rw c.in-Text.is at is) c.block_length.ensures

pub returns-in-TooLong : goal.returns-in-TooLong
returns-in-TooLong c = λ line is. unasked-too_long line (rw c.in-TooLong.is at is)

pub returns-in-NotUtf8 : goal.returns-in-NotUtf8
returns-in-NotUtf8 c = λ line is. unasked-not_utf8 line (rw c.in-NotUtf8.is at is)

pub returns-in-Silent : goal.returns-in-Silent
returns-in-Silent c = λ line is. unasked-silent line (rw c.in-Silent.is at is)
