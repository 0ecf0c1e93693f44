use Rattle.plain_streams.specs.Requests.{Request}
use Rattle.mm_catalog.specs.Seen.{database_of}
use Rattle.mm_session.proofs.AnswerTexts.{answers-not_utf8, answers-silent, answers-told, answers-too_long}
use Rattle.mm_session.proofs.execute.ReadExecutor.respond.Goals.{in-TooLong, in-NotUtf8, in-Silent, in-Text+in_ok-tell-in-Text}
use Rattle.mm_session.proofs.execute.ReadExecutor.respond.Goals as goal

pub returns-clause-answers : goal.returns-clause-answers
returns-clause-answers c = λ bytes is has.
    let limits = c.args.catalog.now.limits in
    let tables = database_of c.args.catalog.now in
    let request : Request = record { line = bytes; block = c.args.block.now } in
    elim c.match-line.branch [
      | in-TooLong w ↦ rw w.answer-is (answers-too_long limits tables request _ (rw w.in-TooLong.is at is) w.set.ensures)
      | in-NotUtf8 w ↦
          let (short, bad) = rw w.in-NotUtf8.is at is in
          rw w.answer-is (answers-not_utf8 limits tables request _ short bad w.set-in-NotUtf8.ensures)
      | in-Silent w ↦
          let (readable, silent) = rw w.in-Silent.is at is in
          rw w.answer-is (answers-silent limits tables request readable _ silent w.clear.ensures)
      | in-Text+in_ok-tell-in-Text w ↦
          let (readable, heard, same) = rw w.in-Text.is at is in
          rw w.answer-is (answers-told limits tables request readable heard has _ (rw same at w.in_ok-tell-in-Text.ensures.told))
    ]
