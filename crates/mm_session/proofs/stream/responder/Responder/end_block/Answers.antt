use Rattle.std.proofs.Common.{◌≡◌, ℕ, List, ap, Bor, refl, subst, ◌∙◌, length}
use Rattle.mm_catalog.specs.Seen.{database_of}
use Rattle.plain_streams.specs.Requests.{Request}
use Rattle.mm_session.specs.Kept.{KeepsBlock}
use Rattle.mm_session.proofs.Asks.{has_block-asked}
use Rattle.mm_session.proofs.Requests.{answers-block_too_long, answers-no_memory}
use Rattle.mm_session.proofs.stream.responder.Responder.end_block.Goals as goal
use Rattle.mm_session.proofs.stream.responder.Responder.end_block.Goals.{in-TooLong, in-NoMemory}

pub returns-in-Storing-clause-answers : goal.returns-in-Storing-clause-answers
returns-in-Storing-clause-answers c = λ line bytes is asks keeps.
    let limits = c.args.self.now.executor.tables.catalog.limits in
    let kept = subst (KeepsBlock limits.block (length bytes) bytes) c.in-Storing.is keeps in
    let same : c.as_slice.result.now ≡ bytes = c.as_slice.ensures ∙ kept.1 in
    (rw same at c.respond_kept.ensures.answers) line is (has_block-asked limits (record { line = line; block = bytes }) (length bytes) asks kept.0 refl)

pub returns-after-why-clause-answers : goal.returns-after-why-clause-answers
returns-after-why-clause-answers c = λ line bytes is asks keeps.
    let limits = c.args.self.now.executor.tables.catalog.limits in
    let tables = database_of c.args.self.now.executor.tables.catalog in
    let kept = subst (KeepsBlock limits.block (length bytes) bytes) c.in-Counting.is keeps in
    let request : Request = record { line = line; block = bytes } in
    elim c.match-why.branch [
      | in-TooLong w ↦ answers-block_too_long limits tables request c.set.new.self (length bytes) asks (rw w.in-TooLong.is at kept).0 (c.set.ensures ∙ ap (λ (s : Bor (List ℕ)). s.now) w.set-is)
      | in-NoMemory w ↦
          let within = (rw w.in-NoMemory.is at kept).0 in
          answers-no_memory limits tables request c.set.new.self (length bytes) asks (has_block-asked limits request (length bytes) asks within refl) (c.set.ensures ∙ ap (λ (s : Bor (List ℕ)). s.now) w.set-is)
    ]
