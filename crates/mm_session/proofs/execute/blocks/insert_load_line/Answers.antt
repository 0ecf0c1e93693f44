use Rattle.std.proofs.Common.{◌≡◌, ◌++◌, ◌-◌, ◌∷◌, [], List, ℕ, length, ◌∙◌, ap}
use Rattle.std.proofs.lemmas.Result.{on_ok_weaker}
use Rattle.plain_tables.specs.AnswerText.{text_line}
use Rattle.plain_tables.specs.Spelling.{canonical_spelling}
use Rattle.plain_tables.specs.declared.command.Command.TheVariants as command
use Rattle.mm_session.proofs.Dumps.{line_before}
use Rattle.mm_session.proofs.execute.blocks.insert_load_line.Goals as goal

pub returns : goal.returns
returns c =
    let whole = c.args.answer.now in
    let line_of : ℕ → List ℕ = λ n. text_line (canonical_spelling (command.Load c.args.name.now n)) in
    let says : c.as_bytes.result.now ≡ line_of (length whole - c.args.start) =
    c.as_bytes.ensures.value ∙ c.in_ok-push_str.ensures.bytes
    ∙ ap (λ t. t ++ 10 ∷ []) (c.in_ok-print_load.ensures ∙ ap (λ t. t ++ canonical_spelling (command.Load c.args.name.now (c.len.result - c.args.start))) c.new-line.ensures.bytes)
    ∙ ap (λ n. line_of (n - c.args.start)) c.len.ensures in
    on_ok_weaker c.insert.result (line_before line_of c.args.start c.as_bytes.result.now whole c.insert.new.self says) c.insert.ensures
