use Rattle.std.proofs.Common.{◌≡◌, ◌++◌, length, ap, sym, ◌∙◌, append_assoc}
use Rattle.std.specs.List.{flat_map}
use Rattle.std.proofs.lemmas.Option.{same_Some}
use Rattle.std.proofs.lemmas.Result.{on_ok_weaker}
use Rattle.std.specs.Fmt.{decimal}
use lib.Chars.{codes}
use Rattle.plain_tables.specs.AnswerText.{text_line}
use Rattle.mm_session.specs.IndexAnswers.{index_line, heading_line}
use Rattle.mm_session.proofs.execute.ReadExecutor.list_indexes.Goals as goal

pub returns : goal.returns
returns c =
    let start = c.args.answer.now in
    let count = text_line (codes "rows " ++ decimal c.index_count.result) in
    on_ok_weaker c.push_indexes.result
    (λ (columns, told, are, added).
    let records = flat_map (index_line columns) told in
    let many : c.index_count.result ≡ length told = same_Some c.index_count.result (length told) (sym c.index_count.ensures ∙ are.number) in (
      columns,
      told,
      are,
      added ∙ ap (λ text. text ++ records) (c.in_ok-push.ensures.pushed ∙ ap (λ text. text ++ heading_line) c.in_ok-push_count.ensures.pushed)
          ∙ append_assoc (start ++ count) heading_line records ∙ append_assoc start count (heading_line ++ records)
          ∙ ap (λ n. start ++ (text_line (codes "rows " ++ decimal n) ++ (heading_line ++ records))) many,
    ))
    c.push_indexes.ensures
