use Rattle.std.proofs.Common.{◌∙◌, ◌++◌, ap, length}
use Rattle.std.specs.Fmt.{decimal}
use Rattle.std.specs.List.{sum_by}
use Rattle.std.specs.Prelude.{codes}
use Rattle.std.proofs.lemmas.Result.{on_ok_weaker}
use Rattle.plain_tables.specs.Tables.{Table}
use Rattle.mm_catalog.specs.Seen.{database_of}
use Rattle.mm_session.proofs.Saves.{last_made}
use Rattle.mm_session.proofs.execute.saving.push_last.Goals as goal

pub returns : goal.returns
returns c =
    let tables = database_of c.args.catalog.now in
    let start = c.args.answer.now in
    on_ok_weaker c.push-3.result
    (λ pushed.
    pushed
    ∙ ap (λ t. t ++ codes " rows\n")
    (c.in_ok-push_wide.ensures
    ∙ ap (λ t. t ++ decimal c.all_rows.result)
    (c.in_ok-push-2.ensures.pushed
    ∙ ap (λ t. t ++ codes " tables, ") (c.in_ok-push_number.ensures.pushed ∙ ap (λ t. t ++ decimal c.table_count.result) c.in_ok-push.ensures.pushed)))
    ∙ ap (λ n. ((((start ++ codes "# end of the dump: ") ++ decimal n) ++ codes " tables, ") ++ decimal c.all_rows.result) ++ codes " rows\n") c.table_count.ensures
    ∙ ap (λ n. ((((start ++ codes "# end of the dump: ") ++ decimal (length tables)) ++ codes " tables, ") ++ decimal n) ++ codes " rows\n") c.all_rows.ensures
    ∙ last_made start (codes "# end of the dump: ") (decimal (length tables)) (codes " tables, ") (decimal (sum_by (λ (t : Table). length t.rows) tables)) (codes " rows"))
    c.push-3.ensures.pushed
