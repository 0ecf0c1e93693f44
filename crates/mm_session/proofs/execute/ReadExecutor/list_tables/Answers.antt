use Rattle.std.proofs.Common.{◌∙◌, ◌++◌, ◌<◌, ◌∷◌, [], append_assoc, length, take, sym, ap, arith}
use Rattle.common_lemmas.proofs.Places.{slice_get-inside}
use Rattle.plain_tables.specs.AnswerText.{declaration_lines}
use Rattle.mm_catalog.specs.Seen.{database_of}
use Rattle.mm_session.proofs.Listings.{tables_more}
use Rattle.mm_session.proofs.execute.ReadExecutor.list_tables.Goals as goal

pub loop-number-preserved : goal.loop-number-preserved
loop-number-preserved c =
    let tables = database_of c.args.catalog.now in
    let within : c.loop-number.number < length tables = omega (arith, c.loop-number-test.true, c.table_count-number-end.ensures) in
    let found = slice_get-inside tables c.loop-number.number within in
    c.in_ok-push_table_lines.ensures found.0 found.1
    ∙ ap (λ text. text ++ declaration_lines (found.0 ∷ [])) c.loop-number.invariant
    ∙ append_assoc c.args.answer.now (declaration_lines (take c.loop-number.number tables)) (declaration_lines (found.0 ∷ []))
    ∙ ap (λ text. c.args.answer.now ++ text) (sym (tables_more tables c.loop-number.number found.0 found.1))
