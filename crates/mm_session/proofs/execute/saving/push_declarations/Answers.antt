use Rattle.std.proofs.Common.{◌∙◌, ◌++◌, ◌<◌, ◌∷◌, [], append_assoc, length, map, take, sym, ap, arith}
use Rattle.common_lemmas.proofs.Places.{slice_get-inside}
use Rattle.mm_catalog.specs.Seen.{database_of}
use Rattle.mm_session.specs.Listing.{command_lines}
use Rattle.mm_session.specs.Saving.{declaration, first_line}
use Rattle.mm_session.proofs.Saves.{declared_more}
use Rattle.mm_session.proofs.execute.saving.push_declarations.Goals as goal

pub loop-number-preserved : goal.loop-number-preserved
loop-number-preserved c =
    let tables = database_of c.args.catalog.now in
    let n = c.loop-number.number in
    let within : n < length tables = omega (arith, c.loop-number-test.true, c.table_count-number-end.ensures) in
    let found = slice_get-inside tables n within in
    let front = command_lines (map declaration (take n tables)) in
    let one = command_lines (declaration found.0 ∷ []) in
    c.in_ok-push_table.ensures found.0 found.1
    ∙ ap (λ text. text ++ one) c.loop-number.invariant
    ∙ append_assoc c.args.answer.now (first_line ++ front) one
    ∙ ap (λ text. c.args.answer.now ++ text) (append_assoc first_line front one ∙ ap (λ text. first_line ++ text) (sym (declared_more tables n found.0 found.1)))
