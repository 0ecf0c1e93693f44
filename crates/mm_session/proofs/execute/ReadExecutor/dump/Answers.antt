use Rattle.std.proofs.Common.{◌≡◌, ◌++◌, length, sym, ap, ◌∙◌, arith, length-append}
use Rattle.common_lemmas.proofs.Places.{slice_get-inside}
use Rattle.plain_tables.specs.Doing.{dump_block}
use Rattle.mm_catalog.specs.Seen.{database_of}
use Rattle.mm_session.proofs.Dumps.{dump_answered}
use Rattle.mm_session.proofs.execute.ReadExecutor.dump.Goals as goal

pub insert_load_line-requires : goal.insert_load_line-requires
insert_load_line-requires c =
    let tables = database_of c.args.catalog.now in
    let found = slice_get-inside tables c.args.table.0 c.requires in
    let made = (c.in_ok-answer.ensures.whole found.0 found.1).0 in
    omega (arith, ap length made, length-append c.replace-page.result (dump_block found.0), c.len-start.ensures, ap length c.replace-page.ensures.value)

pub returns-clause-done : goal.returns-clause-done
returns-clause-done c =
    let catalog = c.args.catalog.now in
    let tables = database_of catalog in
    let found = slice_get-inside tables c.args.table.0 c.requires in
    let block = dump_block found.0 in
    let is = c.in_ok-answer.ensures.whole found.0 found.1 in
    let made : c.in_ok-answer.field-0 ≡ c.args.answer.now ++ block = is.0 ∙ ap (λ page. page ++ block) c.replace-page.ensures.value in
    dump_answered catalog.limits tables c.args.table found.0 c.table_name.result.now c.args.answer.now c.insert_load_line.new.answer found.1 c.table_name.ensures is.1
    (c.in_ok-insert_load_line.ensures c.args.answer.now block made (sym c.len-start.ensures))
