use Rattle.std.proofs.Common.{◌≡◌, ◌∙◌, ◌<◌, length, sym, arith}
use Rattle.std.proofs.lemmas.Option.{same_Some}
use Rattle.std.proofs.lemmas.Result.{on_ok_weaker}
use Rattle.mm_catalog.proofs.Among.{named_at, table_at}
use Rattle.mm_catalog.proofs.Tables.{database-length, database-name}
use Rattle.mm_session.proofs.Saves.{table_declared}
use Rattle.mm_session.proofs.execute.saving.push_table.Goals as goal

pub at-requires : goal.at-requires
at-requires c = omega (arith, c.requires, database-length c.args.catalog.now c.a_catalog_is_consistent.ensures.named)

pub returns : goal.returns
returns c =
    let catalog = c.args.catalog.now in
    let ok = c.a_catalog_is_consistent.ensures in
    let s = c.at.result.now in
    let within : c.args.table.0 < length catalog.relations = omega (arith, c.requires, database-length catalog ok.named) in
    let named = named_at catalog ok c.args.table.0 within in
    let called : c.table_name.result.now ≡ named.0 =
    same_Some c.table_name.result.now named.0 (sym c.table_name.ensures ∙ database-name catalog ok.named c.args.table.0 named.0 named.1 within) in
    on_ok_weaker c.push.result
    (λ pushed t at.
    table_declared catalog.relations named.0 c.table_name.result.now s c.schema.result.now c.args.answer.now c.print_table.new.line c.push.new.self
    c.schema.ensures called c.in_ok-print_table.ensures pushed t (table_at catalog ok c.args.table.0 named.0 s t named.1 c.at.ensures at))
    c.push.ensures.pushed
