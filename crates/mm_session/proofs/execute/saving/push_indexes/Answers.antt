use Rattle.std.proofs.Common.{◌≡◌, ◌∙◌, ◌++◌, ◌<◌, List, ℕ, length, sym, ap, arith}
use Rattle.std.proofs.lemmas.Option.{same_Some}
use Rattle.std.proofs.lemmas.Result.{on_ok_weaker}
use Rattle.plain_tables.specs.Tables.{Table}
use Rattle.mm_catalog.proofs.Among.{among_at, named_at, table_at}
use Rattle.mm_catalog.proofs.Tables.{database-length, database-name}
use Rattle.mm_session.specs.Listing.{command_lines, index_commands}
use Rattle.mm_session.specs.Saving.{index_declarations}
use Rattle.mm_session.proofs.Saves.{indexes_declared}
use Rattle.mm_session.proofs.execute.saving.push_indexes.Goals as goal

pub at-requires : goal.at-requires
at-requires c = omega (arith, c.requires, database-length c.args.catalog.now c.a_catalog_is_consistent.ensures.named)

pub push_index_lines-requires : goal.push_index_lines-requires
push_index_lines-requires c = λ k d l.
    let among = among_at c.args.catalog.now c.a_catalog_is_consistent.ensures c.args.table.0 c.at.result.now c.at.ensures in
    omega (arith, among.kept.within k d l, among.kept.width)

pub returns : goal.returns
returns c =
    let catalog = c.args.catalog.now in
    let ok = c.a_catalog_is_consistent.ensures in
    let s = c.at.result.now in
    let start = c.args.answer.now in
    let within : c.args.table.0 < length catalog.relations = omega (arith, c.requires, database-length catalog ok.named) in
    let named = named_at catalog ok c.args.table.0 within in
    let called : c.table_name.result.now ≡ named.0 =
    same_Some c.table_name.result.now named.0 (sym c.table_name.ensures ∙ database-name catalog ok.named c.args.table.0 named.0 named.1 within) in
    on_ok_weaker c.push_index_lines.result
    (λ listed t at.
    listed ∙ ap (λ (n : List ℕ). start ++ command_lines (index_commands n s.schema.columns s.declared)) called
    ∙ ap (λ text. start ++ text) (indexes_declared catalog.relations named.0 s)
    ∙ ap (λ (u : Table). start ++ command_lines (index_declarations u)) (sym (table_at catalog ok c.args.table.0 named.0 s t named.1 c.at.ensures at)))
    c.push_index_lines.ensures
