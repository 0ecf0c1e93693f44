use Rattle.std.proofs.Common.{◌≡◌, ◌∙◌, ◌++◌, ◌<◌, ◌∷◌, [], List, ℕ, length, sym, ap, arith}
use Rattle.std.proofs.lemmas.Option.{same_Some}
use Rattle.std.proofs.lemmas.Result.{on_ok_weaker}
use Rattle.plain_tables.specs.AnswerText.{declaration_lines}
use Rattle.plain_tables.specs.Tables.{Table}
use Rattle.mm_catalog.specs.Seen.{table_of}
use Rattle.mm_catalog.proofs.Among.{among_at, named_at, table_at}
use Rattle.mm_catalog.proofs.Tables.{database-length, database-name}
use Rattle.mm_session.proofs.Listings.{table_step}
use Rattle.mm_session.proofs.execute.listing.push_table_lines.Goals as goal

pub at-relation-requires : goal.at-relation-requires
at-relation-requires c = omega (arith, c.requires, database-length c.args.catalog.now c.a_catalog_is_consistent.ensures.named)

pub push_index_lines-requires : goal.push_index_lines-requires
push_index_lines-requires c = λ k d l.
    let among = among_at c.args.catalog.now c.a_catalog_is_consistent.ensures c.args.table.0 c.at-relation.result.now c.at-relation.ensures in
    omega (arith, among.kept.within k d l, among.kept.width)

pub returns : goal.returns
returns c =
    let catalog = c.args.catalog.now in
    let ok = c.a_catalog_is_consistent.ensures in
    let s = c.at-relation.result.now in
    let within : c.args.table.0 < length catalog.relations = omega (arith, c.requires, database-length catalog ok.named) in
    let named = named_at catalog ok c.args.table.0 within in
    let called : c.table_name-name.result.now ≡ named.0 =
    same_Some c.table_name-name.result.now named.0 (sym c.table_name-name.ensures ∙ database-name catalog ok.named c.args.table.0 named.0 named.1 within) in
    on_ok_weaker c.push_index_lines.result
    (λ listed t at.
    table_step catalog.relations c.table_name-name.result.now s c.schema.result.now c.args.answer.now c.print_table.new.line
    c.push.new.self c.push_index_lines.new.answer c.schema.ensures c.in_ok-print_table.ensures c.in_ok-push.ensures.pushed listed
    ∙ ap (λ (n : List ℕ). c.args.answer.now ++ declaration_lines (table_of catalog.relations n s ∷ [])) called
    ∙ ap (λ (u : Table). c.args.answer.now ++ declaration_lines (u ∷ [])) (sym (table_at catalog ok c.args.table.0 named.0 s t named.1 c.at-relation.ensures at)))
    c.push_index_lines.ensures
