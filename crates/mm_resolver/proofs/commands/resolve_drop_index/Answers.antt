use Rattle.std.proofs.Common.{rules, ◌≡◌, ◌∙◌, Some, true, false, sym, ap}
use Rattle.std.specs.Prelude.{Err}
use Rattle.mm_resolver.proofs.Meanings.{drop_index_missed, drop_index_found, named_within}
use Rattle.mm_resolver.proofs.commands.resolve_drop_index.Goals as goal

pub returns-in_err-column : goal.returns-in_err-column
returns-in_err-column g c =
    let is : c.from_residual-in_err-column.result ≡ Err c.in_err-column.field-0.0 = search rules in
    is
    ∙ ap (λ e. Err e) c.in_err-column.ensures.refused
    ∙ sym (drop_index_missed (g.S.Schemas.database c.args.schemas.now) c.args.table c.in_ok-named_table.named_table c.in_ok-named_table.ensures.found c.args.column c.args.kind c.in_err-column.ensures.missed)

pub declares-requires : goal.declares-requires
declares-requires g c = named_within (g.S.Schemas.database c.args.schemas.now) c.args.table c.in_ok-named_table.named_table c.in_ok-named_table.ensures.found

pub returns-then-not-declares : goal.returns-then-not-declares
returns-then-not-declares g c =
    sym (drop_index_found (g.S.Schemas.database c.args.schemas.now) c.args.table c.in_ok-named_table.named_table c.in_ok-named_table.ensures.found c.args.column c.args.kind c.in_ok-column.column c.in_ok-column.ensures.found false
    (c.declares.ensures ∙ ap (λ b. Some b) (search rules)))

pub returns : goal.returns
returns g c =
    sym (drop_index_found (g.S.Schemas.database c.args.schemas.now) c.args.table c.in_ok-named_table.named_table c.in_ok-named_table.ensures.found c.args.column c.args.kind c.in_ok-column.column c.in_ok-column.ensures.found true
    (c.declares.ensures ∙ ap (λ b. Some b) (search rules)))
