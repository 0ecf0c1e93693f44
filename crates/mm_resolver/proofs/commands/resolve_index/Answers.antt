use Rattle.std.proofs.Common.{rules, ◌≡◌, ◌∙◌, Some, true, false, sym, ap}
use Rattle.std.specs.Prelude.{Err}
use Rattle.mm_resolver.proofs.Meanings.{index_missed, index_found, named_within}
use Rattle.mm_resolver.proofs.commands.resolve_index.Goals as goal

pub returns-in_err-column : goal.returns-in_err-column
returns-in_err-column g c =
    let is : c.from_residual-in_err-column.result ≡ Err c.in_err-column.field-0.0 = search rules in
    is
    ∙ ap (λ e. Err e) c.in_err-column.ensures.refused
    ∙ sym (index_missed (g.S.Schemas.database c.args.schemas.now) c.args.table c.in_ok-named_table.named_table c.in_ok-named_table.ensures.found c.args.column c.args.kind c.in_err-column.ensures.missed)

pub has_index-requires : goal.has_index-requires
has_index-requires g c = named_within (g.S.Schemas.database c.args.schemas.now) c.args.table c.in_ok-named_table.named_table c.in_ok-named_table.ensures.found

pub returns-then-has_index : goal.returns-then-has_index
returns-then-has_index g c =
    sym (index_found (g.S.Schemas.database c.args.schemas.now) c.args.table c.in_ok-named_table.named_table c.in_ok-named_table.ensures.found c.args.column c.args.kind c.in_ok-column.column c.in_ok-column.ensures.found true
    (c.has_index.ensures ∙ ap (λ b. Some b) c.if-has_index.true))

pub returns : goal.returns
returns g c =
    sym (index_found (g.S.Schemas.database c.args.schemas.now) c.args.table c.in_ok-named_table.named_table c.in_ok-named_table.ensures.found c.args.column c.args.kind c.in_ok-column.column c.in_ok-column.ensures.found false
    (c.has_index.ensures ∙ ap (λ b. Some b) c.if-has_index.false))
