use Rattle.std.proofs.Common.{rules, ◌≡◌, Some, None, ◌∙◌, sym, ap}
use Rattle.std.specs.List.{slice_get}
use Rattle.std.specs.Option.{option_and_then}
use Rattle.plain_tables.specs.References.{own_type}
use Rattle.mm_resolver.proofs.Tables.{named_none, key_of}
use Rattle.mm_resolver.proofs.types.key_type.Goals as goal

pub returns-in_err-table : goal.returns-in_err-table
returns-in_err-table g c = rw (named_none (g.S.Schemas.database c.args.schemas.now) c.args.name.now (sym c.table_number.ensures ∙ c.in_err-table.was)) (search rules)

pub returns-in_err-key : goal.returns-in_err-key
returns-in_err-key g c =
    let none : slice_get c.columns.result.now 0 ≡ None = search rules in
    rw (key_of (g.S.Schemas.database c.args.schemas.now) c.args.name.now c.in_ok-table.table c.columns.result.now (sym c.table_number.ensures ∙ c.in_ok-table.was) c.columns.ensures, none) (search rules)

pub returns : goal.returns
returns g c =
    let there : slice_get c.columns.result.now 0 ≡ Some c.in_ok-key.key.now = search rules in
    c.own_type.ensures ∙ ap (option_and_then (λ k. own_type k.kind)) (sym there)
    ∙ sym (key_of (g.S.Schemas.database c.args.schemas.now) c.args.name.now c.in_ok-table.table c.columns.result.now (sym c.table_number.ensures ∙ c.in_ok-table.was) c.columns.ensures)
