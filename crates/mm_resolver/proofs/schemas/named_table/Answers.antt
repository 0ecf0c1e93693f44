use Rattle.std.proofs.Common.{◌∙◌, sym}
use Rattle.mm_resolver.proofs.Tables.{is_named_table, named_none}
use Rattle.mm_resolver.proofs.schemas.named_table.Goals as goal

pub returns-in_default-clause-missed : goal.returns-in_default-clause-missed
returns-in_default-clause-missed g c = named_none (g.S.Schemas.database c.args.schemas.now) c.args.name.now (sym c.table_number.ensures ∙ c.in_default.is)

pub returns-clause-found : goal.returns-clause-found
returns-clause-found g c =
    is_named_table (g.S.Schemas.database c.args.schemas.now) c.args.name.now _
    (sym c.table_number.ensures ∙ c.in-Some.is) c.table_name.ensures c.columns.ensures
