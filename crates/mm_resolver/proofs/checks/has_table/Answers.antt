use Rattle.std.proofs.Common.{◌∙◌, ap, is_some}
use Rattle.mm_resolver.proofs.Tables.{is_named_there}
use Rattle.mm_resolver.proofs.checks.has_table.Goals as goal

pub returns : goal.returns
returns g c = c.is_some.ensures ∙ ap is_some c.table_number.ensures ∙ is_named_there (g.S.Schemas.database c.args.schemas.now) c.args.name.now
