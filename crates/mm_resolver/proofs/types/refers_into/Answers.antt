use Rattle.std.proofs.Common.{◌≡◌, Some, ◌∙◌, sym, ap, is_some, option_copied}
use Rattle.plain_tables.specs.References.{referred}
use Rattle.mm_resolver.proofs.Tables.{is_named_there}
use Rattle.mm_resolver.proofs.types.refers_into.Goals as goal

pub returns-in-Some : goal.returns-in-Some
returns-in-Some g c =
    let named : referred c.args.column.now.kind ≡ Some c.in-Some.name.now = sym c.referred.ensures ∙ ap option_copied c.in-Some.is in
    rw named (c.is_some.ensures ∙ ap is_some c.table_number.ensures ∙ is_named_there (g.S.Schemas.database c.args.schemas.now) c.in-Some.name.now)
