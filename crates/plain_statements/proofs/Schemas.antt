-- Schemas: statements are resolved alike where tables have the same names and columns.
use Rattle.std.proofs.Common.{◌≡◌, false, List, [], refl, sym, ◌∙◌}
use Rattle.plain_tables.specs.ResolvedLaws.{is_on_indexes}
use Rattle.plain_tables.specs.declared.value.Value.{Value}
use Rattle.plain_tables.proofs.Schemas.{resolved_by_schemas}
use Rattle.plain_statements.specs.declared.statement.Statement.{Statement}
use Rattle.plain_statements.specs.declared.statement.Statement.TheVariants as statement
use Rattle.plain_statements.specs.Filling.{filled}
use Rattle.plain_statements.specs.Laws.{ResolutionStays}

filled_is_on_rows : (values : List Value) (s : Statement) → is_on_indexes (filled values s) ≡ false
filled_is_on_rows values (statement.Insert name slots) = refl
filled_is_on_rows values other = refl

pub resolution-stays : ResolutionStays
resolution-stays tables others s r alike resolves values =
    sym (resolved_by_schemas [] tables others (filled values s) (filled_is_on_rows values s) alike) ∙ resolves values
