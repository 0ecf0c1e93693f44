use Rattle.plain_tables.specs.Values.{value_cmp_total}
use Rattle.plain_tables.proofs.Values.{value_cmp-exact}
use Rattle.plain_tables.proofs.laws.values_are_ordered.Goals as goal

pub returns : goal.returns
returns c = record { total = value_cmp_total; exact = value_cmp-exact }
