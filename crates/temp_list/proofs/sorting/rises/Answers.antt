use Rattle.std.proofs.Common.{rules, refl}
use Rattle.temp_list.proofs.Leading.{first_sorted}
use Rattle.temp_list.proofs.sorting.rises.Goals as goal

pub returns-then-leading_keys_rise : goal.returns-then-leading_keys_rise
returns-then-leading_keys_rise g c = (
  λ told. first_sorted (g.R.Relations.tables c.args.tables.now) c.at.result.now c.args.sources.now c.in-Some.table.now c.args.rows.now (search rules) c.at.ensures (c.if-leading_keys_rise.ensures told),
  λ s. refl,
)
