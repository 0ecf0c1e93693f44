use Rattle.std.proofs.Common.{rules, ◌<◌, length}
use Rattle.std.proofs.lemmas.List.Elements.{All-rest}
use Rattle.plain_tables.specs.declared.numbers.TableNumber.{TableNumber}
use Rattle.temp_list.proofs.sorting.+compare_rows.Goals as goal

pub compare_rows-requires : goal.compare_rows-requires
compare_rows-requires g t c κs within = (
  search rules,
  (within, All-rest (λ (n : TableNumber). n.0 < length (g.R.Relations.tables c.args.tables.now)) c.in-Some.table.now c.in-Some.sources.now c.args.sources.now c.in-Some.ensures.cases.0 c.requires),
)
