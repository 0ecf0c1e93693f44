use Rattle.mm_catalog.proofs.Outlined.{came_outlined}
use Rattle.mm_catalog.proofs.catalog.Catalog.insert_row.Goals as goal

pub returns-clause-came : goal.returns-clause-came
returns-clause-came c = came_outlined c.args.self.now c.put.new.self c.args.table.0 c.args.values.now c.put.result c.put.ensures.came
