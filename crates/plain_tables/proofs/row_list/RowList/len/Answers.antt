use Rattle.std.proofs.Common.{◌∙◌}
use Rattle.plain_tables.proofs.RowLists.{rows-length}
use Rattle.plain_tables.proofs.row_list.RowList.len.Goals as goal

pub returns-clause-count : goal.returns-clause-count
returns-clause-count c = rw (← c.self.view_is, rows-length 0 c.self.inside.ends.items c.self.inside.values.items) (c.len.ensures ∙ c.self.inside.ends.ok.0)
