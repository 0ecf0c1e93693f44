use Rattle.std.proofs.Common.{List, length, ap, arith}
use Rattle.plain_tables.specs.Tables.{Row}
use Rattle.mm_catalog.proofs.TakenRows.{left-length}
use Rattle.mm_catalog.proofs.load.MovedRowsLoadedRows.len.Goals as goal

pub returns : goal.returns
returns c =
    let count = left-length c.self.inside.start c.self.inside.place c.self.inside.ends.items c.self.inside.values.items in
    let seen = ap (λ (rows : List Row). length rows) c.self.view_is in
    omega (arith, c.saturating_sub.ensures, c.len.ensures, count, seen, c.self.inside.ends.ok.0)
