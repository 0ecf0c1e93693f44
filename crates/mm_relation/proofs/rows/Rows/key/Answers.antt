use Rattle.std.proofs.Common.{◌∙◌, ap, get_or, sym}
use Rattle.mm_relation.proofs.Stored.{key_seen}
use Rattle.mm_relation.proofs.rows.Rows.key.Goals as goal

pub own-requires : goal.own-requires
own-requires c = (c.cells.ensures.keyed.0, c.index-cells-0.is ∙ ap (λ cells. get_or cells 0 c.index-cells-0.result) c.cells.ensures.keyed.2)

pub returns : goal.returns
returns c =
    key_seen c.args.self.now.tuples c.args.r c.cells.result.now c.index-cells-0.result c.own.result.now c.cells.ensures.row c.cells.ensures.keyed (sym c.index-cells-0.is ∙ sym c.own.ensures)
