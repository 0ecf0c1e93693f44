use Rattle.std.proofs.Common.{◌∙◌, sym, ap}
use Rattle.mm_catalog.specs.declared.renumbering.Renumbering.{Renumbering}
use Rattle.mm_catalog.specs.Dropped.{moved_by}
use Rattle.mm_catalog.proofs.Gone.{moved_down-before, moved_down-behind, moved_up-before, moved_up-behind}
use Rattle.mm_catalog.proofs.renumbering.moved.Goals as goal

pub returns-then-table-gone : goal.returns-then-table-gone
returns-then-table-gone c =
    sym (moved_up-behind c.in-Gone.gone.0 c.args.table.0 c.if-table-gone.true) ∙ ap (λ (m : Renumbering). moved_by m c.args.table.0) (sym c.in-Gone.is)

pub returns-else-table-gone : goal.returns-else-table-gone
returns-else-table-gone c =
    sym (moved_up-before c.in-Gone.gone.0 c.args.table.0 c.if-table-gone.false) ∙ ap (λ (m : Renumbering). moved_by m c.args.table.0) (sym c.in-Gone.is)

pub returns-then-table-back : goal.returns-then-table-back
returns-then-table-back c =
    sym (moved_down-behind c.in-Back.back.0 c.args.table.0 c.if-table-back.true) ∙ ap (λ (m : Renumbering). moved_by m c.args.table.0) (sym c.in-Back.is)

pub returns-else-table-back : goal.returns-else-table-back
returns-else-table-back c =
    sym (moved_down-before c.in-Back.back.0 c.args.table.0 c.if-table-back.false) ∙ ap (λ (m : Renumbering). moved_by m c.args.table.0) (sym c.in-Back.is)
