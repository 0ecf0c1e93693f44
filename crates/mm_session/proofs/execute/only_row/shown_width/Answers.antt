use Rattle.std.proofs.Common.{◌∙◌, ap, length, sym}
use Rattle.plain_tables.specs.declared.schema.Schema.{Schema}
use Rattle.mm_session.proofs.OnlyRow.{all_wide}
use Rattle.mm_session.proofs.execute.only_row.shown_width.Goals as goal

pub returns-in-All : goal.returns-in-All
returns-in-All c =
    rw c.in-All.is (c.len.ensures ∙ ap (λ (s : Schema). length s.columns) c.schema.ensures ∙ sym (all_wide (length c.args.relation.now.schema.columns)))
