use Rattle.std.proofs.Common.{◌≡◌, false, take}
use Rattle.std.specs.List.{All}
use Rattle.plain_tables.specs.declared.schema.Column.{Column}
use Rattle.mm_session.specs.Saving.{takes_null}
use Rattle.mm_session.proofs.execute.emptied.any_may_be_null.Given as goal

abbrev pub invariant-loop-column : goal.invariant-loop-column
invariant-loop-column l = All (λ (column : Column). takes_null column.kind ≡ false) (take l.column-index l.columns)
