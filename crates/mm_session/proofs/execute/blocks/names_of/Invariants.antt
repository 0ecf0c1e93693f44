use Rattle.std.proofs.Common.{◌≡◌, take}
use Rattle.plain_tables.specs.Effects.{column_names}
use Rattle.mm_session.proofs.execute.blocks.names_of.Given as goal

abbrev pub invariant-loop-column : goal.invariant-loop-column
invariant-loop-column l = l.names.items ≡ column_names (take l.column-index l.columns)
