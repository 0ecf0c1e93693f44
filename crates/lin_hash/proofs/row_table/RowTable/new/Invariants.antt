use Rattle.std.proofs.Common.{◌≡◌, replicate}
use Rattle.lin_hash.specs.Nodes.{no_link}
use Rattle.lin_hash.proofs.row_table.RowTable.new.Given as goal

abbrev pub invariant-loop : goal.invariant-loop
invariant-loop l = l.heads.items ≡ replicate l.counter no_link
