use Rattle.temp_list.specs.Leading.{LeadsWith}
use Rattle.temp_list.proofs.Leading.{RiseBelow, IsLastOf}
use Rattle.temp_list.proofs.sorting.leading_keys_rise.Given as goal

abbrev pub invariant-loop-row : goal.invariant-loop-row
invariant-loop-row l = RiseBelow (λ row. LeadsWith l.relation row.items) l.rows l.row-index × IsLastOf (λ row. LeadsWith l.relation row.items) l.rows l.row-index l.last
