use Rattle.temp_list.specs.Leading.{HasIntegerKey}
use Rattle.temp_list.proofs.Leading.{RiseBelow, IsLastOf}
use Rattle.temp_list.proofs.keyed.integer_keys_rise.Given as goal

abbrev pub invariant-loop-r : goal.invariant-loop-r
invariant-loop-r l = RiseBelow (HasIntegerKey l.relation) l.rows l.r-index × IsLastOf (HasIntegerKey l.relation) l.rows l.r-index l.last
