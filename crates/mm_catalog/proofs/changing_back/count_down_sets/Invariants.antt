use Rattle.mm_catalog.specs.Counted.{AreCountedBy, naming, none}
use Rattle.mm_catalog.proofs.Relinking.{first_links}
use Rattle.mm_catalog.proofs.changing_back.count_down_sets.Given as goal

abbrev pub invariant-loop-column : goal.invariant-loop-column
invariant-loop-column l = AreCountedBy l.initial.before l.before none (naming (first_links l.relation.targets l.sets l.row.row l.column-index))
