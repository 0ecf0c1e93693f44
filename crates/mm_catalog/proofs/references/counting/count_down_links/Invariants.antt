use Rattle.mm_catalog.specs.Counted.{AreCountedBy, naming, none}
use Rattle.mm_catalog.proofs.Counted.{first_links}
use Rattle.mm_catalog.proofs.references.counting.count_down_links.Given as goal

abbrev pub invariant-loop-column : goal.invariant-loop-column
invariant-loop-column l = AreCountedBy l.initial.before l.before none (naming (first_links l.relation.targets l.row.row l.column))
