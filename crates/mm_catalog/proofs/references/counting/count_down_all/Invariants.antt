use Rattle.std.proofs.Common.{map, take}
use Rattle.mm_catalog.specs.Counted.{AreCountedBy, linked_of, naming, none}
use Rattle.mm_catalog.proofs.references.counting.count_down_all.Given as goal

abbrev pub invariant-loop-link : goal.invariant-loop-link
invariant-loop-link l = AreCountedBy l.initial.before l.before none (naming (map linked_of (take l.link-index l.links)))
