use Rattle.std.proofs.Common.{map, sym, ◌∙◌, subst}
use Rattle.std.specs.String.{string_bytes}
use Rattle.mm_catalog.specs.Seen.{database_of}
use Rattle.mm_catalog.specs.Consistent.{IsConsistent}
use Rattle.mm_catalog.proofs.Empty.{database-empty, empty_is_consistent}
use Rattle.mm_catalog.proofs.catalog.Catalog.new.Goals as goal

pub invariant_of-result : goal.invariant_of-result
invariant_of-result c =
    subst IsConsistent
    (λ i. record { limits = c.args.limits; names = map string_bytes (sym c.new.ensures.empty i); relations = sym c.new-2.ensures.items i })
    (empty_is_consistent c.args.limits c.requires)

pub returns-clause-empty : goal.returns-clause-empty
returns-clause-empty c =
    (λ i. database_of (record { limits = c.args.limits; names = map string_bytes (c.new.ensures.empty i); relations = c.new-2.ensures.items i }))
    ∙ database-empty c.args.limits
