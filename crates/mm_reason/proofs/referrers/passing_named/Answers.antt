use Rattle.std.proofs.Common.{IsSome, sym, subst}
use Rattle.std.specs.FinMap as finite
use Rattle.std.specs.List.{All}
use Rattle.mm_catalog.proofs.Among.{there_at}
use Rattle.mm_reason.proofs.referrers.passing_named.Goals as goal

pub at-requires : goal.at-requires
at-requires c = there_at c.args.catalog.now c.a_catalog_is_consistent.ensures c.args.table.0 c.requires.0 c.requires.1

pub first_named-requires : goal.first_named-requires
first_named-requires c =
    subst (λ rs. All (λ r. IsSome (finite.get c.at.result.now.rows r)) rs) (sym c.deref.ensures) (c.in_ok-rows.ensures.passing.held c.at.result.now c.at.ensures)
