use Rattle.std.proofs.Common.{rules}
use Rattle.std.specs.Ordering.{is_lt}
use Rattle.std.proofs.lemmas.Fn.{always_returns_same}
use Rattle.std.proofs.lemmas.List.Sorted.{ranks_by}
use Rattle.mm_relation.proofs.sorted_rows.sort_by_value.Goals as goal

pub returns-clause-sorted : goal.returns-clause-sorted
returns-clause-sorted g c =
    c.in_ok-sort_by.ensures.sorted (λ s t. is_lt (g.V.Ord.cmp s.value t.value)) (ranks_by g.met.V.Ord.total (λ s. s.value)) (always_returns_same _ _ _ (λ a r f' k. search rules))

pub returns-clause-stable : goal.returns-clause-stable
returns-clause-stable g c =
    c.in_ok-sort_by.ensures.stable (λ s t. is_lt (g.V.Ord.cmp s.value t.value)) (ranks_by g.met.V.Ord.total (λ s. s.value)) (always_returns_same _ _ _ (λ a r f' k. search rules))
