use Rattle.std.proofs.Common.{◌∙◌, List, ap, subst, arith, rules}
use Rattle.std.specs.List.Sorted.{IsPermutation}
use Rattle.std.specs.Ordering.{is_lt}
use Rattle.std.proofs.lemmas.Fn.{always_returns_same}
use Rattle.std.proofs.lemmas.List.{take_all}
use Rattle.std.proofs.lemmas.List.Sorted.{ranks_by}
use Rattle.project_hash.specs.Distinct.{values_cmp_total}
use Rattle.project_hash.specs.Known.{row_states}
use Rattle.project_hash.specs.Shown.{ShownState, rows_cmp}
use Rattle.project_hash.proofs.scanning.in_order.Goals as goal

pub returns : goal.returns
returns g c = record {
  moved = subst (λ (rows : List ShownState). IsPermutation rows c.sort_by.new.self.items) (c.loop-r.invariant ∙ ap (row_states c.args.table.now) (take_all c.loop-r.r-index c.args.known.now (omega arith))) c.sort_by.ensures.permutation;
  sorted = c.in_ok-sort_by.ensures.sorted (λ x y. is_lt (rows_cmp x y)) (ranks_by values_cmp_total (λ (r : ShownState). r.values)) (always_returns_same _ _ _ (λ a r f' k. search rules));
}
