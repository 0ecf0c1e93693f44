-- The end of a tree: the last item of its rightmost node stands below the range.
use Rattle.std.proofs.Common.{◌≡◌, ℕ, ◌+◌, ◌-◌, ◌<◌, List, [], length, get_or, refl, sym, subst, arith, false, Ordering}
use Rattle.std.specs.List.{All}
use Rattle.std.specs.declared.cmp.Ordering.TheVariants.{Less, Greater}
use Rattle.std.proofs.lemmas.List.{drop_all}
use Rattle.std.proofs.lemmas.List.Elements.{All-nil}
use Rattle.mm_index.specs.Range.{NeverFalls}
use Rattle.ttree_node.specs.Tree.{Zipper, Label, whole, list, items_of, has_right, list_until, list_from, list_after}
use Rattle.ttree.specs.Searching.{IsGap}
use Rattle.ttree.proofs.Cuts.{below_cut}
use Rattle.ttree.proofs.Descent.{no_right_list}

-- What is below the range is all, where the last item is and nothing stands behind it.
pub gap-last : {I : Type 0} (place : I → Ordering) (z : Zipper (Label I)) → NeverFalls place (list (whole z)) → (d : I) → 0 < length (items_of z.here)
    → has_right z.here ≡ false → list_after z.above ≡ [] → place (get_or (items_of z.here) (length (items_of z.here) - 1) d) ≡ Less
    → IsGap place z (length (items_of z.here))
gap-last {I = I} place z in_order d some alone after last =
    let n = length (items_of z.here) in
    let is : n - 1 + 1 ≡ n = omega (arith, some) in
    let nothing : list_from n z ≡ [] = rw (drop_all n (items_of z.here) (omega arith), no_right_list z.here alone, after) refl in
    record {
      index = omega arith;
      below = subst (λ (k : ℕ). All (λ r. place r ≡ Less) (list_until k z)) is (below_cut place z in_order (n - 1) d (omega (arith, some)) last);
      above = subst (λ (xs : List I). All (λ r. place r ≡ Greater) xs) (sym nothing) (All-nil (λ r. place r ≡ Greater));
      left_open = λ e. absurd (omega (arith, e, some));
      right_open = λ e. alone;
    }
