-- Two neighbours in a node between which a search ends.
use Rattle.std.proofs.Common.{◌≡◌, ◌∙◌, ℕ, ◌+◌, ◌<◌, List, length, get_or, sym, ap, subst, arith, Ordering}
use Rattle.std.proofs.lemmas.List.{get_or_default}
use Rattle.std.specs.declared.cmp.Ordering.TheVariants.{Less, Greater}
use Rattle.mm_index.specs.Range.{NeverFalls}
use Rattle.ttree_node.specs.Tree.{Zipper, Label, whole, list, items_of}
use Rattle.ttree.specs.Searching.{IsGap}
use Rattle.ttree.proofs.Cuts.{below_cut, above_cut}

-- of two neighbours in a node the one stands below the range and the other above it
pub gap_between : {I : Type 0} (place : I → Ordering) (z : Zipper (Label I)) → NeverFalls place (list (whole z)) → (i : ℕ) (d : I) → i + 1 < length (items_of z.here)
    → place (get_or (items_of z.here) i d) ≡ Less → place (get_or (items_of z.here) (i + 1) d) ≡ Greater → IsGap place z (i + 1)
gap_between place z in_order i d l below above = record {
  index = omega (arith, l);
  below = below_cut place z in_order i d (omega (arith, l)) below;
  above = above_cut place z in_order (i + 1) d l above;
  left_open = λ e. absurd (omega (arith, e));
  right_open = λ e. absurd (omega (arith, e, l));
}

-- the same, of two items that were looked up
pub gap_at : {I : Type 0} (place : I → Ordering) (z : Zipper (Label I)) → NeverFalls place (list (whole z)) → (items : List I) → items ≡ items_of z.here → (i j : ℕ) → i + 1 ≡ j → j < length items
    → (x y : I) → x ≡ get_or items i x → y ≡ get_or items j y → place x ≡ Less → place y ≡ Greater → IsGap place z j
gap_at place z in_order items same i j next l x y x_is y_is below above =
    let here : length items ≡ length (items_of z.here) = ap (λ xs. length xs) same in
    let x_at : x ≡ get_or (items_of z.here) i x = x_is ∙ ap (λ xs. get_or xs i x) same in
    let y_at : y ≡ get_or (items_of z.here) (i + 1) x = y_is ∙ get_or_default items j y x l ∙ ap (λ xs. get_or xs j x) same ∙ ap (λ k. get_or (items_of z.here) k x) (sym next) in
    subst (λ k. IsGap place z k) next
    (gap_between place z in_order i x (omega (arith, l, here, next)) (ap place (sym x_at) ∙ below) (ap place (sym y_at) ∙ above))
