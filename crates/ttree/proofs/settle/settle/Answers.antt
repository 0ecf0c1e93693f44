use Rattle.std.proofs.Common.{◌≡◌, ◌≤◌, ◌^◌, ◌<◌, ◌∙◌, length, false, sym, ap, subst, arith, lit<, inl, inr}
use Rattle.std.proofs.lemmas.Bool.Decides.{nat_tests}
use Rattle.std.specs.Prelude.{◌==◌}
use Rattle.ttree_node.specs.Tree.{list, whole, has_left, has_right, items_of, up}
use Rattle.ttree_node.specs.Editor.{position, tree_at}
use Rattle.ttree.specs.Removing.{HasLostBelow}
use Rattle.ttree.proofs.Losing.{lost-below, lost-above}
use Rattle.ttree.proofs.Places.{whole-up}
use Rattle.ttree.proofs.settle.settle.Goals as goal
use Rattle.ttree.proofs.settle.settle.Goals.{then-has_left, else-has_left}

pub merge_half-requires : goal.merge_half-requires
merge_half-requires g c =
    let z = position c.args.editor.now in
    let lost : HasLostBelow g.row.MIN g.row.MAX z = lost-below g.row.MIN g.row.MAX z c.requires.lost (elim c.if-has_left.branch [ then-has_left w ↦ inl (cc) | else-has_left w ↦ inr (cc) ]) c.requires.internal in
    (lit< tt, (c.requires.some, (c.requires.ordered, (c.requires.two, (lost, (c.requires.tree, c.requires.short))))))

pub merge_half-requires-then-not-at_root : goal.merge_half-requires-then-not-at_root
merge_half-requires-then-not-at_root g c =
    let z = position c.args.editor.now in
    let left : has_left z.here ≡ false = elim c.if-has_left.branch [ then-has_left w ↦ cc | else-has_left w ↦ cc ] in
    let right : has_right z.here ≡ false = elim c.if-has_left.branch [ then-has_left w ↦ cc | else-has_left w ↦ cc ] in
    let none : (length (items_of z.here) == 0) ≡ false = ap (λ xs. length xs == 0) (sym c.items.ensures) ∙ sym c.is_empty.ensures ∙ c.if-is_empty.false in
    let some : 0 < length (items_of z.here) = grind (arith, nat_tests) in
    let lost : HasLostBelow g.row.MIN g.row.MAX (up z) = lost-above g.row.MIN g.row.MAX z c.requires.lost (sym c.at_root.ensures ∙ c.if-not-at_root.true) some left right in
    let lists : list (tree_at c.up.new.self) ≡ list (tree_at c.args.editor.now) = ap (λ t. list t) c.up.ensures.tree in (
      lit< tt,
      (
        c.requires.some,
        (
          c.requires.ordered,
          (
            c.requires.two,
            (
              subst (λ w. HasLostBelow g.row.MIN g.row.MAX w) (sym c.up.ensures.moved) lost,
              (c.up.ensures.tree ∙ c.requires.tree ∙ sym (whole-up z) ∙ (λ i. whole (sym c.up.ensures.moved i)), subst (λ xs. length xs ≤ 2 ^ 32) (sym lists) c.requires.short),
            ),
          ),
        ),
      ),
    )
