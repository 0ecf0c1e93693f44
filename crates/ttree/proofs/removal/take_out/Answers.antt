use Rattle.std.proofs.Common.{◌≡◌, ◌≤◌, ◌^◌, ◌+◌, ◌∙◌, length, sym, ap, subst, lit<, arith}
use Rattle.std.specs.List.{remove}
use Rattle.std.proofs.lemmas.List.Edits.{length-remove}
use Rattle.ttree_node.specs.Tree.{list, size, whole, items_of, with_items}
use Rattle.ttree_node.specs.Editor.{position, tree_at}
use Rattle.ttree.specs.Shape.{IsTTree}
use Rattle.ttree.specs.Removing.{HasLost}
use Rattle.ttree.proofs.Losing.{lost}
use Rattle.ttree.proofs.Places.{shorter, size-with_items}
use Rattle.ttree.proofs.removal.take_out.Goals as goal

pub recover-requires : goal.recover-requires
recover-requires g c =
    let z = position c.args.editor.now in let xs = remove (items_of z.here) c.args.index in
    let one : length xs + 1 ≡ length (items_of z.here) = length-remove (items_of z.here) c.args.index c.requires.index in
    let fit : IsTTree g.row.MIN g.row.MAX (whole z) = subst (λ t. IsTTree g.row.MIN g.row.MAX t) c.requires.tree c.requires.fit in
    let short : length (list (whole z)) ≤ 2 ^ 32 = subst (λ t. length (list t) ≤ 2 ^ 32) c.requires.tree c.requires.short in
    let less : length (list (whole (with_items xs z))) ≤ 2 ^ 32 = omega (arith, shorter xs z (omega (arith, one)), short) in (
      lit< tt,
      (
        c.requires.some,
        (
          c.requires.ordered,
          (
            c.requires.two,
            (
              subst (λ w. HasLost g.row.MIN g.row.MAX w) (sym c.cut.ensures.items) (lost g.row.MIN g.row.MAX z xs fit (sym one)),
              (c.cut.ensures.tree, subst (λ t. length (list t) ≤ 2 ^ 32) (sym (c.cut.ensures.tree ∙ (λ i. whole (c.cut.ensures.items i)))) less),
            ),
          ),
        ),
      ),
    )

pub returns-clause-nodes : goal.returns-clause-nodes
returns-clause-nodes g c =
    let z = position c.args.editor.now in let xs = remove (items_of z.here) c.args.index in
    let same : size (tree_at c.cut.new.self) ≡ size (tree_at c.args.editor.now) = ap (λ t. size t) c.cut.ensures.tree ∙ (λ i. size (whole (c.cut.ensures.items i))) ∙ size-with_items xs z ∙ sym (ap (λ t. size t) c.requires.tree) in
    omega (arith, same, c.recover.ensures.nodes, c.cut.ensures.spares)
