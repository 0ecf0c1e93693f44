use Rattle.std.proofs.Common.{◌∙◌, ap, sym}
use Rattle.ttree_node.specs.Tree.{list, whole, height_over}
use Rattle.ttree_node.specs.Editor.{position}
use Rattle.ttree.proofs.Places.{list-with_height}
use Rattle.ttree.proofs.steps.restate.Goals as goal

pub returns-clause-list : goal.returns-clause-list
returns-clause-list g c =
    ap (λ t. list t) c.reheight.ensures.tree ∙ (λ i. list (whole (c.reheight.ensures.height i)))
    ∙ list-with_height (height_over (position c.args.editor.now).here) (position c.args.editor.now) ∙ sym (ap (λ t. list t) c.requires.tree)
