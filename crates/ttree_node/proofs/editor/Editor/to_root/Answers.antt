use Rattle.std.proofs.Common.{◌∙◌, [], sym}
use Rattle.ttree_node.specs.Tree.{at}
use Rattle.ttree_node.proofs.editor.Editor.to_root.Goals as goal

pub returns-clause-moved : goal.returns-clause-moved
returns-clause-moved g c = c.root-self.ensures.moved ∙ (λ i. at [] (sym (c.root-self.ensures.whole c.args.self.now.at c.args.self.now.placed) i))
