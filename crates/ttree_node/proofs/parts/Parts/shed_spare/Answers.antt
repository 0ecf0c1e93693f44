use Rattle.std.proofs.Common.{◌≡◌, ◌-◌, ◌∙◌, sym, refl, arith, ap}
use Rattle.ttree_node.specs.Held.{node_at, without}
use Rattle.ttree_node.specs.Linked.{Linked}
use Rattle.ttree_node.proofs.Spares.{located_is, some_place, some_node, shed, First, first_spare}
use Rattle.ttree_node.proofs.parts.Parts.shed_spare.Given.{Over}
use Rattle.ttree_node.proofs.parts.Parts.shed_spare.Goals as goal

first : (g : Over) (c : goal.After-self-2-1 g) → First c.args.self.now c.requires.sound.0
first g c = first_spare c.args.self.now c.requires.sound.0 c.requires.sound.1 c.requires.sound.2 c.requires.some

linked : (g : Over) (c : goal.After-self-2-1 g) → Linked (record c.args.self.now { nodes = c.give_out.new.self; free = c.left-self.result; spares = c.args.self.now.spares - 1 }) c.requires.sound.0 (first g c).rest
linked g c =
    let f = first g c in let p = c.args.self.now in let q = c.unwrap-place.result.at in
    let is : q ≡ f.place = some_place (sym c.unwrap-place.ensures ∙ f.found) in
    let node = (λ i. node_at (is i) p.nodes.held) ∙ f.node in
    let left = c.left-self.ensures ∙ ap (λ n. n.head.left) (c.into_inner-node.ensures ∙ some_node (sym c.give_out.ensures.value ∙ node)) in
    shed p _ c.requires.sound.0 f.place f.rest f.linked (c.give_out.ensures.held ∙ (λ i. without (is i) p.nodes.held)) refl left (omega (arith, c.requires.some))

pub returns-clause-sound : goal.returns-clause-sound
returns-clause-sound g c = (c.requires.sound.0, (first g c).rest, linked g c)

pub returns-clause-tree : goal.returns-clause-tree
returns-clause-tree g c = let s = c.requires.sound in located_is _ s.0 _ (linked g c) ∙ sym (located_is c.args.self.now s.0 s.1 s.2)
