use Rattle.std.proofs.Common.{ℕ, ◌*◌, ◌^◌, ◌≤◌, ◌<◌, length, ◌∷◌, ◌+◌, ◌∙◌, sym, refl, arith, ap}
use Rattle.ttree_node.proofs.Sizes.{node_fits}
use Rattle.ttree_node.proofs.Spares.{blank, located_is, added}
use Rattle.ttree_node.specs.Tree.{size}
use Rattle.ttree_node.specs.Linked.{Linked, there, node_limit}
use Rattle.ttree_node.proofs.parts.Parts.add_spare.Given.{Over}
use Rattle.ttree_node.proofs.parts.Parts.add_spare.Goals as goal

-- it fits a block of twice the bytes of its items
narrow : (n : ℕ) → (n * 8 < 2 ^ 63) × (n < 2 ^ 63) → n ≤ 2 ^ 60
narrow n fits = omega (arith, fits.0)

pub new-requires : goal.new-requires
new-requires g c = node_fits g.row.MAX (narrow g.row.MAX c.in_ok-check_size.ensures)

linked : (g : Over) (c : goal.After-self-2-1 g)
    → Linked (record c.args.self.now { nodes = c.take_in-place.new.self; free = there c.take_in-place.result.at; spares = c.args.self.now.spares + 1 }) c.requires.sound.0 (c.take_in-place.result.at ∷ c.requires.sound.1)
linked g c =
    let s = c.requires.sound in let p = c.args.self.now in
    let more : length p.nodes.held + 1 < node_limit = omega (arith, c.requires.room, ap size (located_is p s.0 s.1 s.2), s.2.spares, s.2.total) in
    added p _ s.0 s.1 c.take_in-place.result.at s.2 c.take_in-place.ensures.fresh more (narrow g.row.MAX c.in_ok-check_size.ensures)
    (c.take_in-place.ensures.held ∙ (λ i. (c.take_in-place.result.at, c.in_ok-block.ensures i) ∷ p.nodes.held)
    ∙ (λ i. (c.take_in-place.result.at, record { head = c.spare.ensures i; items = c.new.result }) ∷ p.nodes.held)
    ∙ (λ i. (c.take_in-place.result.at, record (blank p.free) { items = record { items = c.new.ensures i } }) ∷ p.nodes.held)) refl refl refl

pub returns-clause-sound : goal.returns-clause-sound
returns-clause-sound g c = (c.requires.sound.0, c.take_in-place.result.at ∷ c.requires.sound.1, linked g c)

pub returns-clause-tree : goal.returns-clause-tree
returns-clause-tree g c = let s = c.requires.sound in located_is _ s.0 _ (linked g c) ∙ sym (located_is c.args.self.now s.0 s.1 s.2)
