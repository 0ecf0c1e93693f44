use Rattle.std.proofs.Common.{◌∙◌, sym, refl, subst, lit<}
use Rattle.std.specs.Prelude.{IsSome}
use Rattle.ttree_node.specs.Link.{child_link}
use Rattle.ttree_node.specs.Tree.{with_tree}
use Rattle.ttree_node.specs.Linked.{Present, hung, rooted}
use Rattle.ttree_node.specs.Seen.{position_at, raised, opposite}
use Rattle.ttree_node.proofs.Rehang.{hung_present}
use Rattle.ttree_node.proofs.Relabels.{Now, now_whole}
use Rattle.ttree_node.proofs.TurnSteps.{turning, riser_is, parent_present, place_present, riser_present, mid_present, risen}
use Rattle.ttree_node.proofs.Visit.{with_head}
use Rattle.ttree_node.proofs.linked_nodes.LinkedNodes.raise.Given.{Over}
use Rattle.ttree_node.proofs.linked_nodes.LinkedNodes.raise.Goals as goal

pub unwrap-requires-2 : goal.unwrap-requires-2
unwrap-requires-2 g c =
    let t = turning c.args.side c.self.view_is c.self.invariant c.args.place c.unwrap.ensures c.requires.placed (with_head c.get-node.ensures c.read-own.ensures) c.requires.child in
    subst (λ o. IsSome o) (sym (c.child-riser.ensures ∙ riser_is c.args.side c.self.inside.parts c.args.place _ t)) refl

pub get-child-requires : goal.get-child-requires
get-child-requires g c =
    let i = c.self.inside.parts in let t = turning c.args.side c.self.view_is c.self.invariant c.args.place c.unwrap.ensures c.requires.placed (with_head c.get-node.ensures c.read-own.ensures) c.requires.child in
    subst (λ o. Present i.nodes.held o) (sym c.child-riser.ensures ∙ c.unwrap-2.ensures) (riser_present c.args.side i c.args.place _ t)

pub hang-requires : goal.hang-requires
hang-requires g c =
    let i = c.self.inside.parts in let t = turning c.args.side c.self.view_is c.self.invariant c.args.place c.unwrap.ensures c.requires.placed (with_head c.get-node.ensures c.read-own.ensures) c.requires.child in (
      lit< tt,
      (
        subst (λ o. Present i.nodes.held o) (sym (c.child.ensures ∙ (λ k. child_link (c.opposite-inner.ensures k) c.read-below.result))) (mid_present c.args.side i c.args.place _ t c.unwrap-2.result _ (sym c.child-riser.ensures ∙ c.unwrap-2.ensures) (with_head c.get-child.ensures c.read-below.ensures)),
        place_present c.args.side i c.args.place _ t,
      ),
    )

pub hang-requires-2 : goal.hang-requires-2
hang-requires-2 g c =
    let i = c.self.inside.parts in let t = turning c.args.side c.self.view_is c.self.invariant c.args.place c.unwrap.ensures c.requires.placed (with_head c.get-node.ensures c.read-own.ensures) c.requires.child in let place = c.args.place in (
      lit< tt,
      (
        subst (λ h. Present h place) (sym c.hang.ensures.held) (hung_present i.nodes.held c.child.result place c.args.side place (place_present c.args.side i place _ t)),
        subst (λ h. Present h c.child-riser.result) (sym c.hang.ensures.held)
            (hung_present i.nodes.held c.child.result place c.args.side c.child-riser.result (subst (λ o. Present i.nodes.held o) (sym c.child-riser.ensures) (riser_present c.args.side i place _ t))),
      ),
    )

pub hang-requires-3 : goal.hang-requires-3
hang-requires-3 g c =
    let i = c.self.inside.parts in let t = turning c.args.side c.self.view_is c.self.invariant c.args.place c.unwrap.ensures c.requires.placed (with_head c.get-node.ensures c.read-own.ensures) c.requires.child in let place = c.args.place in let riser = c.child-riser.result in let parent = c.read-own.result.parent in
    let both = c.hang-2.ensures.held ∙ (λ k. hung place riser c.opposite-inner.result (c.hang.ensures.held k)) in (
      lit< tt,
      (
        subst (λ h. Present h riser) (sym both)
            (hung_present _ place riser c.opposite-inner.result riser (hung_present i.nodes.held c.child.result place c.args.side riser (subst (λ o. Present i.nodes.held o) (sym c.child-riser.ensures) (riser_present c.args.side i place _ t)))),
        subst (λ h. Present h parent) (sym both) (hung_present _ place riser c.opposite-inner.result parent (hung_present i.nodes.held c.child.result place c.args.side parent (parent_present c.args.side i place _ t))),
      ),
    )

now : (g : Over) (c : goal.After-hang-3 g) → Now c.hang-3.new.self c.child-riser.result (with_tree (raised c.args.side) (position_at c.self.inside.parts c.args.place))
now g c =
    let i = c.self.inside.parts in let place = c.args.place in let own = c.read-own.result in let middle = c.child.ensures ∙ (λ k. child_link (c.opposite-inner.ensures k) c.read-below.result) in let riser = c.child-riser.ensures in let inner = c.opposite-inner.ensures in
    let t = turning c.args.side c.self.view_is c.self.invariant c.args.place c.unwrap.ensures c.requires.placed (with_head c.get-node.ensures c.read-own.ensures) c.requires.child in
    subst (λ q. Now c.hang-3.new.self q (with_tree (raised c.args.side) (position_at i place))) (sym riser)
    (risen c.args.side i place _ t c.unwrap-2.result _ (sym riser ∙ c.unwrap-2.ensures) (with_head c.get-child.ensures c.read-below.ensures) c.hang-3.new.self
    (c.hang-3.ensures.held ∙ (λ k. hung (riser k) own.parent own.side (c.hang-2.ensures.held k)) ∙ (λ k. hung (child_link c.args.side own) own.parent own.side (hung place (riser k) (inner k) (c.hang.ensures.held k)))
    ∙ (λ k. hung (child_link c.args.side own) own.parent own.side (hung place (child_link c.args.side own) (opposite c.args.side) (hung (middle k) place c.args.side i.nodes.held))))
    (c.hang-3.ensures.root ∙ (λ k. rooted own.parent (riser k) (c.hang-2.ensures.root k)) ∙ (λ k. rooted own.parent (child_link c.args.side own) (rooted (riser k) place (c.hang.ensures.root k)))
    ∙ (λ k. rooted own.parent (child_link c.args.side own) (rooted (child_link c.args.side own) place (rooted place (middle k) i.root))))
    (c.hang-3.ensures.rest.0 ∙ c.hang-2.ensures.rest.0 ∙ c.hang.ensures.rest.0)
    (c.hang-3.ensures.rest.1 ∙ c.hang-2.ensures.rest.1 ∙ c.hang.ensures.rest.1))

pub invariant_of-self : goal.invariant_of-self
invariant_of-self g c = (now g c).sound

pub returns-clause-placed : goal.returns-clause-placed
returns-clause-placed g c = (now g c).placed

pub returns-clause-tree : goal.returns-clause-tree
returns-clause-tree g c = now_whole _ _ _ (now g c)

pub returns-clause-turned : goal.returns-clause-turned
returns-clause-turned g c = (now g c).position ∙ (λ k. with_tree (raised c.args.side) (position_at (c.self.view_is k) c.args.place))
