use Rattle.std.proofs.Common.{◌∙◌, All, Ordering, sym, subst, lit<}
use Rattle.part_raw.specs.declared.tuple_ref.TupleRef.{TupleRef}
use Rattle.mm_index.specs.Range.{NeverFalls}
use Rattle.ttree_node.specs.Tree.{Tree, Label, list}
use Rattle.ttree_node.specs.Look.{position}
use Rattle.ttree.specs.Searching.{taken}
use Rattle.ttree.specs.declared.asking.Seek.TheVariants.{First}
use Rattle.ttree.proofs.Ends.{NeverFalls-taken, from_gap}
use Rattle.ttree.proofs.tree.TTree.walk_from_way.Goals as goal

pub ends_right-requires : goal.ends_right-requires
ends_right-requires g c =
    let place : TupleRef → Ordering = g.P.Probe.place c.args.probe.now in
    let same = sym c.requires.way.last_same in (
      lit< tt,
      (
        c.requires.sound,
        (
          subst (λ (t : Tree (Label TupleRef)). All (g.P.Probe.can_place c.args.probe.now) (list t)) same c.requires.placed,
          subst (λ (t : Tree (Label TupleRef)). NeverFalls (λ r. taken First (place r)) (list t)) same (NeverFalls-taken First place (list c.args.self.now.tree) c.requires.in_order),
        ),
      ),
    )

pub returns-then-ends_right-clause-rest : goal.returns-then-ends_right-clause-rest
returns-then-ends_right-clause-rest g c =
    c.walk_from.ensures.from
    ∙ sym (from_gap c.args.self.now.tree (position c.args.way.now.last) c.requires.way.last_same (g.P.Probe.place c.args.probe.now) c.args.way.now.high (c.ends_right.ensures.gap c.if-ends_right.true))
