use Rattle.std.proofs.Common.{◌∙◌, sym}
use Rattle.ttree_node.specs.Look.{position}
use Rattle.ttree.proofs.Ends.{from_gap, first_not_Equal}
use Rattle.ttree.proofs.tree.TTree.walk_from.Goals as goal

pub unreachable-requires : goal.unreachable-requires
unreachable-requires g c =
    let hit = rw c.in-Ok.is at c.search-found.ensures.hit in
    first_not_Equal _ (hit.equal (record { number = 0 }))

pub returns-clause-rest : goal.returns-clause-rest
returns-clause-rest g c =
    let gap = rw c.in-Err.is at c.search-found.ensures.gap in
    c.walk_from.ensures.from ∙ sym (from_gap c.args.self.now.tree (position c.search-found.result.0) c.search-found.ensures.whole (g.P.Probe.place c.args.probe.now) c.in-Err.index gap)
