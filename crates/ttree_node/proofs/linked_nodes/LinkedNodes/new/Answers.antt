use Rattle.std.proofs.Common.{[], ◌<◌, subst, lit<, arith, length, sym, ap}
use Rattle.ttree_node.specs.Tree.{empty, relabel}
use Rattle.ttree_node.specs.Linked.{Spot, Linked, node_limit}
use Rattle.ttree_node.proofs.Spares.{located_is}
use Rattle.ttree_node.proofs.linked_nodes.LinkedNodes.new.Given.{Over}
use Rattle.ttree_node.proofs.linked_nodes.LinkedNodes.new.Goals as goal

linked : (g : Over) (c : goal.After-new g) → Linked c.new.result empty []
linked g c =
    let e = c.new.ensures in
    record {
      stands = tt;
      root = e.1;
      chained = tt;
      free = e.2;
      spares = e.3;
      alone = λ q. omega arith;
      total = sym (ap length e.0);
      small = subst (λ m. length m < node_limit) (sym e.0) (lit< tt);
      narrow = λ some. absurd (omega (arith, some, ap length e.0));
    }

pub invariant_of-result : goal.invariant_of-result
invariant_of-result g c = (empty, [], linked g c)

pub returns-clause-tree : goal.returns-clause-tree
returns-clause-tree g c = ap (λ t. relabel (λ (x : Spot). x.label) t) (located_is c.new.result empty [] (linked g c))
