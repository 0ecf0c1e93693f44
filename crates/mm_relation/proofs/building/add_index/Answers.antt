use Rattle.ttree.specs.Held.{items_of_tree}
use Rattle.mm_relation.proofs.Declared.{serve_added}
use Rattle.mm_relation.proofs.Owed.{owed_added}
use Rattle.mm_relation.proofs.building.add_index.Goals as goal

pub returns-clause-serve : goal.returns-clause-serve
returns-clause-serve g c =
    serve_added (g.R.LinkedKeys.keys c.args.others.now) c.args.rows.now.tuples (items_of_tree c.args.by_key.now) c.args.indexes.now c.push.new.self c.in_ok-on.on c.push.result
    c.push.ensures.pushed c.push.ensures.unchanged c.in_ok-on.ensures.serves c.requires.serve

pub returns-clause-owed : goal.returns-clause-owed
returns-clause-owed g c =
    owed_added _ _ c.args.by_key.now c.args.indexes.now c.push.new.self c.in_ok-on.on c.push.result c.push.ensures.pushed c.push.ensures.unchanged c.in_ok-on.ensures.ready
