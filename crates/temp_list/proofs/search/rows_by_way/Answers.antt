use Rattle.std.proofs.Common.{refl}
use Rattle.std.proofs.lemmas.Result.{on_ok_weaker}
use Rattle.plain_tables.specs.declared.condition.Op.TheVariants.{Eq}
use Rattle.temp_list.proofs.Searches.{tree_held, tree_in_order, tree_range}
use Rattle.temp_list.proofs.search.rows_by_way.Goals as goal

pub append_range-requires-clause-placed : goal.append_range-requires-clause-placed
append_range-requires-clause-placed g c =
    tree_held (g.R.Relations.tables c.args.tables.now) c.args.relation.now c.args.column.0 c.a_relation_is_kept.ensures c.requires.current c.requires.within c.requires.has_tree

pub append_range-requires-clause-in_order : goal.append_range-requires-clause-in_order
append_range-requires-clause-in_order g c =
    tree_in_order (g.R.Relations.tables c.args.tables.now) c.args.relation.now c.args.column.0 c.a_relation_is_kept.ensures c.requires.current c.requires.within c.requires.has_tree Eq refl
    c.args.value.now

pub returns-clause-ok : goal.returns-clause-ok
returns-clause-ok g c =
    on_ok_weaker c.append_range.result
    (λ same. (
      _,
      same,
      tree_range (g.R.Relations.tables c.args.tables.now) c.args.relation.now c.args.column.0 c.a_relation_is_kept.ensures c.requires.current c.requires.within c.requires.has_tree Eq refl
          c.args.value.now,
    ))
    c.append_range.ensures.ok
