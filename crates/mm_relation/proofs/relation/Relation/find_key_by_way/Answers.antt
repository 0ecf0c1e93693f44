use Rattle.std.proofs.Common.{Some}
use Rattle.mm_relation.specs.Reading.{key_at}
use Rattle.mm_relation.specs.State.{tree_list}
use Rattle.mm_relation.proofs.Placing.{value_found}
use Rattle.mm_relation.proofs.NoSuchKey.{no_row_with_key}
use Rattle.mm_relation.proofs.relation.Relation.find_key_by_way.Goals as goal

pub returns-clause-found : goal.returns-clause-found
returns-clause-found c =
    value_found (key_at c.args.self.now.rows) c.find_by_way.result (Some c.args.key.now) (rw (c.key_search-search.ensures.rows, c.key_search-search.ensures.sought) at c.find_by_way.ensures.found)

pub returns-clause-none : goal.returns-clause-none
returns-clause-none c =
    no_row_with_key c.args.self.now.rows (tree_list c.args.self.now.by_key) c.args.key.now c.find_by_way.result c.a_relation_is_kept.ensures.keyed.lists
    (rw (c.key_search-search.ensures.rows, c.key_search-search.ensures.sought) at c.find_by_way.ensures.none)
