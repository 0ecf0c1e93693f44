use Rattle.temp_list.proofs.Sorts.{key_itself}
use Rattle.temp_list.proofs.sorting.compare_keys.Goals as goal

pub returns-then-q-r : goal.returns-then-q-r
returns-then-q-r c = key_itself c.args.relation.now.rows c.args.q c.args.r c.if-q-r.true
