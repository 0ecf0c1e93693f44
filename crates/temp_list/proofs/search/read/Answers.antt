use Rattle.temp_list.proofs.Reading.{can_read, lent_value}
use Rattle.temp_list.proofs.search.read.Goals as goal

pub value-requires : goal.value-requires
value-requires g c =
    can_read (g.R.Relations.tables c.args.tables.now) c.args.relation.now c.args.r c.row.result c.row.ensures.row c.row.ensures.targets c.a_relation_is_kept.ensures c.requires.current
    c.args.column.0 c.requires.within

pub returns : goal.returns
returns g c =
    lent_value (g.R.Relations.tables c.args.tables.now) c.args.relation.now c.args.r c.row.result c.row.ensures.row c.row.ensures.targets c.args.column.0 c.value.result.now c.value.ensures
