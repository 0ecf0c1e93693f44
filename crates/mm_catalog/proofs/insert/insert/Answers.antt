use Rattle.std.proofs.Common.{rules, get_or, ap, arith, length}
use Rattle.mm_catalog.proofs.Taking.{IsSplit, inserted_so, kept_out_so, refused_so, some_first, split_here, stands_beside}
use Rattle.mm_catalog.proofs.insert.insert.Given.{Over}
use Rattle.mm_catalog.proofs.insert.insert.Goals as goal
use Rattle.mm_catalog.proofs.insert.insert.Goals.{After-index-rest-0}

split : (g : Over) (c : After-index-rest-0 g) → IsSplit c.args.relations.now c.args.table.0 c.split_at_mut-before.result.0.now c.split_at_mut-before.result.1.now (get_or c.split_at_mut-before.result.1.now 0 c.index-rest-0.result)
split g c = record {
  first = c.split_at_mut-before.ensures.front;
  behind = c.split_at_mut-before.ensures.back;
  there = split_here c.args.relations.now c.split_at_mut-before.result.1.now c.args.table.0 c.index-rest-0.result c.requires.there c.split_at_mut-before.ensures.back;
}

pub pack-requires : goal.pack-requires
pack-requires g c =
    let at = split g (goal.at.pack-requires g c).After-index-rest-0 in
    record {
      width = omega (arith, c.requires.width _ at.there);
      back = (stands_beside c.args.relations.now c.args.table.0 _ _ _ at c.requires.stands).back;
    }

pub returns-in_err-pack-clause-refused : goal.returns-in_err-pack-clause-refused
returns-in_err-pack-clause-refused g c =
    kept_out_so c.args.relations.now c.args.table.0 c.args.limits.rows (g.V.RowValues.left c.args.values) c.split_at_mut-before.result.0.now c.split_at_mut-before.result.1.now _
    (split g (goal.at.returns-in_err-pack-clause-refused g c).After-index-rest-0) c.requires.some c.from_residual.result (search rules)

pub insert_packed-requires : goal.insert_packed-requires
insert_packed-requires g c =
    let at = split g (goal.at.insert_packed-requires g c).After-index-rest-0 in
    let (key, rest, is) = some_first (g.V.RowValues.left c.args.values) c.requires.some in
    let row = c.in_ok-pack.ensures.cells key rest is in
    record {
      few = c.requires.few;
      stands = stands_beside c.args.relations.now c.args.table.0 _ _ _ at c.requires.stands;
      width = omega (arith, c.requires.width _ at.there, ap length is, ap length row.split, row.are.count);
      row = (key, rest, row);
    }

pub returns-clause-refused : goal.returns-clause-refused
returns-clause-refused g c =
    refused_so c.args.relations.now c.args.table.0 c.args.limits.rows (g.V.RowValues.left c.args.values) c.split_at_mut-before.result.0.now c.split_at_mut-before.result.1.now _
    (split g (goal.at.returns-clause-refused g c).After-index-rest-0) c.requires.some c.insert_packed.result
    (λ key rest is. c.insert_packed.ensures.refused key rest (c.in_ok-pack.ensures.cells key rest is))

pub returns-clause-inserted : goal.returns-clause-inserted
returns-clause-inserted g c =
    inserted_so c.args.relations.now c.args.table.0 c.args.limits.rows (g.V.RowValues.left c.args.values) c.split_at_mut-before.result.0.now c.split_at_mut-before.result.1.now _
    (split g (goal.at.returns-clause-inserted g c).After-index-rest-0) c.requires.some c.insert_packed.new.before c.insert_packed.new.relation c.insert_packed.result
    (λ key rest is. c.insert_packed.ensures.inserted key rest (c.in_ok-pack.ensures.cells key rest is))
