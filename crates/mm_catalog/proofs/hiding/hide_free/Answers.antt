use Rattle.std.proofs.Common.{◌+◌, IsSome, get_or, length, sym, subst}
use Rattle.std.specs.FinMap.{get}
use Rattle.std.specs.List.{All}
use Rattle.mm_relation.specs.State.{RelationState}
use Rattle.mm_catalog.specs.Deleted.{IsFree}
use Rattle.mm_catalog.specs.Standing.{StandsBeside}
use Rattle.mm_catalog.proofs.Owing.{hidden_there, stands_owing}
use Rattle.mm_catalog.proofs.Taking.{IsSplit, split_here, stands_beside}
use Rattle.mm_catalog.proofs.hiding.hide_free.Goals as goal
use Rattle.mm_catalog.proofs.hiding.hide_free.Goals.{After-index-rest-0}

split : (c : After-index-rest-0) → IsSplit c.args.relations.now c.args.table.0 c.split_at_mut-before.result.0.now c.split_at_mut-before.result.1.now (get_or c.split_at_mut-before.result.1.now 0 c.index-rest-0.result)
split c = record {
  first = c.split_at_mut-before.ensures.front;
  behind = c.split_at_mut-before.ensures.back;
  there = split_here c.args.relations.now c.split_at_mut-before.result.1.now c.args.table.0 c.index-rest-0.result c.requires.there c.split_at_mut-before.ensures.back;
}

pub hide_each-requires-clause-stands : goal.hide_each-requires-clause-stands
hide_each-requires-clause-stands c =
    let at = split (goal.at.hide_each-requires-clause-stands c).After-index-rest-0 in
    let s : RelationState = get_or c.split_at_mut-before.result.1.now 0 c.index-rest-0.result in
    subst (StandsBeside c.split_at_mut-before.result.0.now) (sym c.in_ok-owe_rows.ensures.owed)
    (stands_owing c.split_at_mut-before.result.0.now s (s.owed + length c.args.rows.now)
    (stands_beside c.args.relations.now c.args.table.0 c.split_at_mut-before.result.0.now c.split_at_mut-before.result.1.now s at c.requires.stands))

pub hide_each-requires-clause-held : goal.hide_each-requires-clause-held
hide_each-requires-clause-held c =
    subst (λ (s : RelationState). All (λ r. IsSome (get s.rows r)) c.args.rows.now) (sym c.in_ok-owe_rows.ensures.owed)
    (c.requires.held _ (split (goal.at.hide_each-requires-clause-held c).After-index-rest-0).there)

pub hide_each-requires-clause-free : goal.hide_each-requires-clause-free
hide_each-requires-clause-free c =
    subst (λ (s : RelationState). All (IsFree s) c.args.rows.now) (sym c.in_ok-owe_rows.ensures.owed)
    (c.requires.free _ (split (goal.at.hide_each-requires-clause-free c).After-index-rest-0).there)

pub returns-clause-hidden : goal.returns-clause-hidden
returns-clause-hidden c =
    let s : RelationState = get_or c.split_at_mut-before.result.1.now 0 c.index-rest-0.result in
    hidden_there c.args.relations.now c.args.table.0 c.args.rows.now c.split_at_mut-before.result.0.now c.split_at_mut-before.result.1.now s (split (goal.at.returns-clause-hidden c).After-index-rest-0)
    c.owe_rows.new.relation c.hide_each.new.relation c.hide_each.new.before c.in_ok-owe_rows.ensures.owed c.hide_each.ensures.unlinked c.hide_each.ensures.removed c.hide_each.ensures.hidden c.hide_each.ensures.owed
    c.hide_each.ensures.kept c.hide_each.ensures.current c.owe_rows.ensures.few c.owe_rows.ensures.apart
