use Rattle.std.proofs.Common.{IsSome, arith, refl, sym, subst}
use Rattle.std.specs.List.{All}
use Rattle.part_raw.proofs.Tuples.{held_tuple}
use Rattle.mm_relation.specs.Reading.{cell_value}
use Rattle.mm_relation.specs.State.{IsCurrent}
use Rattle.mm_catalog.specs.Assigned.{CellSet, row_links_at}
use Rattle.mm_catalog.proofs.Counted.{all_held_still}
use Rattle.mm_catalog.proofs.Relinking.{gone_enough, gone_held, relinked}
use Rattle.mm_catalog.proofs.Removing.{keys_still}
use Rattle.mm_catalog.proofs.changing_back.change_row_back.Goals as goal

pub count_up_sets-requires : goal.count_up_sets-requires
count_up_sets-requires c = record {
  kept = c.requires.kept;
  columns = c.requires.fit.columns;
  held = c.requires.fit.named;
  room = λ t s q at held. omega (arith, c.requires.room t s q at held);
}

pub count_down_sets-requires : goal.count_down_sets-requires
count_down_sets-requires c = record {
  kept = c.count_up_sets.ensures.kept;
  held = c.requires.held;
  columns = c.requires.fit.columns;
  named = λ row at. all_held_still c.args.before.now c.count_up_sets.new.before (row_links_at c.args.relation.now.targets c.args.sets.now row) c.count_up_sets.ensures.recounted
      (gone_held c.args.before.now c.args.relation.now c.args.r c.args.sets.now c.requires row at);
  enough = λ row at. gone_enough c.args.before.now c.args.relation.now c.args.r c.args.sets.now c.requires row at c.count_up_sets.new.before c.count_up_sets.ensures;
}

pub change_back-requires-clause-readable : goal.change_back-requires-clause-readable
change_back-requires-clause-readable c =
    let row = held_tuple c.args.relation.now.rows c.args.r c.requires.held in
    let keys = keys_still c.args.relation.now c.args.relation.now c.args.before.now c.count_up_sets.new.before c.count_down_sets.new.before refl c.count_up_sets.ensures.recounted (c.count_down_sets.ensures row.0 row.1).recounted in
    subst (λ ks. All (λ (s : CellSet). IsSome (cell_value ks s.0.0 s.1)) c.args.sets.now) (sym keys) c.requires.fit.readable

pub change_back-requires-clause-current : goal.change_back-requires-clause-current
change_back-requires-clause-current c =
    let row = held_tuple c.args.relation.now.rows c.args.r c.requires.held in
    let keys = keys_still c.args.relation.now c.args.relation.now c.args.before.now c.count_up_sets.new.before c.count_down_sets.new.before refl c.count_up_sets.ensures.recounted (c.count_down_sets.ensures row.0 row.1).recounted in
    subst (λ ks. IsCurrent ks c.args.relation.now) (sym keys) c.requires.current

pub returns-clause-linked : goal.returns-clause-linked
returns-clause-linked c =
    let row = held_tuple c.args.relation.now.rows c.args.r c.requires.held in
    relinked c.args.before.now c.args.relation.now c.args.r c.args.sets.now c.requires row.0 row.1 c.count_up_sets.new.before c.count_down_sets.new.before c.change_back.new.self c.count_up_sets.ensures (c.count_down_sets.ensures row.0 row.1)
    c.a_relation_is_kept.ensures c.change_back.ensures.changed

pub returns-clause-current : goal.returns-clause-current
returns-clause-current c =
    let row = held_tuple c.args.relation.now.rows c.args.r c.requires.held in
    let keys = keys_still c.args.relation.now c.args.relation.now c.args.before.now c.count_up_sets.new.before c.count_down_sets.new.before refl c.count_up_sets.ensures.recounted (c.count_down_sets.ensures row.0 row.1).recounted in
    subst (λ ks. IsCurrent ks c.change_back.new.self) keys c.change_back.ensures.current

pub change_back-requires-clause-columns : goal.change_back-requires-clause-columns
change_back-requires-clause-columns c = c.requires.fit.columns

pub change_back-requires-clause-not_the_key : goal.change_back-requires-clause-not_the_key
change_back-requires-clause-not_the_key c = c.requires.fit.behind_key
