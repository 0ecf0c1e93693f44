use Rattle.std.proofs.Common.{rules, ◌≡◌, ◌+◌, ◌-◌, ◌∙◌, ap, refl, subst, length, take, arith}
use Rattle.std.proofs.lemmas.List.{take_all}
use Rattle.mm_relation.specs.Settings.{pile, CellsSet}
use Rattle.mm_relation.specs.Indexes.{KeepRoom}
use Rattle.mm_relation.proofs.Setting.{can_still, none_set}
use Rattle.mm_relation.proofs.Each.{as_few, pile_split, read_now, held_now, set_next}
use Rattle.mm_relation.proofs.Room.{rooms_fewer, keep_none, keep_then}
use Rattle.mm_relation.proofs.change.change_each.Goals as goal

pub change_row-requires-clause-held : goal.change_row-requires-clause-held
change_row-requires-clause-held g c =
    held_now c.args.rows.now.tuples c.loop-r.rows.tuples c.args.rs.now c.args.sets.now c.loop-r.r-index _ (omega arith) (search rules) c.requires.once c.requires.held c.loop-r.invariant.set

pub change_row-requires-clause-few : goal.change_row-requires-clause-few
change_row-requires-clause-few g c =
    as_few c.args.rows.now.tuples c.loop-r.rows.tuples c.requires.served.0 c.requires.served.1 (c.loop-r.invariant.served c.requires.served.0 c.requires.served.1 c.requires.served.2).0 c.requires.few

pub change_row-requires-clause-room : goal.change_row-requires-clause-room
change_row-requires-clause-room g c =
    c.loop-r.invariant.keeps.room 1 1 (rooms_fewer (length c.args.rs.now) 1 (1 + c.loop-r.r-index) (1 + 0) c.args.indexes.now (omega arith) (omega arith) c.requires.room)

pub change_row-requires-clause-ready : goal.change_row-requires-clause-ready
change_row-requires-clause-ready g c =
    (pile (length c.args.rs.now - (c.loop-r.r-index + 1)) c.args.sets.now, c.loop-r.invariant.copies ∙ pile_split (length c.args.rs.now) c.loop-r.r-index c.args.sets.now (omega arith))

pub change_row-requires-clause-settable : goal.change_row-requires-clause-settable
change_row-requires-clause-settable g c =
    can_still (g.R.LinkedKeys.keys c.args.links.now) c.args.rows.now.tuples c.loop-r.rows.tuples (take c.loop-r.r-index c.args.rs.now) c.args.sets.now c.requires.settable c.loop-r.invariant.set

pub change_row-requires-clause-read : goal.change_row-requires-clause-read
change_row-requires-clause-read g c =
    read_now (g.R.LinkedKeys.keys c.args.links.now) c.args.rows.now.tuples c.loop-r.rows.tuples (take c.loop-r.r-index c.args.rs.now) c.args.sets.now c.args.indexes.now c.loop-r.indexes c.requires.settable c.loop-r.invariant.set
    c.loop-r.invariant.declared c.requires.read

pub change_row-requires-clause-served : goal.change_row-requires-clause-served
change_row-requires-clause-served g c =
    let now = c.loop-r.invariant.served c.requires.served.0 c.requires.served.1 c.requires.served.2 in
    (c.requires.served.0, now.0, now.1)

pub loop-r-init : goal.loop-r-init
loop-r-init g c =
    let all : length c.args.rs.now ≡ length c.args.rs.now - 0 = omega arith in
    record {
      set = none_set c.args.rows.now.tuples c.args.sets.now;
      served = λ list keyed serves. (keyed, serves);
      declared = refl;
      keeps = keep_none c.args.indexes.now;
      width = refl;
      aside = refl;
      copies = c.requires.ready ∙ ap (λ n. pile n c.args.sets.now) all;
    }

pub loop-r-preserved : goal.loop-r-preserved
loop-r-preserved g c = record {
  set = set_next c.args.rows.now.tuples c.loop-r.rows.tuples c.args.rs.now c.args.sets.now c.loop-r.r-index _ (omega arith) (search rules) c.requires.once c.requires.held c.loop-r.invariant.set
      c.change_row.new.rows.tuples c.change_row.ensures.row;
  served = λ list keyed serves. let now = c.loop-r.invariant.served list keyed serves in c.change_row.ensures.served list now.0 now.1;
  declared = c.change_row.ensures.declared ∙ c.loop-r.invariant.declared;
  keeps = keep_then c.loop-r.r-index 0 1 0 c.args.indexes.now c.loop-r.indexes c.change_row.new.indexes c.loop-r.invariant.keeps c.change_row.ensures.keeps;
  width = c.change_row.ensures.width ∙ c.loop-r.invariant.width;
  aside = c.change_row.ensures.aside ∙ c.loop-r.invariant.aside;
  copies = c.change_row.ensures.left _ (c.loop-r.invariant.copies ∙ pile_split (length c.args.rs.now) c.loop-r.r-index c.args.sets.now (omega arith));
}

pub returns-clause-rows : goal.returns-clause-rows
returns-clause-rows g c =
    subst (λ rs. CellsSet c.args.rows.now.tuples c.loop-r.rows.tuples rs c.args.sets.now) (take_all c.loop-r.r-index c.args.rs.now (omega arith)) c.loop-r.invariant.set

pub returns-clause-keeps : goal.returns-clause-keeps
returns-clause-keeps g c =
    let all : c.loop-r.r-index ≡ length c.args.rs.now = omega arith in
    subst (λ n. KeepRoom n 0 c.args.indexes.now c.loop-r.indexes) all c.loop-r.invariant.keeps
