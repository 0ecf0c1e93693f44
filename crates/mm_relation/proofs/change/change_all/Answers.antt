use Rattle.std.proofs.Common.{◌≡◌, ◌≢◌, ◌+◌, ◌++◌, ◌∷◌, ◌∙◌, [], IsSome, sym, ap, subst, length, arith}
use Rattle.std.specs.FinMap.{get}
use Rattle.std.specs.List.{All, AllPairs}
use Rattle.std.proofs.lemmas.List.{nil_from_length}
use Rattle.mm_relation.specs.Indexes.{KeepRoom}
use Rattle.mm_relation.specs.Settings.{CellsSet, pile}
use Rattle.mm_relation.proofs.Each.{as_few, read_now}
use Rattle.mm_relation.proofs.Room.{rooms_fewer, keep_none, keep_then}
use Rattle.mm_relation.proofs.Moving.{pairs_first, last_held, last_set}
use Rattle.common_lemmas.proofs.Elements.{All-append_parts}
use Rattle.mm_relation.proofs.Setting.{can_still, none_set}
use Rattle.mm_relation.proofs.change.change_all.Goals as goal

pub change_each-requires-clause-held : goal.change_each-requires-clause-held
change_each-requires-clause-held g c =
    let split : c.args.rs.now ≡ c.in-Some.others.now ++ c.in-Some.last.now ∷ [] = c.in-Some.ensures.cases.0 in
    (All-append_parts (λ r. IsSome (get c.args.rows.now.tuples r)) c.in-Some.others.now (c.in-Some.last.now ∷ []) (subst (All (λ r. IsSome (get c.args.rows.now.tuples r))) split c.requires.held)).0

pub change_each-requires-clause-once : goal.change_each-requires-clause-once
change_each-requires-clause-once g c =
    let split : c.args.rs.now ≡ c.in-Some.others.now ++ c.in-Some.last.now ∷ [] = c.in-Some.ensures.cases.0 in
    pairs_first (λ q r. q ≢ r) c.in-Some.others.now c.in-Some.last.now (subst (AllPairs (λ q r. q ≢ r)) split c.requires.once)

pub change_each-requires-clause-room : goal.change_each-requires-clause-room
change_each-requires-clause-room g c =
    rooms_fewer (length c.args.rs.now) 1 (length c.in-Some.others.now) 1 c.args.indexes.now (omega (arith, c.in-Some.ensures.cases.1)) (omega arith) c.requires.room

pub change_each-requires-clause-ready : goal.change_each-requires-clause-ready
change_each-requires-clause-ready g c =
    c.requires.ready ∙ ap (λ n. pile n c.args.sets.now) (omega (arith, c.in-Some.ensures.cases.1))

pub change_last-requires-clause-held : goal.change_last-requires-clause-held
change_last-requires-clause-held g c =
    let split : c.args.rs.now ≡ c.in-Some.others.now ++ c.in-Some.last.now ∷ [] = c.in-Some.ensures.cases.0 in
    last_held c.args.rows.now.tuples c.change_each.new.rows.tuples c.in-Some.others.now c.in-Some.last.now c.args.sets.now
    (subst (AllPairs (λ q r. q ≢ r)) split c.requires.once) (subst (All (λ r. IsSome (get c.args.rows.now.tuples r))) split c.requires.held) c.change_each.ensures.rows

pub change_last-requires-clause-few : goal.change_last-requires-clause-few
change_last-requires-clause-few g c =
    as_few c.args.rows.now.tuples c.change_each.new.rows.tuples c.requires.served.0 c.requires.served.1 (c.change_each.ensures.served c.requires.served.0 c.requires.served.1 c.requires.served.2).0 c.requires.few

pub change_last-requires-clause-room : goal.change_last-requires-clause-room
change_last-requires-clause-room g c =
    c.change_each.ensures.keeps.room 1 1 (rooms_fewer (length c.args.rs.now) 1 (1 + length c.in-Some.others.now) (1 + 0) c.args.indexes.now (omega (arith, c.in-Some.ensures.cases.1)) (omega arith) c.requires.room)

pub change_last-requires-clause-settable : goal.change_last-requires-clause-settable
change_last-requires-clause-settable g c =
    can_still (g.R.LinkedKeys.keys c.args.links.now) c.args.rows.now.tuples c.change_each.new.rows.tuples c.in-Some.others.now c.args.sets.now c.requires.settable c.change_each.ensures.rows

pub change_last-requires-clause-read : goal.change_last-requires-clause-read
change_last-requires-clause-read g c =
    read_now (g.R.LinkedKeys.keys c.args.links.now) c.args.rows.now.tuples c.change_each.new.rows.tuples c.in-Some.others.now c.args.sets.now c.args.indexes.now c.change_each.new.indexes c.requires.settable c.change_each.ensures.rows
    c.change_each.ensures.declared c.requires.read

pub change_last-requires-clause-served : goal.change_last-requires-clause-served
change_last-requires-clause-served g c =
    let now = c.change_each.ensures.served c.requires.served.0 c.requires.served.1 c.requires.served.2 in
    (c.requires.served.0, now.0, now.1)

pub returns-in_default-clause-rows : goal.returns-in_default-clause-rows
returns-in_default-clause-rows g c =
    subst (λ rs. CellsSet c.args.rows.now.tuples c.args.rows.now.tuples rs c.args.sets.now) (sym (nil_from_length c.args.rs.now c.in_default.ensures.cases)) (none_set c.args.rows.now.tuples c.args.sets.now)

pub returns-clause-rows : goal.returns-clause-rows
returns-clause-rows g c =
    let split : c.args.rs.now ≡ c.in-Some.others.now ++ c.in-Some.last.now ∷ [] = c.in-Some.ensures.cases.0 in
    subst (λ rs. CellsSet c.args.rows.now.tuples c.change_last.new.rows.tuples rs c.args.sets.now) (sym split)
    (last_set c.args.rows.now.tuples c.change_each.new.rows.tuples c.in-Some.others.now c.in-Some.last.now c.args.sets.now
    (subst (AllPairs (λ q r. q ≢ r)) split c.requires.once) (subst (All (λ r. IsSome (get c.args.rows.now.tuples r))) split c.requires.held) c.change_each.ensures.rows
    c.change_last.new.rows.tuples c.change_last.ensures.row)

pub returns-clause-served : goal.returns-clause-served
returns-clause-served g c = λ list keyed serves. let now = c.change_each.ensures.served list keyed serves in c.change_last.ensures.served list now.0 now.1

pub returns-in_default-clause-keeps : goal.returns-in_default-clause-keeps
returns-in_default-clause-keeps g c =
    subst (λ rs. KeepRoom (length rs) 0 c.args.indexes.now c.args.indexes.now) (sym (nil_from_length c.args.rs.now c.in_default.ensures.cases)) (keep_none c.args.indexes.now)

pub returns-clause-keeps : goal.returns-clause-keeps
returns-clause-keeps g c =
    let all : length c.in-Some.others.now + 1 ≡ length c.args.rs.now = omega (arith, c.in-Some.ensures.cases.1) in
    subst (λ n. KeepRoom n 0 c.args.indexes.now c.change_last.new.indexes) all
    (keep_then (length c.in-Some.others.now) 0 1 0 c.args.indexes.now c.change_each.new.indexes c.change_last.new.indexes c.change_each.ensures.keeps c.change_last.ensures.keeps)
