use Rattle.ttree.specs.Held.{items_of_tree}
use Rattle.std.proofs.Common.{◌∙◌, arith, sym, subst}
use Rattle.std.specs.List.{All}
use Rattle.mm_relation.proofs.Changing.{awaits, served_with}
use Rattle.mm_relation.proofs.Owed.{owed_one, owed_left}
use Rattle.mm_relation.proofs.Room.{gain_keeps, keep_then}
use Rattle.mm_relation.proofs.Serving.{gain_declared, seen_declared, column_seen}
use Rattle.mm_relation.specs.Indexes.{Serves, Serve, CanRead, CanReadRow}
use Rattle.mm_relation.specs.Rows.{row_of}
use Rattle.mm_relation.proofs.parts.place.Goals as goal

pub insert-requires-clause-awaits : goal.insert-requires-clause-awaits
insert-requires-clause-awaits g c =
    let keys = g.R.LinkedKeys.keys c.args.links.now in
    let same = c.put_row.ensures.same in
    rw c.in_ok-r.ensures.put
    (awaits keys c.args.rows.now.tuples (items_of_tree c.args.by_key.now) c.put_row.new.indexes c.requires.keyed
    (λ n q column held. c.requires.read n q (column_seen c.args.indexes.now c.put_row.new.indexes same n column) held)
    (subst (λ ss. All (Serves keys c.args.rows.now.tuples (items_of_tree c.args.by_key.now)) ss) (sym same) c.requires.serve)
    c.in_ok-r.r (row_of c.args.row.now.items) c.in_ok-r.ensures.fresh
    (λ n column. c.requires.row_read n (column_seen c.args.indexes.now c.put_row.new.indexes same n column))
    (omega (arith, c.requires.few)) (rw c.in_ok-r.ensures.put at c.in_ok-r.ensures.keyed.keys_differ) (c.put_row.ensures.keeps.room 1 1 (owed_one _ _ _ _ c.requires.owed)) c.in_ok-r.ensures.covered)

pub returns-clause-serve : goal.returns-clause-serve
returns-clause-serve g c =
    let keys = g.R.LinkedKeys.keys c.args.links.now in
    let same = c.put_row.ensures.same in
    let read : CanRead keys c.args.rows.now.tuples c.put_row.new.indexes = λ n q column held. c.requires.read n q (column_seen c.args.indexes.now c.put_row.new.indexes same n column) held in
    let row_read : CanReadRow keys (row_of c.args.row.now.items) c.put_row.new.indexes = λ n column. c.requires.row_read n (column_seen c.args.indexes.now c.put_row.new.indexes same n column) in
    let serve : Serve keys c.args.rows.now.tuples (items_of_tree c.args.by_key.now) c.put_row.new.indexes =
    subst (λ ss. All (Serves keys c.args.rows.now.tuples (items_of_tree c.args.by_key.now)) ss) (sym same) c.requires.serve in
    let differ = rw c.in_ok-r.ensures.put at c.in_ok-r.ensures.keyed.keys_differ in
    rw c.in_ok-r.ensures.put
    (served_with keys c.args.rows.now.tuples (items_of_tree c.args.by_key.now) c.put_row.new.indexes c.requires.keyed read serve c.in_ok-r.r (row_of c.args.row.now.items) c.in_ok-r.ensures.fresh row_read
    (items_of_tree c.put_row.new.by_key) c.insert.new.indexes differ c.in_ok-r.ensures.listed
    (awaits keys c.args.rows.now.tuples (items_of_tree c.args.by_key.now) c.put_row.new.indexes c.requires.keyed read serve c.in_ok-r.r (row_of c.args.row.now.items) c.in_ok-r.ensures.fresh row_read
    (omega (arith, c.requires.few)) differ (c.put_row.ensures.keeps.room 1 1 (owed_one _ _ _ _ c.requires.owed)) c.in_ok-r.ensures.covered)
    (rw c.in_ok-r.ensures.put at c.insert.ensures))

pub returns-clause-declared : goal.returns-clause-declared
returns-clause-declared g c =
    gain_declared (g.R.LinkedKeys.keys c.args.links.now) _ _ c.put_row.new.indexes c.insert.new.indexes c.insert.ensures
    ∙ seen_declared c.args.indexes.now c.put_row.new.indexes c.put_row.ensures.same

pub returns-in_err-r-clause-declared : goal.returns-in_err-r-clause-declared
returns-in_err-r-clause-declared g c = seen_declared c.args.indexes.now c.put_row.new.indexes c.put_row.ensures.same

pub put_row-requires-clause-key_room : goal.put_row-requires-clause-key_room
put_row-requires-clause-key_room g c = omega (arith, c.requires.owed.key_room)

pub returns-in_err-r-clause-owed : goal.returns-in_err-r-clause-owed
returns-in_err-r-clause-owed g c =
    owed_left 0 0 _ _ _ c.args.by_key.now c.put_row.new.by_key c.args.indexes.now c.put_row.new.indexes c.put_row.ensures.keeps c.requires.owed (omega arith) (omega arith) (omega (arith, c.requires.owed.key_room, c.put_row.ensures.key_room))

pub returns-clause-owed : goal.returns-clause-owed
returns-clause-owed g c =
    owed_left 1 1 _ _ _ c.args.by_key.now c.put_row.new.by_key c.args.indexes.now c.insert.new.indexes
    (keep_then 0 0 1 1 c.args.indexes.now c.put_row.new.indexes c.insert.new.indexes c.put_row.ensures.keeps (gain_keeps (g.R.LinkedKeys.keys c.args.links.now) _ _ c.put_row.new.indexes c.insert.new.indexes c.insert.ensures))
    c.requires.owed (omega arith) (omega arith) (omega (arith, c.requires.owed.key_room, c.put_row.ensures.key_room))
