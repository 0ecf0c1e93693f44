use Rattle.std.proofs.Common.{◌+◌, arith}
use Rattle.mm_relation.proofs.Owed.{owed_left, made_ready}
use Rattle.mm_relation.proofs.parts.make_room.Goals as goal

pub returns-clause-owed : goal.returns-clause-owed
returns-clause-owed c =
    owed_left 0 0 _ _ _ c.args.by_key.now c.make_ready.new.by_key c.args.indexes.now c.make_ready.new.indexes c.make_ready.ensures.keeps c.requires.owed (omega arith) (omega arith) (omega (arith, c.requires.owed.key_room, c.make_ready.ensures.key_kept))

pub returns-clause-room : goal.returns-clause-room
returns-clause-room c =
    made_ready c.make_ready.result _ (c.args.rows.now.aside.owed + 1) _ c.args.by_key.now c.make_ready.new.by_key c.args.indexes.now c.make_ready.new.indexes c.make_ready.ensures.keeps c.requires.owed (rw c.owed-wanted.ensures.value at c.make_ready.ensures.key_room) (rw c.owed-wanted.ensures.value at c.make_ready.ensures.room)
