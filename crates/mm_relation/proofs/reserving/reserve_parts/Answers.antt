use Rattle.std.proofs.Common.{◌+◌, ◌∙◌, ap, arith}
use Rattle.std.specs.Prelude.{Result, Ok, Err, OnOk}
use Rattle.mm_relation.specs.Rows.{Aside}
use Rattle.mm_relation.proofs.Owed.{owed_left}
use Rattle.mm_relation.proofs.Room.{keep_then, rooms_fewer}
use Rattle.mm_relation.proofs.reserving.reserve_parts.Goals as goal

-- what holds anyway holds where all went well
anyway : {A E P : Type 0} (result : Result A E) → P → OnOk result P
anyway (Ok x) holds = holds
anyway (Err e) holds = tt

pub returns-in_err-reserve_indexes-clause-owed : goal.returns-in_err-reserve_indexes-clause-owed
returns-in_err-reserve_indexes-clause-owed c =
    owed_left 0 0 _ _ _ c.args.by_key.now c.reserve_indexes.new.by_key c.args.indexes.now c.reserve_indexes.new.indexes c.reserve_indexes.ensures.keeps c.requires.owed (omega arith) (omega arith) (omega (arith, c.requires.owed.key_room, c.reserve_indexes.ensures.key_kept))

pub returns-clause-owed : goal.returns-clause-owed
returns-clause-owed c =
    owed_left 0 0 _ _ _ c.args.by_key.now c.reserve_indexes.new.by_key c.args.indexes.now c.cover_slots.new.indexes
    (keep_then 0 0 0 0 c.args.indexes.now c.reserve_indexes.new.indexes c.cover_slots.new.indexes c.reserve_indexes.ensures.keeps c.cover_slots.ensures.keeps) c.requires.owed (omega arith) (omega arith)
    (omega (arith, c.requires.owed.key_room, c.reserve_indexes.ensures.key_kept))

pub returns-clause-room : goal.returns-clause-room
returns-clause-room c =
    let owed = c.args.rows.now.aside.owed in
    let in_trees = c.owed-owed.result + c.inserts_for.result in
    let in_hashes = c.owed-owed.result + c.args.n in
    let same = c.owed-owed.ensures.value ∙ ap (λ (aside : Aside). aside.owed) c.reserve_many.ensures.aside in
    anyway c.cover_slots.result
    (c.cover_slots.ensures.keeps.room owed (owed + c.args.n)
    (rooms_fewer in_trees in_hashes (owed + 0) (owed + c.args.n + 0) c.reserve_indexes.new.indexes
    (omega (arith, same)) (omega (arith, same)) c.in_ok-reserve_indexes.ensures.room))
