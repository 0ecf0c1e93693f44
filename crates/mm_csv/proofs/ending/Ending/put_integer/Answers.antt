use Rattle.std.proofs.Common.{◌+◌, ◌≤◌, length, length-append, arith}
use Rattle.std.proofs.lemmas.Fmt.{length-decimal-le}
use Rattle.std.specs.Fmt.{decimal}
use Rattle.mm_csv.proofs.PlainFields.{integer-plain}
use Rattle.mm_csv.proofs.ending.Ending.put_integer.Goals.{then-z-lt0, else-z-lt0}
use Rattle.mm_csv.proofs.ending.Ending.put_integer.Goals as goal

pub returns-then-room-lt-INTEGER_ROOM-clause-plain : goal.returns-then-room-lt-INTEGER_ROOM-clause-plain
returns-then-room-lt-INTEGER_ROOM-clause-plain c = integer-plain c.args.z c.ranges.z

pub put_byte-requires : goal.put_byte-requires
put_byte-requires c =
    let digits = decimal c.unsigned_abs.result in
    let few : length digits ≤ 19 = length-decimal-le 19 c.unsigned_abs.result (omega arith) (omega (arith, c.unsigned_abs.ensures.bound)) (omega arith) in
    rw c.put_digits.ensures (omega (arith, few, c.room.ensures, c.if-room-lt-INTEGER_ROOM.false, length-append digits c.args.self.now))

pub put_byte-requires-2 : goal.put_byte-requires-2
put_byte-requires-2 c =
    let digits = decimal c.unsigned_abs.result in
    let few : length digits ≤ 19 = length-decimal-le 19 c.unsigned_abs.result (omega arith) (omega (arith, c.unsigned_abs.ensures.bound)) (omega arith) in
    let so-far : length c.put_digits.new.self + 2 ≤ 256 = rw c.put_digits.ensures (omega (arith, few, c.room.ensures, c.if-room-lt-INTEGER_ROOM.false, length-append digits c.args.self.now)) in
    elim c.if-z-lt0.branch [
      | then-z-lt0 w ↦ rw (w.self-is, w.put_byte.ensures) (omega (arith, so-far))
      | else-z-lt0 w ↦ rw w.self-is (omega (arith, so-far))
    ]

pub returns-clause-plain : goal.returns-clause-plain
returns-clause-plain c = integer-plain c.args.z c.ranges.z
