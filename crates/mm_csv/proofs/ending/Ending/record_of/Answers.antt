use Rattle.std.proofs.Common.{◌≡◌, ◌∙◌, map, arith}
use Rattle.std.proofs.lemmas.List.{length-map}
use Rattle.plain_tables.specs.Csv.{value_field}
use Rattle.mm_csv.proofs.Endings.{record-behind}
use Rattle.mm_csv.proofs.ending.Ending.record_of.Goals as goal

pub returns : goal.returns
returns c =
    let lent = map (λ v. v.now) c.args.values.now in
    let first : c.loop-place.place ≡ 0 = omega (arith, c.loop-place-test.false) in
    let put = rw first at c.loop-place.invariant in
    c.behind_first.ensures
    ∙ record-behind (map value_field lent) c.loop-place.self (rw (length-map lent value_field, length-map c.args.values.now (λ v. v.now)) c.requires) put.0 put.1
    (omega (arith, c.room.ensures, c.if-room-ge-ROOM.false))
