use Rattle.std.proofs.Common.{◌≡◌, ◌+◌, ℕ, List, map, length, take, arith, ◌∙◌}
use Rattle.std.specs.List.{flat_map}
use Rattle.std.proofs.Math.Seq.{map-set_same}
use Rattle.plain_statements.specs.StatementSpelling.{numbers_of}
use Rattle.mm_lang.specs.Statements.{AreFrom}
use Rattle.mm_lang.proofs.Numbering.{one-more, no-more, numbers-so_far, further}
use Rattle.mm_lang.proofs.slots.number_holes.Goals.{then-number, else-number}
use Rattle.mm_lang.proofs.slots.number_holes.Goals as goal

pub loop-item-preserved : goal.loop-item-preserved
loop-item-preserved g c =
    let l = c.loop-item in
    let numbers : List ℕ = numbers_of (g.T.SlotItem.slot c.number.new.self) in
    let step : AreFrom l.next numbers × (c.if-number.next ≡ l.next + length numbers) = elim c.if-number.branch [
      | then-number w ↦ one-more l.next c.if-number.next numbers c.number.result c.number.ensures.numbers w.if-number.true w.next-is
      | else-number w ↦ no-more l.next c.if-number.next numbers c.number.result c.number.ensures.numbers w.if-number.false w.next-is
    ] in
    let all = numbers-so_far numbers_of g.T.SlotItem.slot l.items l.item-index c.number.new.self (omega arith) in
    let both = further c.args.first l.next c.if-number.next (flat_map numbers_of (map g.T.SlotItem.slot (take l.item-index l.items))) numbers _ all l.invariant.numbers l.invariant.next step in
    record {
      symbols = map-set_same g.T.Item.symbols l.items l.item-index c.number.new.self c.item-item.result c.number.ensures.symbols ∙ l.invariant.symbols;
      numbers = both.0;
      most = elim c.if-number.branch [
        | then-number w ↦ omega (arith, l.invariant.most, w.next-is)
        | else-number w ↦ omega (arith, l.invariant.most, w.next-is)
      ];
      next = both.1;
    }
