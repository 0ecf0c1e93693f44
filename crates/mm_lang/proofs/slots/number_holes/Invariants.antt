use Rattle.std.proofs.Common.{◌≡◌, ◌+◌, ◌≤◌, map, take, length}
use Rattle.std.specs.List.{flat_map}
use Rattle.plain_statements.specs.StatementSpelling.{numbers_of}
use Rattle.mm_lang.specs.Statements.{AreFrom}
use Rattle.mm_lang.proofs.slots.number_holes.Given as goal

-- The items are those of before but for numbers, and the holes so far have theirs.
abbrev pub invariant-loop-item : goal.invariant-loop-item
invariant-loop-item g l = record {
  symbols : map g.T.Item.symbols l.items ≡ map g.T.Item.symbols l.fn.items;
  numbers : AreFrom l.first (flat_map numbers_of (map g.T.SlotItem.slot (take l.item-index l.items)));
  most : l.next ≤ l.first + l.item-index;
  next : l.next ≡ l.first + length (flat_map numbers_of (map g.T.SlotItem.slot (take l.item-index l.items)));
}
