use Rattle.std.proofs.Common.{◌≡◌, ◌++◌, drop}
use Rattle.std.specs.List.{flat_map}
use Rattle.plain_tables.specs.Spelling.{spaced}
use Rattle.mm_lang.specs.Printing.{joined}
use Rattle.mm_lang.proofs.items.push_list.Given as goal

-- what is written and what is left are the whole
abbrev pub invariant-loop-item : goal.invariant-loop-item
invariant-loop-item g l =
    g.S.Sink.held l.line ++ flat_map (λ y. l.between ++ spaced (g.T.Item.symbols y)) (drop l.item-index l.others)
    ≡ g.S.Sink.held l.fn.line ++ joined g.T.Item.symbols l.between l.fn.items
