-- Each separator takes the reading one item on, and anything else ends it.
use Rattle.std.proofs.Common.{ap, arith, length}
use Rattle.plain_tables.proofs.Lexemes.{length-lexeme}
use Rattle.mm_lang.proofs.Fronts.{passed-error, reads-shorter}
use Rattle.mm_lang.proofs.Lists.{has_read-further, has_read-last, has_read-no_item}
use Rattle.mm_lang.proofs.items.list.Goals as goal

pub returns-in_err-item-clause-syntax : goal.returns-in_err-item-clause-syntax
returns-in_err-item-clause-syntax g c = λ syntax.
    has_read-no_item g.T.Item.symbols _ _ _ _ c.requires.ends_item c.loop-items.invariant
    (c.in_err-item.ensures.syntax (passed-error c.from_residual.ensures.1 syntax))

pub loop-items-smaller : goal.loop-items-smaller
loop-items-smaller g c =
    rw c.in-Some.ensures.1
    (omega (
      arith,
      length-lexeme c.in_ok-item.behind.now,
      ap length c.in-Some.ensures.0,
      reads-shorter c.loop-items.rest.now (g.T.Item.symbols c.in_ok-item.item) c.in_ok-item.behind.now c.in_ok-item.ensures.item.found,
      c.requires.some,
    ))

pub loop-items-preserved : goal.loop-items-preserved
loop-items-preserved g c =
    rw (c.in_ok-push.ensures.items, c.in-Some.ensures.1)
    (has_read-further g.T.Item.symbols _ _ _ _ _ _ c.requires.ends_item c.loop-items.invariant c.in_ok-item.ensures.item c.in-Some.ensures.0)

pub returns-in-None-clause-items : goal.returns-in-None-clause-items
returns-in-None-clause-items g c =
    rw c.in_ok-push.ensures.items
    (has_read-last g.T.Item.symbols _ _ _ _ _ _ c.requires.ends_item c.loop-items.invariant c.in_ok-item.ensures.item c.in-None.ensures)
