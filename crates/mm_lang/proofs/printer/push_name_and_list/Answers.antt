use Rattle.mm_lang.proofs.Spacing.{written-list}
use Rattle.mm_lang.proofs.printer.push_name_and_list.Goals as goal

pub returns : goal.returns
returns g c =
    written-list g.T.Item.symbols g.met.T.PrintedItem.free _ c.args.word.now c.args.name.now _ _ _ _ _ c.args.items.now
    c.in_ok-push_str.ensures.bytes c.in_ok-push_str-2.ensures.bytes c.in_ok-push_str-3.ensures.bytes
    c.in_ok-push_list.ensures c.in_ok-push_str-4.ensures.bytes
