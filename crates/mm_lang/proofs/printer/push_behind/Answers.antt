use Rattle.std.proofs.Common.{sym, ◌∙◌}
use Rattle.std.proofs.lemmas.Result.{on_ok_weaker}
use Rattle.mm_lang.proofs.Spacing.{written-behind}
use Rattle.mm_lang.proofs.printer.push_behind.Goals as goal

pub returns : goal.returns
returns g c =
    on_ok_weaker c.push_list.result
    (written-behind g.T.Item.symbols g.met.T.PrintedItem.free _ _ (g.S.Sink.held c.push_list.new.line) c.args.items.now
    (sym c.is_empty.ensures ∙ c.if-is_empty.false) c.in_ok-push_str.ensures.bytes)
    c.push_list.ensures
