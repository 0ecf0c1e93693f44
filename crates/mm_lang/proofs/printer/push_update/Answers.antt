use Rattle.std.proofs.Common.{ap, ◌∙◌, ◌++◌}
use Rattle.std.proofs.lemmas.Result.{on_ok_weaker}
use Rattle.mm_lang.proofs.Spacing.{written-update}
use Rattle.mm_lang.proofs.printer.push_update.Goals as goal

pub returns : goal.returns
returns g c =
    on_ok_weaker c.push_where.result
    (written-update _ c.args.table.now _ _ _ _ (g.S.Sink.held c.push_where.new.line) c.args.settings.now c.args.conditions.now
    c.in_ok-push_str.ensures.bytes (c.in_ok-push_str-2.ensures.bytes ∙ ap (λ n. g.S.Sink.held c.push_str.new.self ++ n) c.as_str.ensures) c.in_ok-push_str-3.ensures.bytes
    c.in_ok-push_behind.ensures)
    c.push_where.ensures
