use Rattle.std.proofs.Common.{ap, ◌∙◌, ◌++◌}
use Rattle.std.proofs.lemmas.Result.{on_ok_weaker}
use Rattle.mm_lang.proofs.Spacing.{written-delete}
use Rattle.mm_lang.proofs.printer.push_delete.Goals as goal

pub returns : goal.returns
returns g c =
    on_ok_weaker c.push_where.result
    (written-delete _ c.args.table.now _ _ (g.S.Sink.held c.push_where.new.line) c.args.conditions.now
    c.in_ok-push_str.ensures.bytes (c.in_ok-push_str-2.ensures.bytes ∙ ap (λ n. g.S.Sink.held c.push_str.new.self ++ n) c.as_str.ensures))
    c.push_where.ensures
