use Rattle.std.proofs.Common.{ap, ◌∙◌, ◌++◌}
use Rattle.std.proofs.lemmas.Result.{on_ok_weaker}
use Rattle.std.specs.List.{flat_map}
use Rattle.plain_tables.specs.Spelling.{join_symbols, where_symbols}
use Rattle.mm_lang.specs.Printing.{behind}
use Rattle.mm_lang.proofs.Spacing.{written-select}
use Rattle.mm_lang.proofs.printer.push_select.Goals as goal

pub returns : goal.returns
returns g c =
    on_ok_weaker c.push_where.result
    (λ e. written-select _ c.args.table.now _ _ _ _ _ (g.S.Sink.held c.push_where.new.line) c.args.distinct c.args.items.now c.args.joins.now
    c.args.conditions.now (c.in_ok-push_str.ensures.bytes ∙ ap (λ n. g.S.Sink.held c.args.line.now ++ n) c.select_str.ensures)
    c.in_ok-push_items.ensures c.in_ok-push_str-2.ensures.bytes
    (c.in_ok-push_str-3.ensures.bytes ∙ ap (λ n. g.S.Sink.held c.push_str-2.new.self ++ n) c.as_str.ensures)
    (c.in_ok-push_joins.ensures ∙ ap (λ l. g.S.Sink.held c.push_str-3.new.self ++ behind (flat_map join_symbols l)) c.as_slice.ensures)
    (e ∙ ap (λ l. g.S.Sink.held c.push_joins.new.line ++ behind (where_symbols l)) c.as_slice-2.ensures))
    c.push_where.ensures
