use Rattle.std.proofs.Common.{◌∙◌, ◌∷◌, [], subst, arith, append-nil}
use Rattle.std.specs.Io.KnownBytes.{Appends}
use Rattle.std.proofs.lemmas.List.Concat.{flat_map-cons}
use Rattle.std.proofs.lemmas.Result.{on_ok_weaker}
use Rattle.plain_tables.specs.Csv.{row_record}
use Rattle.mm_catalog.specs.Picked.{seen_values}
use Rattle.mm_session.specs.Sinks.{IsBehind, EndsRow}
use Rattle.mm_session.proofs.Dumps.{seen_long}
use Rattle.mm_session.proofs.Sinks.{row_put, rows_written}
use Rattle.mm_session.proofs.execute.blocks.push_record.Goals as goal

behind : (c : goal.After-end_row) → EndsRow IsBehind c.push_whole.new.sink c.end_row.new.self
    → IsBehind c.args.records.now (seen_values c.args.catalog.now c.args.relation.now c.args.r ∷ []) [] c.end_row.new.self
behind c ends =
    let seen = seen_values c.args.catalog.now c.args.relation.now c.args.r in
    let long = seen_long c.args.catalog.now c.args.relation.now c.args.r c.requires.held in
    rows_written c.args.records.now c.end_row.new.self (seen ∷ []) c.requires.ended
    (row_put IsBehind c.args.records.now c.push_whole.new.sink c.end_row.new.self seen c.in_ok-push_whole.ensures.put ends (omega (arith, long, c.requires.some)))

pub returns-clause-written : goal.returns-clause-written
returns-clause-written c =
    let seen = seen_values c.args.catalog.now c.args.relation.now c.args.r in
    on_ok_weaker c.end_row.result
    (λ ends. subst (Appends c.args.records.now.bytes c.end_row.new.self.bytes) (flat_map-cons row_record seen [] ∙ append-nil (row_record seen)) (behind c ends).written) c.end_row.ensures.ended

pub returns-clause-ended : goal.returns-clause-ended
returns-clause-ended c = on_ok_weaker c.end_row.result (λ ends. (behind c ends).waits) c.end_row.ensures.ended
