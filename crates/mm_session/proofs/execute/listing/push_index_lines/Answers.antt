use Rattle.std.proofs.Common.{◌≡◌, ◌∙◌, ◌++◌, ◌≤◌, ◌<◌, List, length, sym, ap, subst, arith, rules}
use Rattle.std.proofs.lemmas.List.{take_all}
use Rattle.std.specs.List.{All}
use Rattle.plain_tables.specs.declared.schema.Column.{Column}
use Rattle.plain_tables.specs.declared.schema.Schema.{Schema}
use Rattle.mm_relation.specs.declared.numbers.DeclaredIndex.{DeclaredIndex}
use Rattle.mm_session.specs.Listing.{command_lines, index_commands}
use Rattle.mm_session.proofs.Listings.{index_step}
use Rattle.mm_session.proofs.execute.listing.push_index_lines.Goals as goal

pub loop-index-preserved : goal.loop-index-preserved
loop-index-preserved c =
    let items = c.declared-index-items.result.now in
    let columns = c.as_slice-columns.result.now in
    let same : columns ≡ c.args.relation.now.schema.columns = c.as_slice-columns.ensures ∙ ap (λ (h : Schema). h.columns) c.schema.ensures in
    let within : All (λ (d : DeclaredIndex). d.column.0 < length columns) items =
    subst (λ (ds : List DeclaredIndex). All (λ (d : DeclaredIndex). d.column.0 < length columns) ds) (sym c.declared-index-items.ensures)
    (subst (λ (cs : List Column). All (λ (d : DeclaredIndex). d.column.0 < length cs) c.args.relation.now.declared) (sym same) c.requires) in
    index_step c.args.name.now columns items c.loop-index.index-index _ c.index-columns-index.result c.as_str-column.result.now
    c.args.answer.now c.loop-index.answer c.print_index.new.line c.push.new.self
    (omega arith) within c.index-columns-index.is c.as_str-column.ensures c.loop-index.invariant c.in_ok-print_index.ensures c.in_ok-push.ensures.pushed

pub returns : goal.returns
returns c =
    let items = c.declared-index-items.result.now in
    let same : c.as_slice-columns.result.now ≡ c.args.relation.now.schema.columns = c.as_slice-columns.ensures ∙ ap (λ (h : Schema). h.columns) c.schema.ensures in
    let ended : length items ≤ c.loop-index.index-index = search rules in
    c.loop-index.invariant
    ∙ ap (λ (ds : List DeclaredIndex). c.args.answer.now ++ command_lines (index_commands c.args.name.now c.as_slice-columns.result.now ds)) (take_all c.loop-index.index-index items ended ∙ c.declared-index-items.ensures)
    ∙ ap (λ (cs : List Column). c.args.answer.now ++ command_lines (index_commands c.args.name.now cs c.args.relation.now.declared)) same
