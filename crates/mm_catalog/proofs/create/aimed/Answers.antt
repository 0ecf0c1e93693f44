use Rattle.std.proofs.Common.{◌≡◌, ◌<◌, ◌≤◌, length, map, ap, ◌∙◌, arith}
use Rattle.std.specs.String.{string_bytes}
use Rattle.plain_tables.specs.declared.schema.Schema.{Schema}
use Rattle.mm_relation.specs.State.{RelationState}
use Rattle.mm_catalog.proofs.Aimed.{aimed_first, aimed_next, aimed_whole}
use Rattle.mm_catalog.proofs.create.aimed.Goals as goal

pub loop-column-init : goal.loop-column-init
loop-column-init c =
    aimed_first (map string_bytes c.args.names.now.keys) c.args.schema c.in_ok-relation.relation c.in_ok-relation.ensures.made

pub loop-column-preserved : goal.loop-column-preserved
loop-column-preserved c =
    let wide : length c.schema.result.now.columns ≡ length c.args.schema.columns =
    ap (λ (s : Schema). length s.columns) (c.schema.ensures ∙ ap (λ (r : RelationState). r.schema) c.in_ok-relation.ensures.made) in
    let within : c.loop-column.column < length c.args.schema.columns = omega (arith, c.loop-column-test.true, c.len-column-end.ensures, wide) in
    aimed_next (map string_bytes c.args.names.now.keys) c.args.schema c.loop-column.column c.loop-column.relation c.aim.new.relation c.loop-column.invariant within c.aim.ensures

pub returns-clause-made : goal.returns-clause-made
returns-clause-made c =
    let wide : length c.schema.result.now.columns ≡ length c.args.schema.columns =
    ap (λ (s : Schema). length s.columns) (c.schema.ensures ∙ ap (λ (r : RelationState). r.schema) c.in_ok-relation.ensures.made) in
    let past : length c.args.schema.columns ≤ c.loop-column.column = omega (arith, c.loop-column-test.false, c.len-column-end.ensures, wide) in
    aimed_whole (map string_bytes c.args.names.now.keys) c.args.schema c.loop-column.column c.loop-column.relation c.loop-column.invariant past
