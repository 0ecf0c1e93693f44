use Rattle.std.proofs.Common.{◌≡◌, ◌∙◌, ◌++◌, ◌∷◌, [], List, IsSome, Some, ap, sym, subst, map, take}
use Rattle.std.specs.Option.{option_map}
use Rattle.std.proofs.lemmas.List.{map_push, take_more, take_all}
use Rattle.std.proofs.lemmas.Option.{same_Some}
use Rattle.plain_tables.specs.CsvReading.{all_of}
use Rattle.plain_tables.specs.Resolving.{block_column}
use Rattle.plain_tables.specs.Tables.{Table}
use Rattle.plain_tables.specs.declared.schema.Column.{Column}
use Rattle.mm_csv.specs.BlockReading.{column_of, columns_of}
use Rattle.mm_csv.specs.declared.field.Field.{Field}
use Rattle.mm_resolver.proofs.BlockColumns.{all_more}
use Rattle.mm_resolver.proofs.Loads.{columns_typed}
use Rattle.mm_resolver.proofs.load.layout.Goals as goal

pub block_field-requires : goal.block_field-requires
block_field-requires g c =
    let tables = g.S.Schemas.database c.args.schemas.now in
    let typed = columns_typed (g.S.Schemas.limits c.args.schemas.now) tables c.are_sound.ensures c.args.table.0 c.columns-columns.result.now c.requires c.columns-columns.ensures in
    subst (λ (k : Column). IsSome (block_column tables k)) (sym c.column-item.is)
    (typed c.loop-column.column-index c.column-item.result c.loop-column-test.true)

pub loop-column-preserved : goal.loop-column-preserved
loop-column-preserved g c =
    let block = block_column (g.S.Schemas.database c.args.schemas.now) in
    let i = c.loop-column.column-index in
    let columns = c.columns-columns.result.now in
    let column : Column = c.column-item.result in
    let fields = c.loop-column.layout.items in
    let field : Field = c.in_ok-block_field.field-0 in
    ap (λ (ks : List Column). all_of (map block ks)) (take_more columns i column c.loop-column-test.true ∙ ap (λ (k : Column). take i columns ++ k ∷ []) (sym c.column-item.is))
    ∙ ap all_of (map_push block (take i columns) column)
    ∙ all_more (map block (take i columns)) (columns_of fields) (block column) (column_of field) c.loop-column.invariant c.in_ok-block_field.ensures
    ∙ ap Some (sym (map_push column_of fields field) ∙ ap columns_of (sym c.in_ok-push.ensures.items))

pub returns : goal.returns
returns g c = λ t at.
    let columns = c.columns-columns.result.now in
    let same : t.columns ≡ columns = same_Some t.columns columns (sym (ap (option_map (λ (u : Table). u.columns)) at) ∙ c.columns-columns.ensures) in
    ap (λ (ks : List Column). all_of (map (block_column (g.S.Schemas.database c.args.schemas.now)) ks)) (same ∙ sym (take_all c.loop-column.column-index columns c.loop-column-test.false))
    ∙ c.loop-column.invariant
