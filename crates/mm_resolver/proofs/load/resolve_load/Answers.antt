use Rattle.std.proofs.Common.{◌∙◌, Err, ap, sym}
use Rattle.plain_tables.specs.CsvReading.{Rows, BadHeader, BadRecord}
use Rattle.plain_tables.specs.declared.refusal.Refusal.TheVariants as refusal
use Rattle.mm_csv.specs.BlockReading.{block_records}
use Rattle.mm_resolver.proofs.Loads.{table_within, load_nowhere, load_meant}
use Rattle.mm_resolver.proofs.load.resolve_load.Goals as goal

pub layout-requires : goal.layout-requires
layout-requires g c = table_within (g.S.Schemas.database c.args.schemas.now) c.args.name.now c.in-Some.table (sym c.table_number.ensures ∙ c.in-Some.is)

pub returns-in_default-clause-refused : goal.returns-in_default-clause-refused
returns-in_default-clause-refused g c = λ other bytes.
    load_nowhere (g.S.Schemas.database c.args.schemas.now) c.args.name.now (block_records c.args.block.now) bytes (sym c.table_number.ensures ∙ c.in_default.is)

pub returns-in-Ok-clause-meant : goal.returns-in-Ok-clause-meant
returns-in-Ok-clause-meant g c = λ bytes.
    load_meant (g.S.Schemas.database c.args.schemas.now) c.args.name.now (block_records c.args.block.now) bytes c.in-Some.table c.in_ok-layout.layout.items c.deref.result.now
    (Rows c.in-Ok.rows) (sym c.table_number.ensures ∙ c.in-Some.is) c.in_ok-layout.ensures c.deref.ensures.value c.in-Ok.ensures.rows

pub returns-in-Err-Header-clause-refused : goal.returns-in-Err-Header-clause-refused
returns-in-Err-Header-clause-refused g c = λ other bytes.
    load_meant (g.S.Schemas.database c.args.schemas.now) c.args.name.now (block_records c.args.block.now) bytes c.in-Some.table c.in_ok-layout.layout.items c.deref.result.now
    BadHeader (sym c.table_number.ensures ∙ c.in-Some.is) c.in_ok-layout.ensures c.deref.ensures.value (rw c.in-Err-Header.field-0-is at c.in-Err-Header.ensures.refused)

pub returns-in-Err-BadRow-clause-refused : goal.returns-in-Err-BadRow-clause-refused
returns-in-Err-BadRow-clause-refused g c = λ other bytes.
    let is = load_meant (g.S.Schemas.database c.args.schemas.now) c.args.name.now (block_records c.args.block.now) bytes c.in-Some.table c.in_ok-layout.layout.items c.deref.result.now
    (BadRecord c.in-Err-BadRow.record) (sym c.table_number.ensures ∙ c.in-Some.is) c.in_ok-layout.ensures c.deref.ensures.value (rw c.in-Err-BadRow.field-0-is at c.in-Err-BadRow.ensures.refused) in
    is ∙ ap (λ k. Err (refusal.BadRecord k)) (sym c.in-Err-BadRow.record-is)
