use Rattle.std.proofs.Common.{◌≡◌, ◌⊎◌, ◌∙◌, ◌++◌, ◌+◌, ◌<◌, List, ℕ, Some, inl, inr, ap, sym, subst, arith, length, map}
use Rattle.std.specs.Io.KnownBytes.{Appends}
use Rattle.std.specs.List.{flat_map, slice_get}
use Rattle.std.specs.Prelude.{Option}
use Rattle.std.proofs.lemmas.List.{length-map}
use Rattle.plain_tables.specs.Csv.{record_text, row_record, block_text}
use Rattle.plain_tables.specs.Doing.{dump_block}
use Rattle.plain_tables.specs.Effects.{column_names}
use Rattle.plain_tables.specs.Tables.{Table, Row}
use Rattle.plain_tables.specs.declared.command.Limits.{Limits}
use Rattle.plain_tables.specs.declared.refusal.Refusal.{Refusal}
use Rattle.plain_tables.specs.declared.refusal.Refusal.TheVariants as refusal
use Rattle.plain_tables.specs.declared.schema.Column.{Column}
use Rattle.plain_tables.specs.declared.schema.Schema.{Schema}
use Rattle.mm_catalog.specs.Consistent.{IsConsistent}
use Rattle.mm_catalog.specs.Picked.{seen_values}
use Rattle.mm_catalog.specs.Seen.{database_of}
use Rattle.mm_catalog.specs.State.{CatalogState}
use Rattle.mm_catalog.proofs.Among.{some_columns}
use Rattle.mm_catalog.proofs.Tables.{database-length}
use Rattle.mm_relation.specs.State.{RelationState, tree_list}
use Rattle.mm_session.specs.Dumps.{IsWithin, IsPast, IsGivenUp}
use Rattle.mm_session.specs.Sinks.{Written}
use Rattle.mm_session.proofs.Dumps.{columns_same, names_begin, block_whole, within_kept, past_front, past_whole, handed_on}
use Rattle.mm_session.proofs.Members.{rows_same}
use Rattle.mm_session.proofs.execute.ReadExecutor.with_block_of.Goals as goal

-- the names and the records of a relation's rows are the block of its table
block_is : (c : CatalogState) → IsConsistent c → (n : ℕ) (s : RelationState) → slice_get c.relations n ≡ Some s → (names : List (List ℕ)) → names ≡ column_names s.schema.columns
    → (t : Table) → slice_get (database_of c) n ≡ Some t → record_text names ++ flat_map row_record (map (seen_values c s) (tree_list s.by_key)) ≡ dump_block t
block_is c ok n s there names same t at =
    ap (λ (ns : List (List ℕ)). record_text ns ++ flat_map row_record (map (seen_values c s) (tree_list s.by_key))) (same ∙ ap column_names (sym (columns_same c ok n t at s there)))
    ∙ ap (λ (rs : List Row). block_text (column_names t.columns) rs) (sym (rows_same c ok n t at s there))

pub at-relation-requires : goal.at-relation-requires
at-relation-requires c = omega (arith, c.requires, database-length c.args.catalog.now c.a_catalog_is_consistent.ensures.named)

pub push_names-requires : goal.push_names-requires
push_names-requires c =
    let catalog = c.args.catalog.now in
    let s = c.at-relation.result.now in
    let some = some_columns catalog c.a_catalog_is_consistent.ensures c.args.table.0 s c.at-relation.ensures in
    let columns : c.as_slice.result.now ≡ s.schema.columns = c.as_slice.ensures ∙ ap (λ (h : Schema). h.columns) c.schema.ensures in
    let same = ap length (c.deref.ensures.value ∙ c.in_ok-names.ensures ∙ ap column_names columns) in
    let long = length-map s.schema.columns (λ (h : Column). h.name) in
    omega (arith, some, same, long)

pub push_rows-requires-clause-some : goal.push_rows-requires-clause-some
push_rows-requires-clause-some c = some_columns c.args.catalog.now c.a_catalog_is_consistent.ensures c.args.table.0 c.at-relation.result.now c.at-relation.ensures

pub push_rows-requires-clause-lent : goal.push_rows-requires-clause-lent
push_rows-requires-clause-lent c = (c.args.table.0, c.at-relation.ensures)

pub returns-in_err-check_length-clause-refused : goal.returns-in_err-check_length-clause-refused
returns-in_err-check_length-clause-refused c =
    let catalog = c.args.catalog.now in
    let s = c.at-relation.result.now in
    let columns : c.as_slice.result.now ≡ s.schema.columns = c.as_slice.ensures ∙ ap (λ (h : Schema). h.columns) c.schema.ensures in
    let names : c.deref.result.now ≡ column_names s.schema.columns = c.deref.ensures.value ∙ c.in_ok-names.ensures ∙ ap column_names columns in
    let rows = flat_map row_record (map (seen_values catalog s) (tree_list s.by_key)) in
    let begun = names_begin c.args.page c.new-writer.result.bytes c.push_names.new.self.bytes c.deref.result.now c.new-writer.ensures.bytes c.in_ok-push_names.ensures.bytes in
    let limit : c.len.result + c.limits.result.block ≡ length c.args.page + catalog.limits.block =
    ap (λ n. n + c.limits.result.block) c.len.ensures ∙ ap (λ (l : Limits). length c.args.page + l.block) c.limits.ensures in
    handed_on (λ (e : Refusal). (e ≡ refusal.NoMemory) ⊎ ((e ≡ refusal.DumpTooLong) × ((t : Table) → slice_get (database_of catalog) c.args.table.0 ≡ Some t → catalog.limits.block < length (dump_block t))))
    c.from_residual-in_err-check_length.result c.in_err-check_length.field-0.0 c.from_residual-in_err-check_length.ensures.1
    (inr (
      c.in_err-check_length.ensures.past.0,
      λ t at.
          subst (λ bytes. catalog.limits.block < length bytes) (block_is catalog c.a_catalog_is_consistent.ensures c.args.table.0 s c.at-relation.ensures c.deref.result.now names t at)
          (past_front catalog.limits.block c.args.page c.push_names.new.self.bytes (record_text c.deref.result.now) rows begun (subst (λ l. IsPast l c.push_names.new.self.bytes) limit
          (subst (IsPast (c.len.result + c.limits.result.block)) c.get_ref.ensures c.in_err-check_length.ensures.past.1))),
    ))

pub returns-in_err-push_rows-clause-refused : goal.returns-in_err-push_rows-clause-refused
returns-in_err-push_rows-clause-refused c =
    let catalog = c.args.catalog.now in
    let s = c.at-relation.result.now in
    let columns : c.as_slice.result.now ≡ s.schema.columns = c.as_slice.ensures ∙ ap (λ (h : Schema). h.columns) c.schema.ensures in
    let names : c.deref.result.now ≡ column_names s.schema.columns = c.deref.ensures.value ∙ c.in_ok-names.ensures ∙ ap column_names columns in
    let rows = map (seen_values catalog s) (tree_list s.by_key) in
    let begun = names_begin c.args.page c.new-writer.result.bytes c.push_names.new.self.bytes c.deref.result.now c.new-writer.ensures.bytes c.in_ok-push_names.ensures.bytes in
    let limit : c.len.result + c.limits.result.block ≡ length c.args.page + catalog.limits.block =
    ap (λ n. n + c.limits.result.block) c.len.ensures ∙ ap (λ (l : Limits). length c.args.page + l.block) c.limits.ensures in
    handed_on (λ (e : Refusal). (e ≡ refusal.NoMemory) ⊎ ((e ≡ refusal.DumpTooLong) × ((t : Table) → slice_get (database_of catalog) c.args.table.0 ≡ Some t → catalog.limits.block < length (dump_block t))))
    c.from_residual-in_err-push_rows.result c.in_err-push_rows.field-0.0 c.from_residual-in_err-push_rows.ensures.1
    (elim c.in_err-push_rows.ensures.refused [
      | inl none ↦ inl none
      | inr given ↦ inr (
        given.0,
        λ t at.
            subst (λ bytes. catalog.limits.block < length bytes) (block_is catalog c.a_catalog_is_consistent.ensures c.args.table.0 s c.at-relation.ensures c.deref.result.now names t at)
            (past_whole catalog.limits.block c.args.page c.push_names.new.self.bytes c.push_rows.new.records.bytes (record_text c.deref.result.now) rows begun
            (subst (λ l. IsGivenUp l c.push_names.new.self.bytes c.push_rows.new.records.bytes rows) limit
            (subst (λ (bytes : Option (List ℕ)). IsGivenUp (c.len.result + c.limits.result.block) bytes c.push_rows.new.records.bytes rows) (ap (λ (w : Written). w.bytes) c.in_ok-records.ensures) given.1))),
      )
    ])

pub returns-clause-whole : goal.returns-clause-whole
returns-clause-whole c = λ t at.
    let catalog = c.args.catalog.now in
    let s = c.at-relation.result.now in
    let columns : c.as_slice.result.now ≡ s.schema.columns = c.as_slice.ensures ∙ ap (λ (h : Schema). h.columns) c.schema.ensures in
    let names : c.deref.result.now ≡ column_names s.schema.columns = c.deref.ensures.value ∙ c.in_ok-names.ensures ∙ ap column_names columns in
    let rows = flat_map row_record (map (seen_values catalog s) (tree_list s.by_key)) in
    let limit : c.len.result + c.limits.result.block ≡ length c.args.page + catalog.limits.block =
    ap (λ n. n + c.limits.result.block) c.len.ensures ∙ ap (λ (l : Limits). length c.args.page + l.block) c.limits.ensures in
    let written : Appends c.push_names.new.self.bytes c.push_rows.new.records.bytes rows =
    subst (λ (bytes : Option (List ℕ)). Appends bytes c.push_rows.new.records.bytes rows) (ap (λ (w : Written). w.bytes) c.in_ok-records.ensures) c.in_ok-push_rows.ensures.pushed.0 in
    let made = block_whole c.args.page c.new-writer.result.bytes c.push_names.new.self.bytes c.push_rows.new.records.bytes c.deref.result.now rows c.in_ok-whole.whole
    c.new-writer.ensures.bytes c.in_ok-push_names.ensures.bytes written c.in_ok-whole.ensures.0
    ∙ ap (λ bytes. c.args.page ++ bytes) (block_is catalog c.a_catalog_is_consistent.ensures c.args.table.0 s c.at-relation.ensures c.deref.result.now names t at) in (
      made,
      within_kept catalog.limits.block c.args.page (dump_block t) c.push_rows.new.records.bytes c.in_ok-whole.whole
          (subst (λ l. IsWithin l c.push_rows.new.records.bytes) limit c.in_ok-push_rows.ensures.pushed.1) c.in_ok-whole.ensures.0 made,
    )
