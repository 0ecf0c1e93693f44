use Rattle.std.proofs.Common.{◌≡◌, ◌∙◌, List, [], ℕ, Some, ap, subst, sym, length, map, arith}
use Rattle.std.specs.Io.KnownBytes.{Appends}
use Rattle.std.specs.Prelude.{IsSomeAnd}
use Rattle.std.proofs.lemmas.List.{length-map}
use Rattle.std.proofs.lemmas.Option.{same_Some}
use Rattle.plain_tables.specs.Csv.{record_text}
use Rattle.plain_tables.specs.Effects.{column_names}
use Rattle.plain_tables.specs.declared.command.Limits.{Limits}
use Rattle.plain_tables.specs.declared.schema.Column.{Column}
use Rattle.plain_tables.specs.declared.schema.Schema.{Schema}
use Rattle.mm_relation.specs.State.{RelationState}
use Rattle.mm_catalog.proofs.Among.{some_columns}
use Rattle.mm_catalog.proofs.Tables.{database-length}
use Rattle.mm_catalog.specs.Picked.{seen_values}
use Rattle.mm_session.specs.SavedRows.{HaveRoom, IsFilled}
use Rattle.mm_session.specs.Sinks.{Written}
use Rattle.mm_session.proofs.Dumps.{names_begin}
use Rattle.mm_session.proofs.Saves.{filled}
use Rattle.mm_session.proofs.execute.saved_rows.fill_block.Goals as goal

pub at-relation-requires : goal.at-relation-requires
at-relation-requires c = omega (arith, c.requires.there, database-length c.args.catalog.now c.a_catalog_is_consistent.ensures.named)

pub push_names-requires : goal.push_names-requires
push_names-requires c =
    let s = c.at-relation.result.now in
    let some = some_columns c.args.catalog.now c.a_catalog_is_consistent.ensures c.args.table.0 s c.at-relation.ensures in
    let columns : c.as_slice.result.now ≡ s.schema.columns = c.as_slice.ensures ∙ ap (λ (h : Schema). h.columns) c.schema.ensures in
    let same = ap length (c.deref.ensures.value ∙ c.in_ok-names.ensures ∙ ap column_names columns) in
    let long = length-map s.schema.columns (λ (h : Column). h.name) in
    omega (arith, some, same, long)

pub push_fitting-requires-clause-some : goal.push_fitting-requires-clause-some
push_fitting-requires-clause-some c = some_columns c.args.catalog.now c.a_catalog_is_consistent.ensures c.args.table.0 c.at-relation.result.now c.at-relation.ensures

pub returns-clause-filled : goal.returns-clause-filled
returns-clause-filled c = λ s there.
    let catalog = c.args.catalog.now in
    let given = c.at-relation.result.now in
    let refs = c.args.rows.now in
    let rows = map (seen_values catalog given) refs in
    let first = c.push_names.new.self.bytes in
    let last = c.push_fitting.new.records.bytes in
    let columns : c.as_slice.result.now ≡ given.schema.columns = c.as_slice.ensures ∙ ap (λ (h : Schema). h.columns) c.schema.ensures in
    let names : c.deref.result.now ≡ column_names given.schema.columns = c.deref.ensures.value ∙ c.in_ok-names.ensures ∙ ap column_names columns in
    let begun : Appends (Some []) first (record_text c.deref.result.now) =
    subst (λ (page : List ℕ). Appends (Some page) first (record_text c.deref.result.now)) (c.replace.ensures.value ∙ c.requires.empty)
    (names_begin c.replace.result c.new-writer.result.bytes first c.deref.result.now c.new-writer.ensures.bytes c.in_ok-push_names.ensures.bytes) in
    subst (λ (g : RelationState). IsFilled catalog g refs c.truncate.new.self c.in_ok-count.count) (same_Some given s (sym c.at-relation.ensures ∙ there))
    (subst (λ (bytes : List ℕ). IsFilled catalog given refs bytes c.in_ok-count.count) (sym c.truncate.ensures)
    (filled catalog given refs first last c.deref.result.now c.in_ok-whole.whole c.in_ok-count.count c.in_ok-count.end begun names
    (λ front is. subst (λ (l : Limits). IsSomeAnd last (λ (all : List ℕ). HaveRoom l.block front all rows c.in_ok-count.count c.in_ok-count.end)) c.limits.ensures
    (c.in_ok-count.ensures front (ap (λ (w : Written). w.bytes) c.in_ok-records.ensures ∙ is)))
    c.in_ok-whole.ensures.0))

pub returns-clause-few : goal.returns-clause-few
returns-clause-few c =
    let catalog = c.args.catalog.now in
    let given = c.at-relation.result.now in
    let refs = c.args.rows.now in
    let rows = map (seen_values catalog given) refs in
    let first = c.push_names.new.self.bytes in
    let last = c.push_fitting.new.records.bytes in
    let columns : c.as_slice.result.now ≡ given.schema.columns = c.as_slice.ensures ∙ ap (λ (h : Schema). h.columns) c.schema.ensures in
    let names : c.deref.result.now ≡ column_names given.schema.columns = c.deref.ensures.value ∙ c.in_ok-names.ensures ∙ ap column_names columns in
    let begun : Appends (Some []) first (record_text c.deref.result.now) =
    subst (λ (page : List ℕ). Appends (Some page) first (record_text c.deref.result.now)) (c.replace.ensures.value ∙ c.requires.empty)
    (names_begin c.replace.result c.new-writer.result.bytes first c.deref.result.now c.new-writer.ensures.bytes c.in_ok-push_names.ensures.bytes) in
    let fills : IsFilled catalog given refs c.truncate.new.self c.in_ok-count.count =
    subst (λ (bytes : List ℕ). IsFilled catalog given refs bytes c.in_ok-count.count) (sym c.truncate.ensures)
    (filled catalog given refs first last c.deref.result.now c.in_ok-whole.whole c.in_ok-count.count c.in_ok-count.end begun names
    (λ front is. subst (λ (l : Limits). IsSomeAnd last (λ (all : List ℕ). HaveRoom l.block front all rows c.in_ok-count.count c.in_ok-count.end)) c.limits.ensures
    (c.in_ok-count.ensures front (ap (λ (w : Written). w.bytes) c.in_ok-records.ensures ∙ is)))
    c.in_ok-whole.ensures.0) in
    fills.few
