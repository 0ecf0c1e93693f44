use Rattle.std.proofs.Common.{◌≢◌, ◌∙◌, ◌-◌, List, IsSome, inl, inr, ap, refl, sym, subst, length, map, take, arith}
use Rattle.std.specs.FinMap as finite
use Rattle.std.specs.List.{All}
use Rattle.std.specs.Prelude.{slice_index_or}
use Rattle.std.proofs.lemmas.Bool.{eqb-false, eqb-true}
use Rattle.std.proofs.lemmas.List.{length-take}
use Rattle.std.proofs.lemmas.List.Elements.{All-take}
use Rattle.std.proofs.lemmas.Option.{slice_get-get_or}
use Rattle.common_lemmas.proofs.Places.{slice_get-inside}
use Rattle.part_raw.specs.declared.tuple_ref.TupleRef.{TupleRef}
use Rattle.plain_tables.specs.declared.schema.Column.{Column}
use Rattle.mm_catalog.proofs.Tables.{database-length}
use Rattle.mm_catalog.specs.Picked.{seen_values}
use Rattle.mm_catalog.specs.Seen.{database_of}
use Rattle.mm_session.specs.Saving.{AreUnspellable, IsDeclined, block_of, rows_behind}
use Rattle.mm_session.specs.declared.saving.SavePlace.TheVariants as place
use Rattle.mm_session.proofs.Dumps.{columns_same}
use Rattle.mm_session.proofs.RowPieces.{behind_held, none_behind, piece_made, piece_too_long, piece_unspellable, stopped_declined}
use Rattle.mm_session.proofs.Saves.{handed, stopped_so}
use Rattle.mm_session.proofs.execute.saved_rows.save_rows.Goals as goal

pub fill_block-requires-clause-held : goal.fill_block-requires-clause-held
fill_block-requires-clause-held c = λ s there.
    let catalog = c.args.catalog.now in
    let P : TupleRef → Type 0 = λ r. IsSome (finite.get s.rows r) in
    subst (All P) (sym (c.as_slice-rows.ensures.value ∙ c.in_ok-found.ensures.found s there))
    (All-take P 16384 (rows_behind catalog s c.args.after) (behind_held catalog c.a_catalog_is_consistent.ensures c.args.table.0 s there c.args.after))

pub returns-then-is_empty-clause-piece : goal.returns-then-is_empty-clause-piece
returns-then-is_empty-clause-piece c = λ t s at there.
    let found = c.as_slice-rows.result.now in
    inl (
      none_behind 16384 (rows_behind c.args.catalog.now s c.args.after) found (omega arith) (c.as_slice-rows.ensures.value ∙ c.in_ok-found.ensures.found s there)
          (eqb-true (length found) 0 (sym c.is_empty.ensures ∙ c.if-is_empty.true)),
      c.requires.empty,
      refl,
    )

pub returns-then-count-eq0-clause-declined : goal.returns-then-count-eq0-clause-declined
returns-then-count-eq0-clause-declined c = (
  c.in_ok-found.ensures.there,
  λ t s at there.
      let catalog = c.args.catalog.now in
      let found = c.as_slice-rows.result.now in
      let some : length found ≢ 0 = eqb-false (length found) 0 (sym c.is_empty.ensures ∙ c.if-is_empty.false) in
      piece_too_long catalog c.args.table t s (columns_same catalog c.a_catalog_is_consistent.ensures c.args.table.0 t at s there) (rows_behind catalog s c.args.after) found
      (c.as_slice-rows.ensures.value ∙ c.in_ok-found.ensures.found s there) c.fill_block.new.answer c.in_ok-count.count (c.in_ok-count.ensures.filled s there) c.if-count-eq0.true (omega (arith, some)),
)

pub slice_bounds-put_around-end : goal.slice_bounds-put_around-end
slice_bounds-put_around-end c = let cut = length-take c.in_ok-count.count c.as_slice-rows.result.now in omega (arith, cut, c.in_ok-count.ensures.few)

pub put_around-requires-clause-held : goal.put_around-requires-clause-held
put_around-requires-clause-held c = λ s there.
    let catalog = c.args.catalog.now in
    let P : TupleRef → Type 0 = λ r. IsSome (finite.get s.rows r) in
    All-take P c.in_ok-count.count c.as_slice-rows.result.now
    (subst (All P) (sym (c.as_slice-rows.ensures.value ∙ c.in_ok-found.ensures.found s there))
    (All-take P 16384 (rows_behind catalog s c.args.after) (behind_held catalog c.a_catalog_is_consistent.ensures c.args.table.0 s there c.args.after)))

pub returns-in_err-put_around-clause-declined : goal.returns-in_err-put_around-clause-declined
returns-in_err-put_around-clause-declined c =
    let catalog = c.args.catalog.now in
    let ok = c.a_catalog_is_consistent.ensures in
    let n = c.args.table in
    let after = c.args.after in
    let found = c.as_slice-rows.result.now in
    let why = c.in_err-put_around.field-0.0 in
    let table = slice_get-inside (database_of catalog) n.0 c.requires.table in
    let relation = slice_get-inside catalog.relations n.0 (omega (arith, c.requires.table, database-length catalog ok.named)) in
    handed (IsDeclined catalog (place.Rows n after)) c.from_residual-in_err-put_around.result why c.from_residual-in_err-put_around.ensures.1
    (stopped_declined catalog n after why table.0 relation.0 table.1 relation.1 c.in_ok-found.ensures.there
    (λ t s at there.
    stopped_so (AreUnspellable catalog t s (take c.in_ok-count.count found)) (AreUnspellable catalog t s (rows_behind catalog s after)) why
    (piece_unspellable catalog n t s (columns_same catalog ok n.0 t at s there) (rows_behind catalog s after) found (c.as_slice-rows.ensures.value ∙ c.in_ok-found.ensures.found s there)
    c.fill_block.new.answer c.in_ok-count.count (c.in_ok-count.ensures.filled s there))
    (c.in_err-put_around.ensures.stopped t s at there)))

pub returns-clause-piece : goal.returns-clause-piece
returns-clause-piece c = λ t s at there.
    let catalog = c.args.catalog.now in
    let n = c.args.table in
    let found = c.as_slice-rows.result.now in
    let count = c.in_ok-count.count in
    let none : TupleRef = record { number = 0 } in
    let same = columns_same catalog c.a_catalog_is_consistent.ensures n.0 t at s there in
    let fills = c.in_ok-count.ensures.filled s there in
    inr (piece_made catalog n t s same (rows_behind catalog s c.args.after) found (c.as_slice-rows.ensures.value ∙ c.in_ok-found.ensures.found s there) c.fill_block.new.answer count fills
    (slice_index_or found (count - 1) none) c.put_around.new.answer _ (omega (arith, c.if-count-eq0.false)) (slice_get-get_or found (count - 1) none (omega (arith, c.if-count-eq0.false, c.in_ok-count.ensures.few)))
    (c.in_ok-put_around.ensures.made t s at there (fills.made ∙ ap (λ (cs : List Column). block_of cs (map (seen_values catalog s) (take count found))) (sym same)))
    (c.in_ok-put_around.ensures.spelled t s at there) refl)
