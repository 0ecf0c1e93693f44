-- Rows that all come in in the order of their keys come in as they stand.
use Rattle.std.specs.Prelude.{Result, Ok, Err, OnOk, OnErr, is_ok, true, false}
use Rattle.std.proofs.Common.{◌≡◌, List, map, sym, ◌∙◌, subst}
use Rattle.std.specs.List.Sorted.{IsPermutation}
use Rattle.plain_tables.specs.Tables.{Row}
use Rattle.plain_tables.specs.ResolvedLaws.{IsMeant}
use Rattle.plain_tables.specs.declared.resolved.Resolved.TheVariants as resolved
use Rattle.mm_catalog.specs.Seen.{database_of}
use Rattle.mm_catalog.specs.LoadOrder.{KeyPlace, row_at}
use Rattle.mm_catalog.specs.Outline.{HaveCome, outline_of}
use Rattle.mm_catalog.specs.State.{CatalogState}
use Rattle.mm_catalog.proofs.ComeIn.{meant_moved, loaded_moved}
use Rattle.mm_catalog.proofs.Among.{there_at}
use Rattle.mm_catalog.proofs.catalog.Catalog.load_by_key.Goals as goal

pub at-requires : goal.at-requires
at-requires c = there_at c.args.self.now c.a_catalog_is_consistent.ensures c.args.table.0 c.requires.0 c.requires.1

pub load-requires : goal.load-requires
load-requires c =
    let rows : List Row = c.args.rows.now in
    let old : CatalogState = c.args.self.now in
    subst (λ (places : List KeyPlace). IsMeant old.limits (database_of old) (resolved.Load c.args.table (map (row_at rows) places))) (sym c.as_slice.ensures.value)
    (meant_moved old c.a_catalog_is_consistent.ensures c.args.table rows c.in-Some.places.items c.in-Some.ensures c.requires)

where_ok : {X E : Type 0} (r : Result X E) (P : Type 0) → OnOk r P → is_ok r ≡ true → P
where_ok (Ok x) P holds is = holds
where_ok (Err e) P holds is = absurd (cc)

where_err : {X E : Type 0} (r : Result X E) (P : Type 0) → OnErr r P → is_ok r ≡ false → P
where_err (Ok x) P holds is = absurd (cc)
where_err (Err e) P holds is = holds

pub returns-in-Some : goal.returns-in-Some
returns-in-Some c =
    let rows : List Row = c.args.rows.now in
    let places : List KeyPlace = c.as_slice.result.now in
    let moved : IsPermutation rows (map (row_at rows) places) =
    subst (λ (ps : List KeyPlace). IsPermutation rows (map (row_at rows) ps)) (sym c.as_slice.ensures.value) c.in-Some.ensures in
    let both = loaded_moved c.args.self.now c.a_catalog_is_consistent.ensures c.args.table rows places moved c.requires c.load.new.self c.load.result c.load.ensures.loaded c.load.ensures.refused in
    let old : CatalogState = c.args.self.now in
    let new : CatalogState = c.load.new.self in
    record {
      loaded = λ done. both.0 (sym c.is_ok.ensures.value ∙ done);
      came = λ done. where_ok c.load.result (HaveCome old new c.args.table.0 c.args.came.now.items c.load.new.came.items) c.load.ensures.came (sym c.is_ok.ensures.value ∙ done);
      kept = λ not_done. both.1 (sym c.is_ok.ensures.value ∙ not_done);
      outline = λ not_done. where_err c.load.result (outline_of new ≡ outline_of old) c.load.ensures.outline (sym c.is_ok.ensures.value ∙ not_done);
      list = λ not_done. where_err c.load.result (c.load.new.came.items ≡ c.args.came.now.items) c.load.ensures.list (sym c.is_ok.ensures.value ∙ not_done);
    }
