-- A list with the rows that are shown once in the place of all.
use Rattle.std.proofs.Common.{length, ◌≡◌, List, [], ◌∷◌, map, sym, subst, refl}
use Rattle.std.specs.List.{All, Contains}
use Rattle.std.proofs.lemmas.List.Elements.{All-head, All-tail, All-map, All-weaker, All-contains}
use Rattle.plain_tables.specs.declared.value.Value.{Value}
use Rattle.mm_relation.specs.State.{RelationState}
use Rattle.temp_list.specs.Lists.{ListState, IsOver, IsRowOver}
use Rattle.project_hash.specs.Distinct.{shown_values, shown_rows, AreRising, IsDistinctOf}
use Rattle.project_hash.specs.Shown.{ShownState, IsShown, ShowsOnce, values_of, references_of, with_rows}

module _ (relations : List RelationState) (list : ListState) where
  -- what is shown of the references of rows is what the rows say
  shown_same : (rows : List ShownState) → All (IsShown relations list) rows → map (shown_values relations list) (references_of rows) ≡ values_of rows
  shown_same [] all = refl
  shown_same (row ∷ rows) all =
      let first : shown_values relations list row.references ≡ row.values = sym (All-head (IsShown relations list) row rows all).1 in
      let rest = shown_same rows (All-tail (IsShown relations list) row rows all) in
      rw (first, rest) refl

  module _ (rows : List ShownState) (once : ShowsOnce relations list rows) where
    picked_shown : shown_rows relations (with_rows list rows) ≡ values_of rows
    picked_shown = shown_same rows once.some

    pub picked_distinct : IsDistinctOf relations list (with_rows list rows)
    picked_distinct = record {
      sources = refl;
      columns = refl;
      some = All-map (Contains list.rows) (λ (row : ShownState). row.references) rows
          (All-weaker (IsShown relations list) (λ (row : ShownState). Contains list.rows row.references) (λ row shown. shown.0) rows once.some);
      rising = subst AreRising (sym picked_shown) once.rising;
      all = subst (λ (shown : List (List Value)). All (Contains shown) (shown_rows relations list)) (sym picked_shown) once.all;
    }

    pub picked_wide : IsOver relations list → All (λ (row : ShownState). length row.references ≡ length list.sources) rows
    picked_wide over =
        All-weaker (IsShown relations list) (λ (row : ShownState). length row.references ≡ length list.sources)
        (λ row shown. (All-contains (IsRowOver relations list.sources) list.rows row.references over.rows shown.0).width) rows once.some

    pub picked_over : IsOver relations list → IsOver relations (with_rows list rows)
    picked_over over = record {
      sources = over.sources;
      rows = All-map (IsRowOver relations list.sources) (λ (row : ShownState). row.references) rows
          (All-weaker (IsShown relations list) (λ (row : ShownState). IsRowOver relations list.sources row.references) (λ row shown. All-contains (IsRowOver relations list.sources) list.rows row.references over.rows shown.0) rows once.some);
      columns = over.columns;
    }
