-- What is read of a row of a list.
use Rattle.std.proofs.Common.{◌≡◌, ℕ, ◌<◌, List, Option, Some, IsSome, length, get_or, map, sym, ap, ◌∙◌, subst, refl, arith}
use Rattle.std.specs.Prelude.{slice_get}
use Rattle.std.specs.Option.{option_and_then, option_map}
use Rattle.std.proofs.lemmas.Option.{slice_get-map, slice_get-get_or, slice_get_within}
use Rattle.std.proofs.lemmas.List.{length-map}
use Rattle.std.specs.FinMap as finite
use Rattle.common_lemmas.proofs.Elements.{All-at}
use Rattle.part_raw.specs.declared.tuple_ref.TupleRef.{TupleRef}
use Rattle.plain_tables.specs.declared.numbers.TableNumber.{TableNumber}
use Rattle.plain_tables.specs.declared.numbers.Place.{Place}
use Rattle.std.proofs.lemmas.Option.{same_Some}
use Rattle.mm_relation.specs.State.{RelationState}
use Rattle.temp_list.specs.Reading.{or_null, value_in}
use Rattle.temp_list.specs.Lists.{ListState, IsOver, IsRowOver, HasPlace, relation_of, value_of}

-- a source of the list
pub source_within : (relations : List RelationState) (sources : List ℕ) (k : ℕ) (s : RelationState) → relation_of relations sources k ≡ Some s → k < length sources
source_within relations sources k s e =
    elim (slice_get sources k) as (λ o. slice_get sources k ≡ o → option_and_then (slice_get relations) o ≡ Some s → k < length sources) [
      | Option.None ↦ λ at f. cc
      | Option.Some n ↦ λ at f. slice_get_within sources k n at
    ] refl e

-- the value at a place
pub place_read : (relations : List RelationState) (sources : List ℕ) (row : List TupleRef) (place : Place) (s : RelationState) (r : TupleRef) → relation_of relations sources place.source ≡ Some s → slice_get row place.source ≡ Some r → value_of relations sources row place ≡ value_in relations s place.column.0 r
place_read relations sources row place s r from at =
    ap (λ o. or_null (option_and_then (λ t. option_map (value_in relations t place.column.0) (slice_get row place.source)) o)) from
    ∙ ap (λ o. or_null (option_map (value_in relations s place.column.0) o)) at

-- a row of a list that is over relations
pub row_over : (relations : List RelationState) (list : ListState) → IsOver relations list → (i : ℕ) (row : List TupleRef) → slice_get list.rows i ≡ Some row → IsRowOver relations list.sources row
row_over relations list over i row at = All-at (IsRowOver relations list.sources) list.rows i row over.rows at

-- a column of a list that is over relations
pub column_over : (relations : List RelationState) (list : ListState) → IsOver relations list → (i : ℕ) (place : Place) → slice_get list.columns i ≡ Some place → HasPlace relations list.sources place
column_over relations list over i place at = All-at (HasPlace relations list.sources) list.columns i place over.columns at

-- two elements that are read at one place are one
pub same_at : {A : Type 0} (o : Option A) (x y : A) → o ≡ Some x → o ≡ Some y → x ≡ y
same_at o x y e f = same_Some x y (sym e ∙ f)

-- the relation of a place, found by the number of its source's table
pub place_relation : (relations : List RelationState) (sources : List ℕ) (place : Place) → HasPlace relations sources place → (tables : List TableNumber) → map (λ t. t.0) tables ≡ sources → (d : TableNumber) (s : RelationState) → slice_get relations (get_or tables place.source d).0 ≡ Some s → relation_of relations sources place.source ≡ Some s
place_relation relations sources place there tables same d s lent =
    let inside : place.source < length sources = source_within relations sources place.source there.0 there.1 in
    let long : length tables ≡ length sources = sym (length-map tables (λ (t : TableNumber). t.0)) ∙ ap length same in
    let number : slice_get sources place.source ≡ Some (get_or tables place.source d).0 =
    ap (λ (ns : List ℕ). slice_get ns place.source) (sym same) ∙ slice_get-map (λ (t : TableNumber). t.0) tables place.source ∙ ap (option_map (λ (t : TableNumber). t.0)) (slice_get-get_or tables place.source d (omega (arith, long, inside)))
    in
    ap (option_and_then (slice_get relations)) number ∙ lent

-- a place of a row of a list, its relation, which is found by the number of the source's table, and its row
module _ (relations : List RelationState) (list : ListState) (over : IsOver relations list) (place : Place) (there : HasPlace relations list.sources place) (tables : List TableNumber) (same : map (λ t. t.0) tables ≡ list.sources) (d : TableNumber) (s : RelationState) (lent : slice_get relations (get_or tables place.source d).0 ≡ Some s) (i : ℕ) (row : List TupleRef) (at : slice_get list.rows i ≡ Some row) where
  inside : place.source < length list.sources
  inside = source_within relations list.sources place.source there.0 there.1

  from : relation_of relations list.sources place.source ≡ Some s
  from = place_relation relations list.sources place there tables same d s lent

  pub place_wide : place.source < length row
  place_wide = omega (arith, (row_over relations list over i row at).width, inside)

  pub place_held : (e : TupleRef) → IsSome (finite.get s.rows (get_or row place.source e))
  place_held e = (row_over relations list over i row at).held place.source s (get_or row place.source e) from (slice_get-get_or row place.source e place_wide)

  pub place_column : place.column.0 < length s.schema.columns
  place_column = subst (λ (t : RelationState). place.column.0 < length t.schema.columns) (same_at (relation_of relations list.sources place.source) there.0 s there.1 from) there.2

  pub place_value : (e : TupleRef) (other : List TupleRef) → slice_get list.rows i ≡ Some other → value_in relations s place.column.0 (get_or row place.source e) ≡ value_of relations list.sources other place
  place_value e other is =
      let one : row ≡ other = same_at (slice_get list.rows i) row other at is in
      sym (place_read relations list.sources row place s (get_or row place.source e) from (slice_get-get_or row place.source e place_wide)) ∙ ap (λ (q : List TupleRef). value_of relations list.sources q place) one
