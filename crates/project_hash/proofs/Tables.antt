-- What is read of a row of a table.
use Rattle.std.proofs.Common.{◌≡◌, ℕ, zero, suc, ◌<◌, List, [], ◌∷◌, Some, IsSome, length, get_or, refl, sym, ap, ◌∙◌, subst, arith}
use Rattle.std.specs.Prelude.{slice_get}
use Rattle.std.specs.List.{All}
use Rattle.std.specs.Option.{option_map}
use Rattle.std.specs.FinMap as finite
use Rattle.std.proofs.lemmas.List.Elements.{All-nil, All-cons, All-map, All-weaker}
use Rattle.std.proofs.lemmas.Option.{same_Some, slice_get-map, slice_get-get_or}
use Rattle.part_raw.specs.declared.tuple_ref.TupleRef.{TupleRef}
use Rattle.plain_tables.specs.declared.numbers.Place.{Place}
use Rattle.plain_tables.specs.declared.value.Value.{Value}
use Rattle.mm_relation.specs.State.{RelationState}
use Rattle.temp_list.specs.Reading.{AreSound, value_in}
use Rattle.temp_list.specs.Lists.{IsOver, IsRowOver, HasPlace, relation_of, value_of}
use Rattle.temp_list.proofs.Lists.{place_read}
use Rattle.temp_list.proofs.Reading.{sound_at}
use Rattle.project_hash.specs.Table.{TableState, CanRead, list_of_table, row_state}

-- a place of one table is a column of it
pub place_alone : (relations : List RelationState) (table : ℕ) (s : RelationState) → slice_get relations table ≡ Some s → (place : Place) → HasPlace relations (table ∷ []) place
    → (place.source ≡ 0) × (place.column.0 < length s.schema.columns)
place_alone relations table s lent place (t, at, within) = go place.source refl at
  where
    go : (k : ℕ) → place.source ≡ k → relation_of relations (table ∷ []) k ≡ Some t → (place.source ≡ 0) × (place.column.0 < length s.schema.columns)
    go zero e at = (e, let same = ap (λ (u : RelationState). length u.schema.columns) (same_Some s t (sym lent ∙ at)) in omega (arith, same, within))
    go (suc k) e at = cc

module _ (t : TableState) (can : CanRead t) (column : ℕ) (d : Place) (within : column < length t.places) where
  abbrev place : Place
  place = get_or t.places column d

  alone : (place.source ≡ 0) × (place.column.0 < length t.relation.schema.columns)
  alone = place_alone t.relations t.table t.relation can.lent place (can.places column d within)

  pub column_there : place.column.0 < length t.relation.schema.columns
  column_there = alone.1

  -- the value that is read in the column is the one that is shown there
  pub value_there : (r : TupleRef) (v : Value) → v ≡ value_in t.relations t.relation place.column.0 r → slice_get (row_state t r).values column ≡ Some v
  value_there r v is =
      let shows : Place → Value = value_of t.relations (t.table ∷ []) (r ∷ []) in
      let first : place.source ≡ 0 = alone.0 in
      let read : shows place ≡ value_in t.relations t.relation place.column.0 r =
      place_read t.relations (t.table ∷ []) (r ∷ []) place t.relation r (ap (relation_of t.relations (t.table ∷ [])) first ∙ can.lent) (ap (slice_get (r ∷ [])) first) in
      slice_get-map shows t.places column ∙ ap (option_map shows) (slice_get-get_or t.places column d within) ∙ ap (λ (w : Value). Some w) (read ∙ sym is)

-- a table of sound relations can be read
pub can_be_read : (relations : List RelationState) → AreSound relations → (table : ℕ) (s : RelationState) → slice_get relations table ≡ Some s → (places : List Place) → All (HasPlace relations (table ∷ [])) places
    → CanRead (record { relations = relations; table = table; relation = s; places = places })
can_be_read relations sound table s lent places there = record { lent = lent; current = (sound_at relations sound table s lent).1; places = there }

-- the list of rows that are held is over the relations
row_over : (relations : List RelationState) (table : ℕ) (s : RelationState) → slice_get relations table ≡ Some s → (r : TupleRef) → IsSome (finite.get s.rows r) → IsRowOver relations (table ∷ []) (r ∷ [])
row_over relations table s lent r held = record { width = refl; held = there }
  where
    there : (source : ℕ) (u : RelationState) (q : TupleRef) → relation_of relations (table ∷ []) source ≡ Some u → slice_get (r ∷ []) source ≡ Some q → IsSome (finite.get u.rows q)
    there zero u q at here =
        subst (λ (x : TupleRef). IsSome (finite.get u.rows x)) (same_Some r q here)
        (subst (λ (v : RelationState). IsSome (finite.get v.rows r)) (same_Some s u (sym lent ∙ at)) held)
    there (suc source) u q at here = cc

pub table_over : (t : TableState) → CanRead t → t.table < length t.relations → (rows : List TupleRef) → All (λ r. IsSome (finite.get t.relation.rows r)) rows → IsOver t.relations (list_of_table t.table rows t.places)
table_over t can there rows held = record {
  sources = All-cons (λ (n : ℕ). n < length t.relations) t.table [] there (All-nil (λ (n : ℕ). n < length t.relations));
  rows = All-map (IsRowOver t.relations (t.table ∷ [])) (λ (r : TupleRef). r ∷ []) rows
      (All-weaker (λ (r : TupleRef). IsSome (finite.get t.relation.rows r)) (λ (r : TupleRef). IsRowOver t.relations (t.table ∷ []) (r ∷ [])) (λ r here. row_over t.relations t.table t.relation can.lent r here) rows held);
  columns = can.places;
}
