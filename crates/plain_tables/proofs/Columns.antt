-- Columns: those of joined tables, and the one that a name means.
use Rattle.std.proofs.Common.{◌≡◌, ◌<◌, ℕ, zero, true, false, length, List, [], ◌∷◌, inl, inr, refl, sym, ap, ◌∙◌, subst, suc, Option, Some, None, arith}
use Rattle.std.specs.Prelude.{◌==◌}
use Rattle.std.specs.List.{All, slice_get, list_any, cons_option, filter, enumerate_from}
use Rattle.std.specs.Option.{is_some, option_map}
use Rattle.std.specs.Str.{bytes_eq}
use Rattle.std.proofs.lemmas.Bool.{cases_Bool, or_parts, and_parts, eqb-true, eqb-false}
use Rattle.std.proofs.lemmas.List.Elements.{All-nil, All-map}
use Rattle.std.proofs.lemmas.Option.{none-some, same_Some, slice_get_within}
use Rattle.std.proofs.lemmas.Slice.Eq.{bytes_eq-Decides}
use Rattle.plain_tables.specs.Tables.{Table}
use Rattle.plain_tables.specs.Queries.{JoinedColumn, column_number, source_columns, joined_columns, fits, fits_one, column_meant, place_meant, places_meant}
use Rattle.plain_tables.specs.Effects.{setting_name, misses}
use Rattle.plain_tables.specs.Resolving.{own_columns}
use Rattle.plain_tables.specs.ResolvedLaws.{HasPlace}
use Rattle.plain_tables.specs.declared.schema.Column.{Column}
use Rattle.plain_tables.specs.declared.condition.ColName.{ColName}
use Rattle.plain_tables.specs.declared.command.Setting.{Setting}
use Rattle.plain_tables.specs.declared.numbers.Place.{Place}
use Rattle.common_lemmas.proofs.Elements.{All-flat_map, All-enumerate, one_more}
use Rattle.common_lemmas.proofs.Tests.{find_satisfies, found_where_some}
use Rattle.common_lemmas.proofs.Options.{is_some-option_map, option_map_some}
use Rattle.common_lemmas.proofs.Maps.{length-filter_map}

-- ---- the columns of joined tables

-- a column stands at its place among joined tables
abbrev pub IsAt : List Table → JoinedColumn → Type 0
IsAt among joined =
    (table : Table) × (slice_get among joined.place.source ≡ Some table) × (slice_get table.columns joined.place.column.0 ≡ Some joined.column)

pub columns_at : (among : List Table) → All (IsAt among) (joined_columns among)
columns_at among =
    All-flat_map (IsAt among) source_columns (enumerate_from 0 among)
    (All-enumerate (λ t. All (IsAt among) (source_columns t)) among
    (λ n table there.
    let made : ℕ × Column → JoinedColumn = λ c.
    record { table = table.name; place = record { source = n; column = column_number c.0 }; column = c.1 } in
    All-map (IsAt among) made (enumerate_from 0 table.columns)
    (All-enumerate (λ c. IsAt among (made c)) table.columns (λ k c at. (table, there, at)))))

-- ---- the column that a name means

meant_column : (among : List Table) (name : ColName) (joined : JoinedColumn) → column_meant (joined_columns among) name ≡ Some joined
    → IsAt among joined × (fits name joined ≡ true)
meant_column among name joined h =
    elim (cases_Bool (fits_one (joined_columns among) name)) [
      | inl t ↦ find_satisfies (IsAt among) (fits name) (joined_columns among) joined (columns_at among) (rw t at h)
      | inr f ↦ absurd (none-some joined (rw f at h))
    ]

-- it is one of them
pub column_at : (among : List Table) (name : ColName) (joined : JoinedColumn) → column_meant (joined_columns among) name ≡ Some joined
    → IsAt among joined
column_at among name joined h = (meant_column among name joined h).0

-- a name that means a place means the column there, which it fits
pub record Means (among : List Table) (name : ColName) (place : Place) : Type 0 where
  pub joined : JoinedColumn
  pub found : column_meant (joined_columns among) name ≡ Some joined
  pub placed : joined.place ≡ place
  pub fitting : fits name joined ≡ true
  pub at : IsAt among joined

pub place_found : (among : List Table) (name : ColName) (place : Place) → place_meant (joined_columns among) name ≡ Some place → Means among name place
place_found among name place h =
    let from = option_map_some (λ joined. joined.place) (column_meant (joined_columns among) name) place h in
    let there = meant_column among name from.0 from.1 in
    record { joined = from.0; found = from.1; placed = from.2; fitting = there.1; at = there.0 }

-- it is there
pub has_place : (among : List Table) (name : ColName) (place : Place) → place_meant (joined_columns among) name ≡ Some place → HasPlace among place
has_place among name place h =
    let means = place_found among name place h in
    let there : IsAt among means.joined = means.at in
    subst (HasPlace among) means.placed
    (there.0, there.1, slice_get_within there.0.columns means.joined.place.column.0 means.joined.column there.2)

-- so are those of several names
pub have_places : (among : List Table) (names : List ColName) → All (HasPlace among) (places_meant (joined_columns among) names)
have_places among [] = All-nil (HasPlace among)
have_places among (name ∷ names) =
    one_more (HasPlace among) (place_meant (joined_columns among) name) (places_meant (joined_columns among) names)
    (has_place among name) (have_places among names)

-- a name that fits one column means it
pub meant_where_one : (columns : List JoinedColumn) (name : ColName) → fits_one columns name ≡ true → is_some (column_meant columns name) ≡ true
meant_where_one columns name one =
    rw one (found_where_some (fits name) columns (let same = eqb-true (length (filter (fits name) columns)) 1 one in omega arith))

-- where each name means a column, there are as many places as names
pub places_length : (columns : List JoinedColumn) (names : List ColName) → misses columns names ≡ false
    → length (places_meant columns names) ≡ length names
places_length columns names h =
    length-filter_map (place_meant columns) names (λ name. fits_one columns name)
    (λ name one. is_some-option_map (λ joined. joined.place) (column_meant columns name) ∙ meant_where_one columns name one) h

-- ---- the columns of one table

-- the table at a place of one table
pub only_one : (table other : Table) (n : ℕ) → slice_get (table ∷ []) n ≡ Some other → (n ≡ 0) × (table ≡ other)
only_one table other zero h = (refl, same_Some table other h)
only_one table other (suc n) h = absurd (none-some other h)

-- a name that means a place of one table means a column of it
pub record MeansOwn (table : Table) (name : ColName) (place : Place) : Type 0 where
  pub joined : JoinedColumn
  pub found : column_meant (own_columns table) name ≡ Some joined
  pub source : place.source ≡ 0
  pub at : slice_get table.columns place.column.0 ≡ Some joined.column
  pub fitting : fits name joined ≡ true

pub own_found : (table : Table) (name : ColName) (place : Place) → place_meant (own_columns table) name ≡ Some place → MeansOwn table name place
own_found table name place h =
    let means = place_found (table ∷ []) name place h in
    let there : IsAt (table ∷ []) means.joined = means.at in
    let one = only_one table there.0 means.joined.place.source there.1 in
    record {
      joined = means.joined;
      found = means.found;
      source = ap (λ (p : Place). p.source) (sym means.placed) ∙ one.0;
      at = ap (λ (p : Place). slice_get table.columns p.column.0) (sym means.placed)
          ∙ ap (λ (t : Table). slice_get t.columns means.joined.place.column.0) one.1 ∙ there.2;
      fitting = means.fitting;
    }

-- it is there
pub column_within : (table : Table) (name : ColName) (place : Place) → place_meant (own_columns table) name ≡ Some place
    → place.column.0 < length table.columns
column_within table name place h =
    let means = own_found table name place h in slice_get_within table.columns place.column.0 means.joined.column means.at

-- the column that a setting means has the setting's name
pub named_there : (table : Table) (s : Setting) (place : Place) → place_meant (own_columns table) (setting_name s) ≡ Some place
    → option_map (λ c. c.name) (slice_get table.columns place.column.0) ≡ Some s.column
named_there table s place h =
    let means = own_found table (setting_name s) place h in
    let both = and_parts (bytes_eq s.column means.joined.column.name) true means.fitting in
    ap (option_map (λ c. c.name)) means.at
    ∙ ap Some (sym ((bytes_eq-Decides s.column means.joined.column.name).0 both.0))

-- where none of the places is the first, neither the one nor one of the others is
pub first_behind_key : (place : Option Place) (places : List Place) → list_any (λ p. p.column.0 == 0) (cons_option place places) ≡ false
    → ((p : Place) → place ≡ Some p → 0 < p.column.0) × (list_any (λ p. p.column.0 == 0) places ≡ false)
first_behind_key None places h = (λ p e. absurd (none-some p e), h)
first_behind_key (Some q) places h =
    let parts = or_parts (q.column.0 == 0) (list_any (λ p. p.column.0 == 0) places) h in
    (λ p e. subst (λ (r : Place). 0 < r.column.0) (same_Some q p e) (let other = eqb-false q.column.0 0 parts.0 in omega arith), parts.1)
