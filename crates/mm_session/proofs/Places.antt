-- The places of the columns of joined tables, and the names above them.
use Rattle.std.proofs.Common.{◌≡◌, ℕ, zero, suc, ◌+◌, ◌<◌, List, [], ◌∷◌, ◌++◌, Some, refl, sym, ap, ◌∙◌, arith, map, length, get_or}
use Rattle.std.proofs.lemmas.List.{map-append}
use Rattle.std.proofs.lemmas.List.Concat.{flat_map-cons}
use Rattle.std.proofs.lemmas.List.Elements.{All-tail}
use Rattle.std.proofs.lemmas.Option.{none-some}
use Rattle.std.specs.List.{All, range_with_len, enumerate_from, flat_map, cons_option}
use Rattle.std.specs.Option.{option_and_then, option_map, option_map_or}
use Rattle.std.specs.Prelude.{slice_get}
use Rattle.common_lemmas.proofs.Places.{slice_get-inside}
use Rattle.plain_tables.specs.Tables.{Table}
use Rattle.plain_tables.specs.Queries.{column_number, JoinedColumn, source_columns, full_name}
use Rattle.plain_tables.specs.declared.numbers.Place.{Place}
use Rattle.plain_tables.specs.declared.numbers.TableNumber.{TableNumber}
use Rattle.plain_tables.specs.declared.schema.Column.{Column}
use Rattle.mm_relation.specs.State.{RelationState}
use Rattle.mm_catalog.specs.State.{CatalogState}
use Rattle.mm_catalog.specs.Seen.{database_of, table_of}
use Rattle.mm_catalog.specs.Consistent.{IsConsistent}
use Rattle.mm_catalog.proofs.Tables.{database-length, database-get}
use Rattle.temp_list.specs.Lists.{relation_of}
use Rattle.mm_session.specs.Members.{tables_at}
use Rattle.mm_session.specs.Shown.{heading}

-- the place of a column of one source
abbrev pub place_at : ℕ → ℕ → Place
place_at source n = record { source = source; column = column_number n }

-- the columns of one source have the places of their numbers
pub places_from : (source n : ℕ) (table : List ℕ) (columns : List Column)
    → map (λ (j : JoinedColumn). j.place) (map (λ (c : ℕ × Column). record { table = table; place = place_at source c.0; column = c.1 }) (enumerate_from n columns)) ≡ map (place_at source) (range_with_len n (length columns))
places_from source n table [] = refl
places_from source n table (c ∷ columns) = ap (λ ps. place_at source n ∷ ps) (places_from source (n + 1) table columns)

-- the table of a source is there
pub source_at : (relations : List RelationState) (sources : List TableNumber) (k : ℕ) (s : RelationState) (d : TableNumber)
    → relation_of relations (map (λ t. t.0) sources) k ≡ Some s → slice_get relations (get_or sources k d).0 ≡ Some s
source_at relations [] k s d at = absurd (none-some s at)
source_at relations (t ∷ sources) zero s d at = at
source_at relations (t ∷ sources) (suc k) s d at = source_at relations sources k s d at

pub source_inside : (relations : List RelationState) (sources : List TableNumber) (k : ℕ) (s : RelationState)
    → relation_of relations (map (λ t. t.0) sources) k ≡ Some s → k < length sources
source_inside relations [] k s at = absurd (none-some s at)
source_inside relations (t ∷ sources) zero s at = omega arith
source_inside relations (t ∷ sources) (suc k) s at = let rest = source_inside relations sources k s at in omega (arith, rest)

-- the places of the columns of these sources, where those before them are so many
abbrev pub places_behind : CatalogState → ℕ → List TableNumber → List Place
places_behind c first sources = map (λ (j : JoinedColumn). j.place) (flat_map source_columns (enumerate_from first (tables_at c (map (λ t. t.0) sources))))

module _ (c : CatalogState) (ok : IsConsistent c) where
  -- the table of a number that is there
  pub table_there : (n : ℕ) → n < length c.relations → (table : Table) × (slice_get (database_of c) n ≡ Some table)
  table_there n within = slice_get-inside (database_of c) n (omega (arith, within, database-length c ok.named))

  -- the tables of sources, one by one
  pub tables_get : (sources : List ℕ) (k : ℕ) → All (λ n. n < length c.relations) sources
      → slice_get (tables_at c sources) k ≡ option_and_then (slice_get (database_of c)) (slice_get sources k)
  tables_get [] k there = refl
  tables_get (n ∷ sources) zero there =
      let found = table_there n (there 0 n (omega arith)) in
      ap (λ o. slice_get (cons_option o (tables_at c sources)) zero) found.1 ∙ sym found.1
  tables_get (n ∷ sources) (suc k) there =
      let found = table_there n (there 0 n (omega arith)) in
      ap (λ o. slice_get (cons_option o (tables_at c sources)) (suc k)) found.1 ∙ tables_get sources k (All-tail (λ n. n < length c.relations) n sources there)

  -- the name of a column behind its table's is the heading of its place
  pub heading_at : (sources : List ℕ) (place : Place) (n : ℕ) (s : RelationState) (name : List ℕ) (column : Column) → All (λ n. n < length c.relations) sources
      → slice_get sources place.source ≡ Some n → slice_get c.relations n ≡ Some s → slice_get c.names n ≡ Some name → slice_get s.schema.columns place.column.0 ≡ Some column
      → heading (tables_at c sources) place ≡ name ++ 46 ∷ column.name
  unfolding table_of
  heading_at sources place n s name column within source there named at =
      ap (λ o. option_map_or (λ (h : List ℕ). h) (option_and_then (λ (table : Table). option_map (full_name table.name) (slice_get table.columns place.column.0)) o) [])
      (tables_get sources place.source within ∙ ap (option_and_then (slice_get (database_of c))) source ∙ database-get c ok.named n name s named there)
      ∙ ap (λ o. option_map_or (λ (h : List ℕ). h) (option_map (full_name name) o) []) at

  -- ---- the places of all columns

  pub places_more : (first : ℕ) (t : TableNumber) (sources : List TableNumber) (table : Table) → slice_get (database_of c) t.0 ≡ Some table
      → places_behind c first (t ∷ sources) ≡ map (λ (j : JoinedColumn). j.place) (source_columns (first, table)) ++ places_behind c (first + 1) sources
  places_more first t sources table at =
      let rest = tables_at c (map (λ (t : TableNumber). t.0) sources) in
      ap (λ o. map (λ (j : JoinedColumn). j.place) (flat_map source_columns (enumerate_from first (cons_option o rest)))) at
      ∙ ap (map (λ (j : JoinedColumn). j.place)) (flat_map-cons source_columns (first, table) (enumerate_from (first + 1) rest))
      ∙ map-append (λ (j : JoinedColumn). j.place) (source_columns (first, table)) (flat_map source_columns (enumerate_from (first + 1) rest))
