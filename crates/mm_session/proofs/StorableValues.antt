-- Each value that is read of a catalog's rows is an integer of 64 bits, a text of at most 1,024 bytes, or null: so none is a link.
use Rattle.std.proofs.Common.{◌≡◌, ◌<◌, length, ℕ, zero, suc, true, false, List, [], ◌∷◌, Option, None, Some, inl, inr, refl, sym, ap, ◌∙◌, subst, arith, IsSome}
use Rattle.std.proofs.lemmas.Bool.{false≢true, or_cases}
use Rattle.std.proofs.lemmas.Grind.{common_steps}
use Rattle.std.proofs.lemmas.List.Elements.{All-contains, All-head, All-tail}
use Rattle.std.proofs.lemmas.Option.{slice_get_within}
use Rattle.std.specs.FinMap as finite
use Rattle.std.specs.Int.{w64}
use Rattle.std.specs.List.{All, Contains}
use Rattle.std.specs.Option.{option_and_then, option_map, option_map_or}
use Rattle.std.specs.Ordering.{is_eq}
use Rattle.std.specs.Prelude.{ℤ, pos, negsuc, FitsSigned, slice_get}
use Rattle.common_lemmas.proofs.Elements.{All-at, Contains-map}
use Rattle.common_lemmas.proofs.Places.{slice_get-inside}
use Rattle.common_lemmas.proofs.Tests.{find_satisfies}
use Rattle.part_raw.specs.declared.tuple_ref.TupleRef.{TupleRef}
use Rattle.plain_tables.specs.Databases.{Database, is_named, table_named}
use Rattle.plain_tables.specs.Queries.{value_at}
use Rattle.plain_tables.specs.References.{IsSound, IsSoundTable, CanHold, IsRowOf, is_held, own_type}
use Rattle.plain_tables.specs.ResolvedLaws.{IsStorable}
use Rattle.plain_tables.specs.Stored.{link_number}
use Rattle.plain_tables.specs.Tables.{Table, Row, key_cmp, has_key_of}
use Rattle.plain_tables.specs.declared.command.Limits.{Limits}
use Rattle.plain_tables.specs.declared.numbers.Place.{Place}
use Rattle.plain_tables.specs.declared.schema.ColKind.{ColKind}
use Rattle.plain_tables.specs.declared.schema.ColKind.TheVariants as kind
use Rattle.plain_tables.specs.declared.schema.Column.{Column}
use Rattle.plain_tables.specs.declared.value.Value.{Value}
use Rattle.plain_tables.specs.declared.value.Value.TheVariants as value
use Rattle.plain_tables.proofs.Held.{RowsFit}
use Rattle.plain_streams.proofs.BlockFits.{key-value}
use Rattle.mm_relation.specs.State.{RelationState}
use Rattle.mm_catalog.specs.State.{CatalogState}
use Rattle.mm_catalog.specs.Seen.{database_of, table_of}
use Rattle.mm_catalog.specs.Consistent.{IsConsistent}
use Rattle.mm_catalog.specs.Picked.{seen_values}
use Rattle.mm_catalog.proofs.Among.{among_at, named_at}
use Rattle.mm_catalog.proofs.Tables.{database-get}
use Rattle.temp_list.specs.Reading as lists
use Rattle.temp_list.specs.Reading.{value_in}
use Rattle.temp_list.specs.Lists.{IsRowOver, HasPlace, value_of}
use Rattle.mm_session.proofs.Members.{value_seen, rows_same}

integer_unlinked : (z : ℤ) → FitsSigned w64 z → link_number (value.Int z) ≡ None
integer_unlinked (pos n) fits = grind (arith, common_steps)
integer_unlinked (negsuc n) fits = refl

-- such a value is no link
pub storable_unlinked : (v : Value) → IsStorable v → link_number v ≡ None
storable_unlinked value.Null stores = refl
storable_unlinked (value.Text text) stores = refl
storable_unlinked (value.Int z) stores = integer_unlinked z stores

-- ---- sound databases

-- what a column of a type of its own holds
storable-own : (tables : Database) (k : ColKind) (v : Value) → IsSome (own_type k) → CanHold tables k v → IsStorable v
storable-own tables k value.Null keyed holds = tt
storable-own tables kind.Int (value.Int z) keyed holds = holds
storable-own tables kind.Int (value.Text text) keyed holds = absurd holds
storable-own tables kind.Text (value.Int z) keyed holds = absurd holds
storable-own tables kind.Text (value.Text text) keyed holds = holds
storable-own tables (kind.Ref name) (value.Text text) keyed holds = absurd (false≢true keyed)
storable-own tables (kind.RefOrNull name) (value.Text text) keyed holds = absurd (false≢true keyed)
storable-own tables (kind.Ref name) (value.Int z) keyed holds = absurd (false≢true keyed)
storable-own tables (kind.RefOrNull name) (value.Int z) keyed holds = absurd (false≢true keyed)

-- the key of a row
storable-key : (tables : Database) (columns : List Column) (row : Row) (v : Value) → IsSome (option_and_then (λ c. own_type c.kind) (slice_get columns 0))
    → IsRowOf tables columns row → is_eq (key_cmp row (v ∷ [])) ≡ true → IsStorable v
storable-key tables [] row v keyed fits same = absurd (false≢true keyed)
storable-key tables (c ∷ columns) [] v keyed fits same = absurd fits
storable-key tables (c ∷ columns) (w ∷ row) v keyed fits same = subst IsStorable (key-value w v same) (storable-own tables c.kind w keyed fits.0)

storable-keys : (tables : Database) (columns : List Column) (rows : List Row) (v : Value) → IsSome (option_and_then (λ c. own_type c.kind) (slice_get columns 0))
    → All (IsRowOf tables columns) rows → has_key_of (v ∷ []) rows ≡ true → IsStorable v
storable-keys tables columns [] v keyed fit has = absurd (false≢true has)
storable-keys tables columns (row ∷ rows) v keyed fit has =
    elim (or_cases (is_eq (key_cmp row (v ∷ []))) (has_key_of (v ∷ []) rows) has) [
      | inl same ↦ storable-key tables columns row v keyed (All-head (IsRowOf tables columns) row rows fit) same
      | inr later ↦ storable-keys tables columns rows v keyed (All-tail (IsRowOf tables columns) row rows fit) later
    ]

-- a value that names a row
storable-held : (limits : Limits) (tables : Database) (name : List ℕ) (v : Value) → IsSound limits tables → is_held tables (name, v) ≡ true → IsStorable v
storable-held limits tables name v sound held = by (table_named name tables) refl held
  where
    by : (o : Option Table) → table_named name tables ≡ o → option_map_or (λ t. has_key_of (v ∷ []) t.rows) o false ≡ true → IsStorable v
    by None found has = absurd (false≢true has)
    by (Some u) found has =
        let fit = (find_satisfies (RowsFit tables) (is_named name) tables u sound.rows_fit found).0 in
        let its = (find_satisfies (IsSoundTable limits) (is_named name) tables u sound.each found).0 in
        storable-keys tables u.columns u.rows v its.keyed fit has

module _ (limits : Limits) (tables : Database) (sound : IsSound limits tables) where
  storable-held_by : (k : ColKind) (v : Value) → CanHold tables k v → IsStorable v
  storable-held_by k value.Null holds = tt
  storable-held_by kind.Int (value.Int z) holds = holds
  storable-held_by kind.Int (value.Text text) holds = absurd holds
  storable-held_by kind.Text (value.Int z) holds = absurd holds
  storable-held_by kind.Text (value.Text text) holds = holds
  storable-held_by (kind.Ref name) (value.Text text) holds = storable-held limits tables name (value.Text text) sound holds
  storable-held_by (kind.RefOrNull name) (value.Text text) holds = storable-held limits tables name (value.Text text) sound holds
  storable-held_by (kind.Ref name) (value.Int z) holds = storable-held limits tables name (value.Int z) sound holds
  storable-held_by (kind.RefOrNull name) (value.Int z) holds = storable-held limits tables name (value.Int z) sound holds

  storable-row : (columns : List Column) (row : Row) → IsRowOf tables columns row → (k : ℕ) → IsStorable (value_at row k)
  storable-row [] [] fits k = omega arith
  storable-row [] (v ∷ row) fits k = absurd fits
  storable-row (c ∷ columns) [] fits k = absurd fits
  storable-row (c ∷ columns) (v ∷ row) fits zero = storable-held_by c.kind v fits.0
  storable-row (c ∷ columns) (v ∷ row) fits (suc k) = storable-row columns row fits.1 k

-- ---- rows of a catalog

module _ (c : CatalogState) (ok : IsConsistent c) where
  storable-seen : (n : ℕ) (s : RelationState) → slice_get c.relations n ≡ Some s → (r : TupleRef) → IsSome (finite.get s.rows r) → (k : ℕ)
      → IsStorable (value_at (seen_values c s r) k)
  storable-seen n s there r held k =
      let name = named_at c ok n (slice_get_within c.relations n s there) in
      let table : Table = table_of c.relations name.0 s in
      let at : slice_get (database_of c) n ≡ Some table = database-get c ok.named n name.0 s name.1 there in
      let among = (among_at c ok n s there).kept.keyed.lists.listed r held in
      let inside = subst (λ rows. Contains rows (seen_values c s r)) (sym (rows_same c ok n table at s there)) (Contains-map (seen_values c s) _ r among) in
      storable-row c.limits (database_of c) ok.sound table.columns (seen_values c s r)
      (All-contains (IsRowOf (database_of c) table.columns) table.rows (seen_values c s r) (All-at (RowsFit (database_of c)) (database_of c) n table ok.sound.rows_fit at) inside) k

  -- the value of a row in a column
  pub column_storable : (n : ℕ) (s : RelationState) → slice_get c.relations n ≡ Some s → (r : TupleRef) → IsSome (finite.get s.rows r) → (k : ℕ) → k < length s.schema.columns
      → IsStorable (value_in c.relations s k r)
  column_storable n s there r held k within = subst IsStorable (sym (value_seen c s r held k within)) (storable-seen n s there r held k)

  -- the value at a place of a row over the relations
  pub placed_storable : (sources : List ℕ) (row : List TupleRef) (place : Place) → IsRowOver c.relations sources row → HasPlace c.relations sources place
      → IsStorable (value_of c.relations sources row place)
  placed_storable sources row place over (s, at, within) = found (slice_get sources place.source) refl
    where
      found : (o : Option ℕ) → slice_get sources place.source ≡ o → IsStorable (value_of c.relations sources row place)
      found None e = let no : None ≡ Some s = sym (ap (option_and_then (slice_get c.relations)) e) ∙ at in cc
      found (Some n) e =
          let there : slice_get c.relations n ≡ Some s = sym (ap (option_and_then (slice_get c.relations)) e) ∙ at in
          let r = slice_get-inside row place.source (omega (arith, over.width, slice_get_within sources place.source n e)) in
          let held = over.held place.source s r.0 at r.1 in
          subst IsStorable
          (sym (ap (λ o. lists.or_null (option_and_then (λ s. option_map (value_in c.relations s place.column.0) (slice_get row place.source)) o)) at
          ∙ ap (λ o. lists.or_null (option_map (value_in c.relations s place.column.0) o)) r.1
          ∙ value_seen c s r.0 held place.column.0 within))
          (storable-seen n s there r.0 held place.column.0)
