-- Which rows of a catalog are referenced: those that links name.
use Rattle.std.proofs.Common.{◌≡◌, ◌≢◌, ℕ, ◌<◌, ◌+◌, ◌-◌, ◌==◌, ◌&&◌, true, false, cond, IsTrue, List, [], ◌∷◌, Option, Some, None, IsSome, is_some, refl, sym, ap, ◌∙◌, subst, arith, length, map, take, get_or, inl, inr}
use Rattle.std.specs.List.{All, list_any, position, range_with_len, slice_get, zip}
use Rattle.std.specs.Option.{option_and_then, option_map, option_map_or}
use Rattle.std.specs.Ordering.{is_eq}
use Rattle.std.specs.Str.{bytes_eq}
use Rattle.std.specs.FinMap.{get}
use Rattle.std.proofs.lemmas.Bool.{false≢true, cases_order, eq-eqb, eqb-true, false_from_ne_true, true_from_ne_false}
use Rattle.std.proofs.lemmas.List.Quantifiers.{position-Some}
use Rattle.std.proofs.lemmas.Option.{none-some, same_Some, slice_get_within, slice_get-get_or, get_or_from_slice_get}
use Rattle.std.proofs.lemmas.Slice.Eq.{bytes_eq-Decides}
use Rattle.std.proofs.lemmas.List.Folds.{list_any_none}
use Rattle.std.proofs.lemmas.List.Elements.{All-contains_itself}
use Rattle.common_lemmas.proofs.Places.{slice_get-inside}
use Rattle.common_lemmas.proofs.Elements.{All-at}
use Rattle.common_lemmas.proofs.Tests.{position_where_some, list_any-map, fails_where_none}
use Rattle.common_lemmas.proofs.Orders.{is_eq-Equal}
use Rattle.common_lemmas.proofs.Counts.{count_by-member}
use Rattle.part_raw.specs.declared.tuple_ref.TupleRef.{TupleRef}
use Rattle.part_raw.specs.TupleRefs.{ref_cmp}
use Rattle.part_raw.proofs.Tuples.{same_ref_self, same_ref_true, held_tuple}
use Rattle.plain_tables.specs.Values.{value_cmp}
use Rattle.plain_tables.specs.Tables.{Table, key_cmp}
use Rattle.plain_tables.specs.Databases.{Database, is_named, table_named}
use Rattle.plain_tables.specs.References.{CanHold, IsRowOf, is_referenced, is_to, own_type, reference_of, references, referred, takes_null, table_references}
use Rattle.plain_tables.specs.declared.schema.ColKind.{ColKind}
use Rattle.plain_tables.specs.declared.schema.ColKind.TheVariants as kind
use Rattle.plain_tables.specs.declared.schema.Column.{Column}
use Rattle.plain_tables.specs.declared.value.Value.{Value}
use Rattle.plain_tables.specs.declared.value.Value.TheVariants as value
use Rattle.plain_tables.specs.declared.value.Value.TheVariants.{Null}
use Rattle.plain_tables.proofs.Values.{value_cmp-exact}
use Rattle.mm_relation.specs.Rows.{Row, referrers_at}
use Rattle.mm_relation.specs.declared.row.Cell.{Cell}
use Rattle.mm_relation.specs.declared.row.Cell.TheVariants.{Held, Link}
use Rattle.mm_relation.specs.Reading.{Keys, cell_value, key_at, link_in, link_of, row_value}
use Rattle.mm_relation.specs.State.{tree_list, RelationState, linked_keys}
use Rattle.mm_relation.proofs.Serving.{from_mapped}
use Rattle.mm_catalog.specs.State.{CatalogState}
use Rattle.mm_catalog.specs.Seen.{database_of, table_of, rows_of, values_of, row_values, or_null}
use Rattle.mm_catalog.specs.Linked.{target_of, target_at, link_at, row_links, relation_links, links, is_link_to, links_to}
use Rattle.mm_catalog.specs.Consistent.{IsConsistent}
use Rattle.mm_catalog.proofs.Anywhere.{any_flat, any_filter_map, any_alike, any_zip, any_numbered, none_counted, same_tests, and_alike}
use Rattle.mm_catalog.proofs.Back.{RefersInto, refers_before, names-database}
use Rattle.mm_catalog.proofs.Among.{among_at, named_at, key_typed, some_columns, target_column}
use Rattle.mm_catalog.proofs.Referenced.{beside_values}
use Rattle.mm_catalog.proofs.Finding.{is_some-find, found-front}
use Rattle.mm_catalog.proofs.LinksHeld.{link_held, linked_value}
use Rattle.mm_catalog.proofs.Tables.{database-get}
use Rattle.mm_catalog.proofs.Checked.{no_reference}

-- ---- values and what they name

a_reference : (column : Column) (v : Value) (name : List ℕ) → v ≢ Null → referred column.kind ≡ Some name → reference_of column v ≡ Some (name, v)
a_reference column value.Null name some e = absurd (some refl)
a_reference column (value.Int z) name some e = ap (option_map (λ name. (name, value.Int z))) e
a_reference column (value.Text text) name some e = ap (option_map (λ name. (name, value.Text text))) e

-- a column that refers to a table has no type of its own
no_own_type : (k : ColKind) (name : List ℕ) → referred k ≡ Some name → IsSome (own_type k) → ⊥
no_own_type kind.Int name e h = none-some name e
no_own_type kind.Text name e h = none-some name e
no_own_type (kind.Ref table) name e h = false≢true h
no_own_type (kind.RefOrNull table) name e h = false≢true h

no_null_key : (k : ColKind) → IsSome (own_type k) → IsTrue (takes_null k) → ⊥
no_null_key kind.Int h t = false≢true t
no_null_key kind.Text h t = false≢true t
no_null_key (kind.Ref table) h t = false≢true h
no_null_key (kind.RefOrNull table) h t = false≢true h

-- the first value of a row that its columns can hold is no null
first_not_null : (tables : Database) (columns : List Column) (keys : Keys) (row : Row) → IsSome (option_and_then (λ (c : Column). own_type c.kind) (slice_get columns 0)) → IsRowOf tables columns (row_values keys (length columns) row) → row.key ≢ Null
unfolding row_values
first_not_null tables [] keys row keyed fits e = false≢true keyed
first_not_null tables (column ∷ columns) keys row keyed fits e =
    no_null_key column.kind keyed (subst (CanHold tables column.kind) e fits.0)

-- where the cell of a column links to no row, it is null, or there is none
null_cell : (keys : Keys) (column : ℕ) (row : Row) → column ≢ 0 → ((v : Value) → slice_get row.cells (column - 1) ≡ Some (Held v) → v ≡ Null) → link_in column row ≡ None → or_null (row_value keys column row) ≡ Null
null_cell keys column row behind nulls none =
    elim (column == 0) as (λ b. (column == 0) ≡ b → cond b None (option_and_then link_of (slice_get row.cells (column - 1))) ≡ None → or_null (cond b (Some row.key) (option_and_then (cell_value keys column) (slice_get row.cells (column - 1)))) ≡ Null) [
      | true ↦ λ e f. absurd (behind (eqb-true column 0 e))
      | false ↦ λ e f. at (slice_get row.cells (column - 1)) refl f
    ] refl none
  where
    at : (o : Option Cell) → slice_get row.cells (column - 1) ≡ o → option_and_then link_of o ≡ None → or_null (option_and_then (cell_value keys column) o) ≡ Null
    at None e f = refl
    at (Some (Held v)) e f = nulls v e
    at (Some (Link to)) e f = absurd (none-some to (sym f))

module _ (c : CatalogState) (ok : IsConsistent c) where
  abbrev keys_of : RelationState → Keys
  keys_of s = linked_keys s.targets c.relations

  table_here : (n : ℕ) (s : RelationState) → slice_get c.relations n ≡ Some s → (name : List ℕ) × (slice_get c.names n ≡ Some name) × (slice_get (database_of c) n ≡ Some (table_of c.relations name s))
  table_here n s there =
      let name = named_at c ok n (slice_get_within c.relations n s there) in
      (name.0, name.1, database-get c ok.named n name.0 s name.1 there)

  -- no key is null
  pub key_not_null : (n : ℕ) (s : RelationState) (r : TupleRef) (row : Row) → slice_get c.relations n ≡ Some s → get s.rows r ≡ Some row → row.key ≢ Null
  unfolding table_of rows_of values_of
  key_not_null n s r row there at =
      let t = table_here n s there in
      let table = table_of c.relations t.0 s in
      let fit : All (IsRowOf (database_of c) table.columns) table.rows =
      All-at (λ (u : Table). All (IsRowOf (database_of c) u.columns) u.rows) (database_of c) n table ok.sound.rows_fit t.2 in
      let listed = (among_at c ok n s there).kept.keyed.lists.listed r (ap is_some at) in
      let here = from_mapped (IsRowOf (database_of c) s.schema.columns) (values_of (keys_of s) (length s.schema.columns) s.rows) (tree_list s.by_key) fit listed.0 r listed.1 in
      let values : values_of (keys_of s) (length s.schema.columns) s.rows (get_or (tree_list s.by_key) listed.0 r) ≡ row_values (keys_of s) (length s.schema.columns) row =
      ap (values_of (keys_of s) (length s.schema.columns) s.rows) listed.2 ∙ ap (λ o. option_map_or (row_values (keys_of s) (length s.schema.columns)) o []) at in
      first_not_null (database_of c) s.schema.columns (keys_of s) row (key_typed c ok n s there) (subst (IsRowOf (database_of c) s.schema.columns) values here)

  -- a table that a column refers to is there
  pub target_found : (n : ℕ) (s : RelationState) (j : ℕ) (column : Column) (name : List ℕ) → slice_get c.relations n ≡ Some s → slice_get s.schema.columns j ≡ Some column → referred column.kind ≡ Some name → (t : ℕ) × (position (λ m. bytes_eq m name) c.names ≡ Some t)
  target_found n s j column name there at e =
      let refers : RefersInto (take n (database_of c)) column = All-at (RefersInto (take n (database_of c))) s.schema.columns j column (refers_before c ok n s there) at in
      let front : is_some (table_named name (take n (database_of c))) ≡ true = subst (λ o. IsTrue (option_map_or (λ m. is_some (table_named m (take n (database_of c)))) o true)) e refers in
      let named : list_any (λ m. bytes_eq m name) (map (λ (t : Table). t.name) (database_of c)) ≡ true =
      list_any-map (λ m. bytes_eq m name) (λ (t : Table). t.name) (database_of c) ∙ sym (is_some-find (is_named name) (database_of c)) ∙ found-front (is_named name) (database_of c) n front in
      position_where_some (λ m. bytes_eq m name) c.names (subst (λ names. list_any (λ m. bytes_eq m name) names ≡ true) (names-database c ok) named)

  -- names differ
  names_apart : (i j : ℕ) (a b : List ℕ) → i < j → slice_get c.names i ≡ Some a → slice_get c.names j ≡ Some b → a ≢ b
  unfolding table_of
  names_apart i j a b below at here e =
      let s = slice_get-inside c.relations i (omega (arith, ok.named, slice_get_within c.names i a at)) in
      let t = slice_get-inside c.relations j (omega (arith, ok.named, slice_get_within c.names j b here)) in
      let first = database-get c ok.named i a s.0 at s.1 in
      let second = database-get c ok.named j b t.0 here t.1 in
      let d : Table = table_of c.relations a s.0 in
      let apart = ok.sound.apart i j d below (slice_get_within (database_of c) j (table_of c.relations b t.0) second) in
      let one : (get_or (database_of c) i d).name ≡ a = ap (λ (u : Table). u.name) (get_or_from_slice_get (database_of c) i d d first) in
      let other : (get_or (database_of c) j d).name ≡ b = ap (λ (u : Table). u.name) (get_or_from_slice_get (database_of c) j (table_of c.relations b t.0) d second) in
      apart (one ∙ e ∙ sym other)

  -- a name is that of the table of its number
  named_there : (n t : ℕ) (name other : List ℕ) → slice_get c.names n ≡ Some name → position (λ m. bytes_eq m other) c.names ≡ Some t → bytes_eq name other ≡ (t == n)
  named_there n t name other at found =
      let first = position-Some (λ m. bytes_eq m other) c.names t name found in
      let there : slice_get c.names t ≡ Some (get_or c.names t name) = slice_get-get_or c.names t name first.0 in
      let same : get_or c.names t name ≡ other = (bytes_eq-Decides (get_or c.names t name) other).0 first.1 in
      same_tests (bytes_eq name other) (t == n)
      (λ e. let is : name ≡ other = (bytes_eq-Decides name other).0 e in
      elim (cases_order t n) [
        | inl equal ↦ eq-eqb t n equal
        | inr (inl below) ↦ absurd (names_apart t n (get_or c.names t name) name below there at (same ∙ sym is))
        | inr (inr above) ↦ absurd (false≢true (sym (first.2 n above) ∙ ap (λ m. bytes_eq m other) (get_or_from_slice_get c.names n name name at) ∙ e))
      ])
      (λ e. let is : t ≡ n = eqb-true t n e in
      let one : get_or c.names t name ≡ name = ap (λ i. get_or c.names i name) is ∙ get_or_from_slice_get c.names n name name at in
      (bytes_eq-Decides name other).1 (sym one ∙ same))

  module _ (n : ℕ) (name : List ℕ) (s : RelationState) (r : TupleRef) (row : Row) (named : slice_get c.names n ≡ Some name) (there : slice_get c.relations n ≡ Some s) (at : get s.rows r ≡ Some row) where
    abbrev values : List Value
    values = row_values (keys_of s) (length s.schema.columns) row

    -- a key and a link name the row alike
    named_alike : (t : ℕ) (other : List ℕ) (w : RelationState) (to : TupleRef) (found : Row) → position (λ m. bytes_eq m other) c.names ≡ Some t → slice_get c.relations t ≡ Some w → get w.rows to ≡ Some found → is_to name values (other, found.key) ≡ is_link_to n r (t, to)
    named_alike t other w to found place here held =
        ap (λ b. b && is_eq (key_cmp values (found.key ∷ []))) (named_there n t name other named place)
        ∙ and_alike (t == n) (is_eq (key_cmp values (found.key ∷ []))) (is_eq (ref_cmp to r))
        (λ e.
        let same : w ≡ s = same_Some w s (sym here ∙ ap (slice_get c.relations) (eqb-true t n e) ∙ there) in
        let in_s : get s.rows to ≡ Some found = ap (λ (u : RelationState). get u.rows to) (sym same) ∙ held in
        let kept = (among_at c ok n s there).kept in
        ap is_eq (beside_values (keys_of s) (length s.schema.columns) row found.key [] (some_columns c ok n s there))
        ∙ same_tests (is_eq (value_cmp row.key found.key)) (is_eq (ref_cmp to r))
        (λ f.
        let keys : row.key ≡ found.key = (value_cmp-exact row.key found.key).0 (is_eq-Equal (value_cmp row.key found.key) f) in
        let alike : key_at s.rows to ≡ key_at s.rows r = ap (option_and_then (λ (u : Row). Some u.key)) in_s ∙ ap (λ k. Some k) (sym keys) ∙ sym (ap (option_and_then (λ (u : Row). Some u.key)) at) in
        let one : to ≡ r = kept.keyed.keys_differ.apart to r (ap is_some in_s) (ap is_some at) alike in
        ap (λ q. is_eq (ref_cmp q r)) one ∙ same_ref_self r)
        (λ f.
        let one : to ≡ r = same_ref_true to r f in
        let rows : row ≡ found = same_Some row found (sym at ∙ ap (get s.rows) (sym one) ∙ in_s) in
        ap is_eq ((value_cmp-exact row.key found.key).1 (ap (λ (u : Row). u.key) rows))))

    -- so does a column of any row
    column_alike : (k : ℕ) (t : RelationState) (q : TupleRef) (u : Row) (j : ℕ) (column : Column) → slice_get c.relations k ≡ Some t → get t.rows q ≡ Some u → slice_get t.schema.columns j ≡ Some column
        → option_map_or (is_to name values) (reference_of column (or_null (row_value (keys_of t) j u))) false ≡ option_map_or (is_link_to n r) (link_at t.targets u j) false
    column_alike k t q u j column tk held at_j = by (referred column.kind) refl
      where
        target : target_at t.targets j ≡ target_of c.names column
        target = target_column c ok k t j column tk at_j

        link_there : (table : ℕ) (o : Option TupleRef) → target_at t.targets j ≡ Some table → link_in j u ≡ o → link_at t.targets u j ≡ option_map (λ to. (table, to)) o
        link_there table o e f =
            ap (option_and_then (λ table. option_map (λ to. (table, to)) (link_in j u))) e ∙ ap (option_map (λ to. (table, to))) f

        not_key : (other : List ℕ) → referred column.kind ≡ Some other → j ≢ 0
        not_key other e first =
            no_own_type column.kind other e (subst (λ o. IsSome (option_and_then (λ (d : Column). own_type d.kind) o)) (ap (slice_get t.schema.columns) (sym first) ∙ at_j) (key_typed c ok k t tk))

        through : (other : List ℕ) (table : ℕ) (o : Option TupleRef) → referred column.kind ≡ Some other → position (λ m. bytes_eq m other) c.names ≡ Some table → target_at t.targets j ≡ Some table → link_in j u ≡ o
            → option_map_or (is_to name values) (reference_of column (or_null (row_value (keys_of t) j u))) false ≡ option_map_or (is_link_to n r) (link_at t.targets u j) false
        through other table None e place leads none =
            let null : or_null (row_value (keys_of t) j u) ≡ Null =
            null_cell (keys_of t) j u (not_key other e) (λ v cell. (among_at c ok k t tk).linked q u held j v (let behind = not_key other e in omega (arith, behind)) (ap is_some leads) cell) none in
            ap (λ v. option_map_or (is_to name values) (reference_of column v) false) null
            ∙ sym (ap (λ o. option_map_or (is_link_to n r) o false) (link_there table None leads none))
        through other table (Some to) e place leads link =
            let w = link_held c ok k t q u j table to tk held leads link in
            let read : row_value (keys_of t) j u ≡ Some w.1.key =
            linked_value (keys_of t) j u to link
            ∙ ap (λ o. option_and_then (λ (v : RelationState). key_at v.rows to) (option_and_then (slice_get c.relations) o)) leads
            ∙ ap (option_and_then (λ (v : RelationState). key_at v.rows to)) w.2 ∙ ap (option_and_then (λ (v : Row). Some v.key)) w.3 in
            ap (λ v. option_map_or (is_to name values) (reference_of column (or_null v)) false) read
            ∙ ap (λ o. option_map_or (is_to name values) o false) (a_reference column w.1.key other (key_not_null table w.0 to w.1 w.2 w.3) e)
            ∙ named_alike table other w.0 to w.1 place w.2 w.3
            ∙ sym (ap (λ o. option_map_or (is_link_to n r) o false) (link_there table (Some to) leads link))

        by : (o : Option (List ℕ)) → referred column.kind ≡ o → option_map_or (is_to name values) (reference_of column (or_null (row_value (keys_of t) j u))) false ≡ option_map_or (is_link_to n r) (link_at t.targets u j) false
        by None e =
            ap (λ o. option_map_or (is_to name values) o false) (no_reference column (or_null (row_value (keys_of t) j u)) e)
            ∙ sym (ap (λ o. option_map_or (is_link_to n r) (option_and_then (λ table. option_map (λ to. (table, to)) (link_in j u)) o) false)
            (target ∙ ap (option_and_then (λ m. position (λ l. bytes_eq l m) c.names)) e))
        by (Some other) e =
            let place = target_found k t j column other tk at_j e in
            through other place.0 (link_in j u) e place.1 (target ∙ ap (option_and_then (λ m. position (λ l. bytes_eq l m) c.names)) e ∙ place.1) refl

    row_alike : (k : ℕ) (t : RelationState) (q : TupleRef) (u : Row) → slice_get c.relations k ≡ Some t → get t.rows q ≡ Some u
        → list_any (is_to name values) (references t.schema.columns (row_values (keys_of t) (length t.schema.columns) u)) ≡ list_any (is_link_to n r) (row_links t.targets u)
    unfolding row_values row_links
    row_alike k t q u tk held =
        any_filter_map (is_to name values) (λ (d : Column × Value). reference_of d.0 d.1) (zip t.schema.columns (row_values (keys_of t) (length t.schema.columns) u))
        ∙ any_numbered (λ (d : Column × Value). option_map_or (is_to name values) (reference_of d.0 d.1) false) (λ j. option_map_or (is_link_to n r) (link_at t.targets u j) false) (λ j. or_null (row_value (keys_of t) j u)) t.schema.columns 0
        (λ j column at_j. let start : j ≡ 0 + j = omega arith in
        subst (λ i. option_map_or (is_to name values) (reference_of column (or_null (row_value (keys_of t) i u))) false ≡ option_map_or (is_link_to n r) (link_at t.targets u i) false) start (column_alike k t q u j column tk held at_j))
        ∙ ap (λ m. list_any (λ j. option_map_or (is_link_to n r) (link_at t.targets u j) false) (range_with_len 0 m)) (sym (among_at c ok k t tk).kept.width)
        ∙ sym (any_filter_map (is_link_to n r) (link_at t.targets u) (range_with_len 0 (length t.targets)))

    relation_alike : (k : ℕ) (other : List ℕ) (t : RelationState) → slice_get c.relations k ≡ Some t → list_any (is_to name values) (table_references (table_of c.relations other t)) ≡ list_any (is_link_to n r) (relation_links t)
    unfolding table_of rows_of relation_links values_of
    relation_alike k other t tk =
        any_flat (is_to name values) (references t.schema.columns) (map (values_of (keys_of t) (length t.schema.columns) t.rows) (tree_list t.by_key))
        ∙ list_any-map (λ v. list_any (is_to name values) (references t.schema.columns v)) (values_of (keys_of t) (length t.schema.columns) t.rows) (tree_list t.by_key)
        ∙ any_alike (λ q. list_any (is_to name values) (references t.schema.columns (values_of (keys_of t) (length t.schema.columns) t.rows q)))
        (λ q. list_any (is_link_to n r) (option_map_or (row_links t.targets) (get t.rows q) [])) (tree_list t.by_key)
        (λ i d l.
        let q = get_or (tree_list t.by_key) i d in
        let u = held_tuple t.rows q ((among_at c ok k t tk).kept.keyed.lists.held i d l) in
        ap (λ o. list_any (is_to name values) (references t.schema.columns (option_map_or (row_values (keys_of t) (length t.schema.columns)) o []))) u.1
        ∙ row_alike k t q u.0 tk u.1
        ∙ sym (ap (λ o. list_any (is_link_to n r) (option_map_or (row_links t.targets) o [])) u.1))
        ∙ sym (any_flat (is_link_to n r) (λ q. option_map_or (row_links t.targets) (get t.rows q) []) (tree_list t.by_key))

    all_alike : is_referenced (database_of c) name values ≡ list_any (is_link_to n r) (links c.relations)
    unfolding database_of links
    all_alike =
        any_flat (is_to name values) table_references (map (λ (t : List ℕ × RelationState). table_of c.relations t.0 t.1) (zip c.names c.relations))
        ∙ list_any-map (λ t. list_any (is_to name values) (table_references t)) (λ (t : List ℕ × RelationState). table_of c.relations t.0 t.1) (zip c.names c.relations)
        ∙ any_zip (λ (t : List ℕ × RelationState). list_any (is_to name values) (table_references (table_of c.relations t.0 t.1))) (λ t. list_any (is_link_to n r) (relation_links t)) c.names c.relations ok.named
        (λ k other t e tk. relation_alike k other t tk)
        ∙ sym (any_flat (is_link_to n r) relation_links c.relations)

    -- a row without referrers is referred to by none
    pub not_referenced : referrers_at s.referrers r ≡ 0 → is_referenced (database_of c) name values ≡ false
    unfolding links_to
    not_referenced none =
        all_alike
        ∙ list_any_none (is_link_to n r) (links c.relations) (λ k d l.
        let link = get_or (links c.relations) k d in
        false_from_ne_true (is_link_to n r link) (λ e.
        let some = count_by-member (is_link_to n r) (links c.relations) link (All-contains_itself (links c.relations) k d l) e in
        omega (arith, none, some, ok.counted n s r there (ap is_some at))))

    -- one with referrers is
    pub referenced : 0 < referrers_at s.referrers r → is_referenced (database_of c) name values ≡ true
    unfolding links_to
    referenced some =
        all_alike
        ∙ true_from_ne_false (list_any (is_link_to n r) (links c.relations)) (λ e.
        let none = none_counted (is_link_to n r) (links c.relations) (fails_where_none (is_link_to n r) (links c.relations) e) in
        omega (arith, some, none, ok.counted n s r there (ap is_some at)))
