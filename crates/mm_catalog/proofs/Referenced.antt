-- What plain tables hold of keys and references, told by the relations that they are shown of.
use Rattle.std.proofs.Common.{◌≡◌, ◌≢◌, ℕ, zero, suc, ◌<◌, Bool, true, false, List, [], ◌∷◌, Option, Some, None, is_some, refl, sym, ap, ◌∙◌, subst, arith, length, take, get_or}
use Rattle.std.specs.List.{slice_get, list_any, position}
use Rattle.std.specs.Option.{option_and_then, option_map, option_map_or}
use Rattle.std.specs.Ordering.{is_eq}
use Rattle.std.specs.FinMap.{get}
use Rattle.std.proofs.lemmas.Bool.{false_from_ne_true}
use Rattle.std.proofs.lemmas.Option.{none-some, same_Some, slice_get_within}
use Rattle.std.proofs.lemmas.List.Folds.{list_any_at, list_any_none}
use Rattle.common_lemmas.proofs.Places.{slice_get-inside}
use Rattle.common_lemmas.proofs.Elements.{All-at}
use Rattle.common_lemmas.proofs.Tests.{position_where_some, position_found, list_any-map}
use Rattle.common_lemmas.proofs.Orders.{then-Equal, is_eq-Equal}
use Rattle.part_raw.specs.declared.tuple_ref.TupleRef.{TupleRef}
use Rattle.part_raw.proofs.Tuples.{held_tuple}
use Rattle.plain_tables.specs.Tables.{Table, key_cmp, has_key_of}
use Rattle.plain_tables.specs.Databases.{is_named, table_named}
use Rattle.plain_tables.specs.References.{Reference, referred, reference_of, is_held}
use Rattle.plain_tables.specs.Values.{value_cmp}
use Rattle.plain_tables.specs.declared.schema.Column.{Column}
use Rattle.plain_tables.specs.declared.value.Value.{Value}
use Rattle.plain_tables.specs.declared.value.Value.TheVariants.{Null, Int, Text}
use Rattle.plain_tables.proofs.Values.{value_cmp-exact}
use Rattle.mm_relation.specs.Rows.{Row}
use Rattle.mm_relation.specs.declared.row.Cell.{Cell}
use Rattle.mm_relation.specs.declared.row.Cell.TheVariants.{Held, Link}
use Rattle.mm_relation.specs.Reading.{Keys, key_at}
use Rattle.mm_relation.specs.State.{tree_list, RelationState, IsKept, HasKey, linked_keys}
use Rattle.mm_catalog.specs.State.{CatalogState}
use Rattle.mm_catalog.specs.Seen.{database_of, table_of, rows_of, values_of, row_values}
use Rattle.mm_catalog.specs.Linked.{target_of}
use Rattle.mm_catalog.specs.Consistent.{IsConsistent}
use Rattle.mm_catalog.specs.Cells.{IsCellOf, NamesNone, target_in}
use Rattle.mm_catalog.proofs.Lists.{get-take}
use Rattle.mm_catalog.proofs.Tables.{database-get}
use Rattle.mm_catalog.proofs.Finding.{is_some-find, found-front, position-map}
use Rattle.mm_catalog.proofs.Back.{RefersInto, names-database, refers_before, lead_back, has_name}
use Rattle.mm_catalog.proofs.Among.{among_at, some_columns, target_column}

-- ---- keys

-- a row stands to values as its key does to the first of them
pub beside_values : (keys : Keys) (width : ℕ) (t : Row) (key : Value) (rest : List Value) → 0 < width → key_cmp (row_values keys width t) (key ∷ rest) ≡ value_cmp t.key key
unfolding row_values
beside_values keys zero t key rest some = absurd (omega arith)
beside_values keys (suc width) t key rest some = then-Equal (value_cmp t.key key)

key_of : (o : Option Row) (key : Value) → option_and_then (λ (t : Row). Some t.key) o ≡ Some key → (t : Row) × (o ≡ Some t) × (t.key ≡ key)
key_of None key e = absurd (none-some key e)
key_of (Some t) key e = (t, refl, same_Some t.key key e)

module _ (s : RelationState) (kept : IsKept s) (keys : Keys) (some : 0 < length s.schema.columns) (key : Value) (rest : List Value) where
  abbrev has_this_key : TupleRef → Bool
  has_this_key q = is_eq (key_cmp (values_of keys (length s.schema.columns) s.rows q) (key ∷ rest))

  told : (q : TupleRef) (t : Row) → get s.rows q ≡ Some t → has_this_key q ≡ is_eq (value_cmp t.key key)
  unfolding values_of
  told q t found =
      ap (λ o. is_eq (key_cmp (option_map_or (row_values keys (length s.schema.columns)) o []) (key ∷ rest))) found
      ∙ ap is_eq (beside_values keys (length s.schema.columns) t key rest some)

  listed : has_key_of (key ∷ rest) (rows_of keys s) ≡ list_any has_this_key (tree_list s.by_key)
  unfolding rows_of
  listed = list_any-map (λ r. is_eq (key_cmp r (key ∷ rest))) (values_of keys (length s.schema.columns) s.rows) (tree_list s.by_key)

  -- a key that a row has is that of a row that is shown
  pub key_shown : HasKey s.rows key → has_key_of (key ∷ rest) (rows_of keys s) ≡ true
  key_shown h =
      let t = key_of (get s.rows h.0) key h.1 in
      let place = kept.keyed.lists.listed h.0 (ap is_some t.1) in
      listed
      ∙ list_any_at has_this_key (tree_list s.by_key) place.0 h.0 place.1 (ap has_this_key place.2 ∙ told h.0 t.0 t.1 ∙ ap is_eq ((value_cmp-exact t.0.key key).1 t.2))

  -- and one that none has isn't
  pub no_key_shown : (HasKey s.rows key → ⊥) → has_key_of (key ∷ rest) (rows_of keys s) ≡ false
  no_key_shown absent =
      listed
      ∙ list_any_none has_this_key (tree_list s.by_key) (λ k d l.
      let q = get_or (tree_list s.by_key) k d in
      let t = held_tuple s.rows q (kept.keyed.lists.held k d l) in
      false_from_ne_true (has_this_key q) (λ e.
      let same : t.0.key ≡ key = (value_cmp-exact t.0.key key).0 (is_eq-Equal (value_cmp t.0.key key) (sym (told q t.0 t.1) ∙ e)) in
      absent (q, ap (option_and_then (λ (u : Row). Some u.key)) t.1 ∙ ap (λ v. Some v) same)))

-- ---- tables by name

module _ (c : CatalogState) (ok : IsConsistent c) where
  position_named : (name : List ℕ) → position (has_name name) c.names ≡ position (is_named name) (database_of c)
  position_named name = ap (position (has_name name)) (sym (names-database c ok)) ∙ position-map (has_name name) (λ (t : Table). t.name) (database_of c)

  table_found : (name : List ℕ) (i : ℕ) → position (has_name name) c.names ≡ Some i → table_named name (database_of c) ≡ slice_get (database_of c) i
  table_found name i e = (position_found (is_named name) (database_of c) i (sym (position_named name) ∙ e)).1

  name_found : (name : List ℕ) (n : ℕ) → is_some (table_named name (take n (database_of c))) ≡ true → (i : ℕ) × (position (has_name name) c.names ≡ Some i)
  name_found name n h =
      let there = position_where_some (is_named name) (database_of c) (sym (is_some-find (is_named name) (database_of c)) ∙ found-front (is_named name) (database_of c) n h) in
      (there.0, position_named name ∙ there.1)

  held_is : (name : List ℕ) (i : ℕ) (u : RelationState) (v : Value) → position (has_name name) c.names ≡ Some i → slice_get c.relations i ≡ Some u → is_held (database_of c) (name, v) ≡ has_key_of (v ∷ []) (rows_of (linked_keys u.targets c.relations) u)
  unfolding table_of
  held_is name i u v e there =
      let called = slice_get-inside c.names i (omega (arith, ok.named, slice_get_within c.relations i u there)) in
      ap (λ o. option_map_or (λ (t : Table). has_key_of (v ∷ []) t.rows) o false) (table_found name i e ∙ database-get c ok.named i called.0 u called.1 there)

  held_by_key : (name : List ℕ) (i : ℕ) (u : RelationState) (v : Value) → position (has_name name) c.names ≡ Some i → slice_get c.relations i ≡ Some u → HasKey u.rows v → is_held (database_of c) (name, v) ≡ true
  held_by_key name i u v e there h =
      held_is name i u v e there ∙ key_shown u (among_at c ok i u there).kept (linked_keys u.targets c.relations) (some_columns c ok i u there) v [] h

  not_held : (name : List ℕ) (i : ℕ) (u : RelationState) (v : Value) → position (has_name name) c.names ≡ Some i → slice_get c.relations i ≡ Some u → (HasKey u.rows v → ⊥) → is_held (database_of c) (name, v) ≡ false
  not_held name i u v e there h =
      held_is name i u v e there ∙ no_key_shown u (among_at c ok i u there).kept (linked_keys u.targets c.relations) (some_columns c ok i u there) v [] h

  module _ (n : ℕ) (s : RelationState) (there : slice_get c.relations n ≡ Some s) (k : ℕ) (column : Column) (at : slice_get s.schema.columns k ≡ Some column) (value : Value) where
    leads_back : (i : ℕ) → target_of c.names column ≡ Some i → i < n
    leads_back i e = lead_back c ok n s there k i (target_column c ok n s k column there at ∙ e)

    -- the relation that a name leads to
    relation_at : (i : ℕ) → target_of c.names column ≡ Some i → (u : RelationState) × (slice_get c.relations i ≡ Some u) × (target_in (take n c.relations) (target_of c.names column) ≡ Some u)
    relation_at i e =
        let u = slice_get-inside c.relations i (omega (arith, leads_back i e, slice_get_within c.relations n s there)) in
        (u.0, u.1, ap (target_in (take n c.relations)) e ∙ get-take c.relations n i (leads_back i e) ∙ u.1)

    by_name : (o : Option (List ℕ)) (v : Value) (ref : Reference) → v ≢ Null → option_map (λ name. (name, v)) o ≡ Some ref → (v ≢ Null) × (o ≡ Some ref.0) × (ref.1 ≡ v)
    by_name None v ref some e = absurd (none-some ref e)
    by_name (Some name) v ref some e = let same : (name, v) ≡ ref = same_Some (name, v) ref e in (some, ap (λ (r : Reference). Some r.0) same, ap (λ (r : Reference). r.1) (sym same))

    named_by : (v : Value) (ref : Reference) → reference_of column v ≡ Some ref → (v ≢ Null) × (referred column.kind ≡ Some ref.0) × (ref.1 ≡ v)
    named_by Null ref e = absurd (none-some ref e)
    named_by (Int z) ref e = by_name (referred column.kind) (Int z) ref (λ f. cc) e
    named_by (Text t) ref e = by_name (referred column.kind) (Text t) ref (λ f. cc) e

    key_there : (i : ℕ) (u : RelationState) (cell : Cell) → value ≢ Null → target_of c.names column ≡ Some i → target_in (take n c.relations) (target_of c.names column) ≡ Some u → IsCellOf (take n c.relations) (target_of c.names column) value cell → HasKey u.rows value
    key_there i u (Held w) some leads inside is =
        let same : w ≡ value = same_Some w value is.read in
        absurd (some (sym same ∙ is.linked w (ap is_some leads) refl))
    key_there i u (Link to) some leads inside is = (to, sym (ap (option_and_then (λ (r : RelationState). key_at r.rows to)) inside) ∙ is.read)

    -- a value that has a cell names a row that is there, if it names one
    pub reference_held : (cell : Cell) → IsCellOf (take n c.relations) (target_of c.names column) value cell → (ref : Reference) → reference_of column value ≡ Some ref → is_held (database_of c) ref ≡ true
    reference_held cell is ref e =
        let by = named_by value ref e in
        let into : is_some (table_named ref.0 (take n (database_of c))) ≡ true =
        subst (λ o. option_map_or (λ name. is_some (table_named name (take n (database_of c)))) o true ≡ true) by.1 (All-at (RefersInto (take n (database_of c))) s.schema.columns k column (refers_before c ok n s there) at) in
        let i = name_found ref.0 n into in
        let leads : target_of c.names column ≡ Some i.0 = ap (option_and_then (λ name. position (has_name name) c.names)) by.1 ∙ i.1 in
        let u = relation_at i.0 leads in
        let key = key_there i.0 u.0 cell by.0 leads u.2 is in
        let same : ref ≡ (ref.0, value) = λ j. (ref.0, by.2 j) in
        ap (is_held (database_of c)) same ∙ held_by_key ref.0 i.0 u.0 value i.1 u.1 key

    reference_some : (v : Value) (o : Option (List ℕ)) → referred column.kind ≡ o → v ≢ Null → reference_of column v ≡ option_map (λ name. (name, v)) o
    reference_some Null o e some = absurd (some refl)
    reference_some (Int z) o e some = ap (option_map (λ name. (name, Int z))) e
    reference_some (Text t) o e some = ap (option_map (λ name. (name, Text t))) e

    leading : (o : Option ℕ) (u : RelationState) → target_in (take n c.relations) o ≡ Some u → (i : ℕ) × (o ≡ Some i)
    leading None u e = absurd (none-some u e)
    leading (Some i) u e = (i, refl)

    naming : (o : Option (List ℕ)) (i : ℕ) → option_and_then (λ name. position (has_name name) c.names) o ≡ Some i → (name : List ℕ) × (o ≡ Some name) × (position (has_name name) c.names ≡ Some i)
    naming None i e = absurd (none-some i e)
    naming (Some name) i e = (name, refl, e)

    -- one that is to name a row, and doesn't, is a reference that isn't held
    pub reference_missing : NamesNone (take n c.relations) (target_of c.names column) value → (ref : Reference) × (reference_of column value ≡ Some ref) × (is_held (database_of c) ref ≡ false)
    reference_missing none =
        let i = leading (target_of c.names column) none.relation none.there in
        let name = naming (referred column.kind) i.0 i.1 in
        let u = relation_at i.0 i.1 in
        let same : none.relation ≡ u.0 = same_Some none.relation u.0 (sym none.there ∙ u.2) in
        let absent : HasKey u.0.rows value → ⊥ = subst (λ (r : RelationState). HasKey r.rows value → ⊥) same none.absent in (
          (name.0, value),
          reference_some value (Some name.0) name.1 none.some,
          not_held name.0 i.0 u.0 value name.2 u.1 absent,
        )
