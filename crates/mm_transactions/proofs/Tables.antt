-- The tables of a consistent catalog's outline are its database.
use Rattle.std.proofs.Common.{◌≡◌, ℕ, suc, List, [], ◌∷◌, Some, IsSome, refl, sym, ap, ◌∙◌, subst, length, map}
use Rattle.std.specs.List.{Contains, slice_get, zip}
use Rattle.std.specs.FinMap as finite
use Rattle.std.proofs.lemmas.List.Elements.{All-contains}
use Rattle.common_lemmas.proofs.Elements.{All-at, Contains-from_map, Contains-map}
use Rattle.part_raw.specs.declared.tuple_ref.TupleRef.{TupleRef}
use Rattle.part_raw.specs.Store.{Tuples}
use Rattle.plain_tables.specs.References.{IsSoundTable}
use Rattle.plain_tables.specs.Tables.{AreRising, Row}
use Rattle.mm_relation.specs.Reading.{Keys}
use Rattle.mm_relation.specs.State.{IsKept, RelationState, linked_keys, tree_list}
use Rattle.mm_catalog.specs.Consistent.{IsConsistent}
use Rattle.mm_catalog.specs.Outline.{RelationOutline, outline_of, relation_outline}
use Rattle.mm_catalog.specs.Seen.{database_of, plain_index, rows_of, table_of, values_of}
use Rattle.mm_catalog.specs.State.{CatalogState}
use Rattle.mm_catalog.specs.Unindexed.{keys_read}
use Rattle.mm_catalog.proofs.Among.{among_at}
use Rattle.mm_catalog.proofs.IndexBack.{keys_outlined}
use Rattle.mm_catalog.proofs.Outlined.{among_contains, contains_among}
use Rattle.mm_catalog.proofs.Tables.{database-get}
use Rattle.mm_transactions.specs.Tables.{rows_in, table_in, tables_in}
use Rattle.mm_transactions.proofs.KeyOrder.{in_key_order-is}

-- ---- rows

module _ {X : Type 0} (rows : Tuples X) where
  held_key : (r : TupleRef) → Contains (finite.keys rows) r → IsSome (finite.get rows r)
  held_key r there = finite.contains_key-keys rows r ∙ contains_among (finite.keys rows) r there

  key_held : (r : TupleRef) → IsSome (finite.get rows r) → Contains (finite.keys rows) r
  key_held r held = among_contains (finite.keys rows) r (sym (finite.contains_key-keys rows r) ∙ held)

rows_outlined : (keys : Keys) (s : RelationState) → IsKept s → AreRising (rows_of keys s) → rows_in keys (relation_outline s) ≡ rows_of keys s
unfolding rows_in rows_of
rows_outlined keys s kept rise =
    in_key_order-is (map values (tree_list s.by_key)) (map values (finite.keys s.rows)) rise
    (λ x there.
    let r = Contains-from_map values (finite.keys s.rows) x there in
    subst (Contains (map values (tree_list s.by_key))) r.2 (Contains-map values (tree_list s.by_key) r.0 (kept.keyed.lists.listed r.0 (held_key s.rows r.0 r.1))))
    (λ x there.
    let r = Contains-from_map values (tree_list s.by_key) x there in
    subst (Contains (map values (finite.keys s.rows))) r.2
    (Contains-map values (finite.keys s.rows) r.0 (key_held s.rows r.0 (All-contains (λ q. IsSome (finite.get s.rows q)) (tree_list s.by_key) r.0 kept.keyed.lists.held r.1))))
  where
    values : TupleRef → Row
    values = values_of keys (length s.schema.columns) s.rows

-- ---- tables

-- two lists, side by side, of which one is made of another
map-zip-map : {A B C D : Type 0} (f : B → C) (g : A × C → D) (h : A × B → D) (xs : List A) (ys : List B)
    → ((i : ℕ) (a : A) (b : B) → slice_get xs i ≡ Some a → slice_get ys i ≡ Some b → g (a, f b) ≡ h (a, b)) → map g (zip xs (map f ys)) ≡ map h (zip xs ys)
map-zip-map f g h [] ys same = refl
map-zip-map f g h (x ∷ xs) [] same = refl
map-zip-map f g h (x ∷ xs) (y ∷ ys) same =
    ap (λ z. z ∷ map g (zip xs (map f ys))) (same 0 x y refl refl) ∙ ap (λ zs. h (x, y) ∷ zs) (map-zip-map f g h xs ys (λ i. same (suc i)))

module _ (c : CatalogState) (ok : IsConsistent c) where
  table_outlined : (n : ℕ) (name : List ℕ) (s : RelationState) → slice_get c.names n ≡ Some name → slice_get c.relations n ≡ Some s
      → table_in (map relation_outline c.relations) name (relation_outline s) ≡ table_of c.relations name s
  unfolding table_in table_of
  table_outlined n name s named there =
      let sound : IsSoundTable c.limits (table_of c.relations name s) = All-at (IsSoundTable c.limits) (database_of c) n (table_of c.relations name s) ok.sound.each (database-get c ok.named n name s named there) in
      let rows : rows_in (keys_read s.targets (map relation_outline c.relations)) (relation_outline s) ≡ rows_of (linked_keys s.targets c.relations) s =
      ap (λ keys. rows_in keys (relation_outline s)) (keys_outlined s.targets c.relations)
      ∙ rows_outlined (linked_keys s.targets c.relations) s (among_at c ok n s there).kept sound.rows_rise in
      λ i. record { name = name; columns = s.schema.columns; indexes = map plain_index s.declared; rows = rows i }

  pub tables_outlined : tables_in (outline_of c) ≡ database_of c
  unfolding tables_in database_of
  tables_outlined =
      map-zip-map relation_outline (λ (t : List ℕ × RelationOutline). table_in (map relation_outline c.relations) t.0 t.1)
      (λ (t : List ℕ × RelationState). table_of c.relations t.0 t.1) c.names c.relations table_outlined
