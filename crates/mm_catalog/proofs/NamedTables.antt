-- Tables of a catalog by their names, and what their relations tell of them.
use Rattle.std.specs.Prelude.{Bool, refl}
use Rattle.std.proofs.Common.{◌≡◌, ℕ, ◌<◌, List, length, map, Some, sym, ap, ◌∙◌, position, slice_get, arith}
use Rattle.std.specs.List.{list_any, zip}
use Rattle.std.specs.Option.{option_map}
use Rattle.std.specs.Str.{bytes_eq}
use Rattle.std.proofs.lemmas.Option.{slice_get_within}
use Rattle.std.proofs.lemmas.Slice.Zip.{firsts-zip}
use Rattle.common_lemmas.proofs.Places.{slice_get-inside}
use Rattle.common_lemmas.proofs.Tests.{list_any-map}
use Rattle.plain_tables.specs.Tables.{Table}
use Rattle.plain_tables.specs.Databases.{is_named}
use Rattle.plain_tables.specs.declared.schema.Column.{Column}
use Rattle.mm_relation.specs.State.{RelationState}
use Rattle.mm_catalog.specs.State.{CatalogState}
use Rattle.mm_catalog.specs.Seen.{database_of, table_of, plain_index}
use Rattle.mm_catalog.proofs.Finding.{position-map}
use Rattle.mm_catalog.proofs.Tables.{database-get}
use Rattle.mm_catalog.proofs.Anywhere.{any_zip}

-- a table has the name that its number has
pub named_position : (c : CatalogState) (name : List ℕ) → length c.names ≡ length c.relations → position (is_named name) (database_of c) ≡ position (λ n. bytes_eq n name) c.names
unfolding database_of table_of
named_position c name named =
    position-map (is_named name) (λ (t : List ℕ × RelationState). table_of c.relations t.0 t.1) (zip c.names c.relations)
    ∙ sym (position-map (λ n. bytes_eq n name) (λ (t : List ℕ × RelationState). t.0) (zip c.names c.relations))
    ∙ ap (position (λ n. bytes_eq n name)) (firsts-zip c.names c.relations (sym named))

-- a table has the columns of its relation
pub database-columns : (c : CatalogState) → length c.names ≡ length c.relations → (n : ℕ) (s : RelationState) → slice_get c.relations n ≡ Some s → option_map (λ (t : Table). t.columns) (slice_get (database_of c) n) ≡ Some s.schema.columns
unfolding table_of
database-columns c named n s e =
    let within : n < length c.names = omega (arith, named, slice_get_within c.relations n s e) in
    let name = slice_get-inside c.names n within in
    ap (option_map (λ (t : Table). t.columns)) (database-get c named n name.0 s name.1 e)

-- and its indexes
pub database-indexes : (c : CatalogState) → length c.names ≡ length c.relations → (n : ℕ) (s : RelationState) → slice_get c.relations n ≡ Some s
    → option_map (λ (t : Table). t.indexes) (slice_get (database_of c) n) ≡ Some (map plain_index s.declared)
unfolding table_of
database-indexes c named n s e =
    let within : n < length c.names = omega (arith, named, slice_get_within c.relations n s e) in
    let name = slice_get-inside c.names n within in
    ap (option_map (λ (t : Table). t.indexes)) (database-get c named n name.0 s name.1 e)

-- whether a column of some table refers to one is told by the columns of the relations
pub database-any : (c : CatalogState) → length c.names ≡ length c.relations → (test : List Column → Bool) → list_any (λ (t : Table). test t.columns) (database_of c) ≡ list_any (λ (s : RelationState). test s.schema.columns) c.relations
unfolding database_of table_of
database-any c named test =
    list_any-map (λ (t : Table). test t.columns) (λ (t : List ℕ × RelationState). table_of c.relations t.0 t.1) (zip c.names c.relations)
    ∙ any_zip (λ (t : List ℕ × RelationState). test t.1.schema.columns) (λ s. test s.schema.columns) c.names c.relations named (λ i name s at here. refl)
