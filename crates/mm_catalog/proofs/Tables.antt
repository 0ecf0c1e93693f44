-- The tables of a catalog, by their numbers.
use Rattle.std.proofs.Common.{◌≡◌, ℕ, ◌<◌, List, Some, ap, ◌∙◌, length}
use Rattle.std.specs.List.{slice_get, zip}
use Rattle.std.specs.Option.{option_map}
use Rattle.std.proofs.lemmas.Option.{slice_get-map}
use Rattle.std.proofs.lemmas.List.{length-map}
use Rattle.common_lemmas.proofs.Places.{slice_get-inside}
use Rattle.plain_tables.specs.Tables.{Table}
use Rattle.mm_relation.specs.State.{RelationState}
use Rattle.mm_catalog.specs.State.{CatalogState}
use Rattle.mm_catalog.specs.Seen.{database_of, table_of}
use Rattle.mm_catalog.proofs.Lists.{get-zip, length-zip}

module _ (c : CatalogState) (named : length c.names ≡ length c.relations) where
  pub database-length : length (database_of c) ≡ length c.relations
  unfolding database_of
  database-length = length-map _ _ ∙ length-zip c.names c.relations named

  pub database-get : (n : ℕ) (name : List ℕ) (s : RelationState) → slice_get c.names n ≡ Some name → slice_get c.relations n ≡ Some s → slice_get (database_of c) n ≡ Some (table_of c.relations name s)
  unfolding database_of
  database-get n name s e f =
      slice_get-map (λ (t : List ℕ × RelationState). table_of c.relations t.0 t.1) (zip c.names c.relations) n
      ∙ ap (option_map (λ (t : List ℕ × RelationState). table_of c.relations t.0 t.1)) (get-zip c.names c.relations n name s e f)

  -- the table of a number is called by the name of that number
  pub database-name : (n : ℕ) (name : List ℕ) → slice_get c.names n ≡ Some name → n < length c.relations → option_map (λ (t : Table). t.name) (slice_get (database_of c) n) ≡ Some name
  unfolding table_of
  database-name n name e within =
      let there = slice_get-inside c.relations n within in
      ap (option_map (λ (t : Table). t.name)) (database-get n name there.0 e there.1)
