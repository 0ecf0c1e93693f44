-- Changes that leave which tables there are, and their columns, and what is known then of the database.
use Rattle.std.proofs.Common.{◌≡◌, ℕ, true, List, [], ◌∷◌, Option, Some, None, refl, sym, ◌∙◌, map}
use Rattle.std.proofs.lemmas.Bool.{false≢true}
use Rattle.std.specs.Prelude.{zip, slice_get, slice_set}
use Rattle.std.specs.Option.{option_map_or}
use Rattle.plain_tables.specs.ResolvedLaws.{emptied}
use Rattle.plain_tables.specs.Tables.{Table}
use Rattle.plain_tables.specs.declared.schema.Schema.{Schema}
use Rattle.plain_tables.proofs.Changes.{map_set_alike}
use Rattle.mm_relation.specs.State.{RelationState}
use Rattle.mm_catalog.specs.Outline.{Outline, RelationOutline, changed_at, outline_of, relation_outline}
use Rattle.mm_catalog.specs.Seen.{database_of, table_of}
use Rattle.mm_catalog.specs.State.{CatalogState}
use Rattle.mm_transactions.specs.Undoing.{Change, Came, Went, Updated, TableDeclared, TableDropped, IndexDeclared, IndexDropped, HaveSameTables, before, keeps_tables}

abbrev schema_of : RelationOutline → Schema
schema_of s = s.schema

-- one relation is another one of the same columns
same_schemas : (change : RelationOutline → RelationOutline) → ((s : RelationOutline) → schema_of (change s) ≡ schema_of s) → (n : ℕ) (relations : List RelationOutline)
    → map schema_of (changed_at change n relations) ≡ map schema_of relations
same_schemas change same n relations = at (slice_get relations n) refl
  where
    at : (o : Option RelationOutline) → slice_get relations n ≡ o → map schema_of (option_map_or (λ s. slice_set relations n (change s)) o relations) ≡ map schema_of relations
    at None e = refl
    at (Some s) e = map_set_alike schema_of relations n s (change s) e (same s)

pub before_keeps : (c : Change) (o : Outline) → keeps_tables c ≡ true → HaveSameTables o (before c o)
before_keeps (Came n refs) o keeps = record { names = refl; schemas = same_schemas _ (λ s. refl) n o.relations }
before_keeps (Went n refs) o keeps = record { names = refl; schemas = same_schemas _ (λ s. refl) n o.relations }
before_keeps (Updated n refs width cells) o keeps = record { names = refl; schemas = same_schemas _ (λ s. refl) n o.relations }
before_keeps (TableDeclared gained) o keeps = absurd (false≢true keeps)
before_keeps (TableDropped table) o keeps = absurd (false≢true keeps)
before_keeps (IndexDeclared n index) o keeps = record { names = refl; schemas = same_schemas _ (λ s. refl) n o.relations }
before_keeps (IndexDropped n index) o keeps = record { names = refl; schemas = same_schemas _ (λ s. refl) n o.relations }

pub tables_as_well : (o p q : Outline) → HaveSameTables o p → HaveSameTables p q → HaveSameTables o q
tables_as_well o p q first then = record { names = then.names ∙ first.names; schemas = then.schemas ∙ first.schemas }

-- a table of these columns, without rows and indexes
abbrev bare : List ℕ × Schema → Table
bare t = record { name = t.0; columns = t.1.columns; indexes = []; rows = [] }

bare_tables : (all : List RelationState) (names : List (List ℕ)) (relations : List RelationState)
    → map emptied (map (λ t. table_of all t.0 t.1) (zip names relations)) ≡ map bare (zip names (map schema_of (map relation_outline relations)))
unfolding table_of
bare_tables all [] relations = refl
bare_tables all (name ∷ names) [] = refl
bare_tables all (name ∷ names) (s ∷ relations) = λ i. bare (name, s.schema) ∷ bare_tables all names relations i

-- the databases of catalogs whose outlines have the same tables differ in rows and indexes alone
pub emptied_alike : (c d : CatalogState) → HaveSameTables (outline_of c) (outline_of d) → map emptied (database_of d) ≡ map emptied (database_of c)
unfolding database_of
emptied_alike c d same =
    bare_tables d.relations d.names d.relations
    ∙ (λ i. map bare (zip (same.names i) (same.schemas i)))
    ∙ sym (bare_tables c.relations c.names c.relations)
