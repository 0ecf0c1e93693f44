-- What a call on one relation of a catalog takes from it: the relation among the others, its name and its table.
use Rattle.std.proofs.Common.{◌≡◌, ℕ, ◌<◌, List, [], ◌∷◌, Option, Some, IsSome, sym, ap, ◌∙◌, subst, arith, length}
use Rattle.std.specs.List.{slice_get}
use Rattle.std.proofs.lemmas.Option.{slice_get_within, slice_get-map, same_Some}
use Rattle.common_lemmas.proofs.Places.{slice_get-inside}
use Rattle.common_lemmas.proofs.Elements.{All-at}
use Rattle.plain_tables.specs.Tables.{Table}
use Rattle.mm_relation.specs.State.{RelationState, IsCurrent}
use Rattle.mm_catalog.specs.State.{CatalogState}
use Rattle.mm_catalog.specs.Seen.{database_of, table_of}
use Rattle.mm_catalog.specs.Consistent.{IsAmong, IsConsistent}
use Rattle.mm_catalog.specs.Changes.{IsCurrentAt}
use Rattle.mm_catalog.proofs.Tables.{database-length, database-get}
use Rattle.mm_catalog.proofs.Outlines.{keys_before}
use Rattle.mm_catalog.proofs.Back.{lead_back}
use Rattle.std.specs.Option.{option_and_then, option_map}
use Rattle.std.proofs.lemmas.Bool.{false≢true}
use Rattle.plain_tables.specs.References.{IsSoundTable, own_type}
use Rattle.plain_tables.specs.declared.schema.Column.{Column}
use Rattle.mm_catalog.specs.Linked.{target_at, target_of}

module _ (c : CatalogState) (ok : IsConsistent c) where
  pub among_at : (n : ℕ) (s : RelationState) → slice_get c.relations n ≡ Some s → IsAmong c.names c.relations s
  among_at n s there = All-at (IsAmong c.names c.relations) c.relations n s ok.each there

  pub current_at : (n : ℕ) → IsCurrentAt c.relations n
  current_at n s there =
      subst (λ keys. IsCurrent keys s) (sym (keys_before s.targets c.relations n (lead_back c ok n s there))) (among_at n s there).current

  pub there_at : (n : ℕ) (table : Table) → slice_get (database_of c) n ≡ Some table → n < length c.relations
  there_at n table at = omega (arith, slice_get_within (database_of c) n table at, database-length c ok.named)

  -- the name and the relation of a table
  pub named_at : (n : ℕ) → n < length c.relations → (name : List ℕ) × (slice_get c.names n ≡ Some name)
  named_at n within = slice_get-inside c.names n (omega (arith, within, ok.named))

  pub table_at : (n : ℕ) (name : List ℕ) (s : RelationState) (table : Table) → slice_get c.names n ≡ Some name → slice_get c.relations n ≡ Some s → slice_get (database_of c) n ≡ Some table → table ≡ table_of c.relations name s
  table_at n name s table named there at = same_Some table (table_of c.relations name s) (sym at ∙ database-get c ok.named n name s named there)

  pub column_at : (n column : ℕ) (table : Table) → slice_get (database_of c) n ≡ Some table → column < length table.columns → (s : RelationState) → slice_get c.relations n ≡ Some s → column < length s.targets
  unfolding table_of
  column_at n column table at within s there =
      let name = named_at n (there_at n table at) in
      let wide : length table.columns ≡ length s.schema.columns = ap (λ (t : Table). length t.columns) (table_at n name.0 s table name.1 there at) in
      omega (arith, within, wide, (among_at n s there).kept.width)

  -- the first column has a type of its own
  pub key_typed : (n : ℕ) (s : RelationState) → slice_get c.relations n ≡ Some s → IsSome (option_and_then (λ (column : Column). own_type column.kind) (slice_get s.schema.columns 0))
  unfolding table_of
  key_typed n s there =
      let name = named_at n (slice_get_within c.relations n s there) in
      let sound : IsSoundTable c.limits (table_of c.relations name.0 s) = All-at (IsSoundTable c.limits) (database_of c) n (table_of c.relations name.0 s) ok.sound.each (database-get c ok.named n name.0 s name.1 there) in
      sound.keyed

  -- so there is a column
  pub some_columns : (n : ℕ) (s : RelationState) → slice_get c.relations n ≡ Some s → 0 < length s.schema.columns
  some_columns n s there = first s.schema.columns (key_typed n s there)
    where
      first : (columns : List Column) → IsSome (option_and_then (λ (column : Column). own_type column.kind) (slice_get columns 0)) → 0 < length columns
      first [] h = absurd (false≢true h)
      first (column ∷ columns) h = omega arith

  -- where a column's links lead
  pub target_column : (n : ℕ) (s : RelationState) (j : ℕ) (column : Column) → slice_get c.relations n ≡ Some s → slice_get s.schema.columns j ≡ Some column → target_at s.targets j ≡ target_of c.names column
  target_column n s j column there at =
      ap (λ targets. target_at targets j) (among_at n s there).targets
      ∙ ap (option_and_then (λ (t : Option ℕ). t)) (slice_get-map (target_of c.names) s.schema.columns j ∙ ap (option_map (target_of c.names)) at)
