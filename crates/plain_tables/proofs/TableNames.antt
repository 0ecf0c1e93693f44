-- Tables by name, where each is seen as another of the same name.
use Rattle.std.proofs.Common.{◌≡◌, ◌+◌, ℕ, map, List, [], ◌∷◌, inl, inr, ap, ◌∙◌, refl}
use Rattle.std.specs.List.{position_or_len}
use Rattle.std.specs.Option.{option_map}
use Rattle.std.specs.Str.{bytes_eq}
use Rattle.std.proofs.lemmas.Bool.{cases_Bool}
use Rattle.plain_tables.specs.Tables.{Table}
use Rattle.plain_tables.specs.Databases.{Database, is_named, table_named}

module _ (f : Table → Table) (same : (t : Table) → (f t).name ≡ t.name) (name : List ℕ) where
  as_named : (t : Table) → is_named name (f t) ≡ is_named name t
  as_named t = ap (λ n. bytes_eq n name) (same t)

  pub table_named-map : (tables : Database) → table_named name (map f tables) ≡ option_map f (table_named name tables)
  table_named-map [] = refl
  table_named-map (t ∷ tables) =
      elim (cases_Bool (is_named name t)) [
        | inl e ↦ rw (as_named t ∙ e, e) refl
        | inr e ↦ rw (as_named t ∙ e, e) (table_named-map tables)
      ]

  pub place-map : (tables : Database) → position_or_len (is_named name) (map f tables) ≡ position_or_len (is_named name) tables
  place-map [] = refl
  place-map (t ∷ tables) =
      elim (cases_Bool (is_named name t)) [
        | inl e ↦ rw (as_named t ∙ e, e) refl
        | inr e ↦ rw (as_named t ∙ e, e) (ap (λ n. 1 + n) (place-map tables))
      ]
