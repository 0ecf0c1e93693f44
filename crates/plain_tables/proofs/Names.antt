-- Names: where none is repeated, they differ.
use Rattle.std.proofs.Common.{◌≡◌, ◌≢◌, ℕ, false, List, [], ◌∷◌}
use Rattle.std.specs.List.{All, AllPairs, list_any}
use Rattle.std.specs.Str.{bytes_eq}
use Rattle.std.proofs.lemmas.Bool.{or_parts}
use Rattle.std.proofs.lemmas.List.Elements.{All-nil, All-cons}
use Rattle.std.proofs.lemmas.List.Kept.{AllPairs-cons}
use Rattle.plain_tables.proofs.FirstWords.{different}
use Rattle.plain_tables.specs.Effects.{repeats, column_names}
use Rattle.plain_tables.specs.declared.schema.Column.{Column}
use Rattle.common_lemmas.proofs.Pairs.{AllPairs-nil}

name_differs : (name : List ℕ) (columns : List Column) → list_any (bytes_eq name) (column_names columns) ≡ false
    → All (λ c. name ≢ c.name) columns
name_differs name [] h = All-nil (λ c. name ≢ c.name)
name_differs name (c ∷ columns) h =
    let parts = or_parts (bytes_eq name c.name) (list_any (bytes_eq name) (column_names columns)) h in
    All-cons (λ d. name ≢ d.name) c columns (different name c.name parts.0) (name_differs name columns parts.1)

-- where no name is repeated, names differ
pub columns_differ : (columns : List Column) → repeats bytes_eq (column_names columns) ≡ false → AllPairs (λ c d. c.name ≢ d.name) columns
columns_differ [] h = AllPairs-nil (λ c d. c.name ≢ d.name)
columns_differ (c ∷ columns) h =
    let parts = or_parts (list_any (bytes_eq c.name) (column_names columns)) (repeats bytes_eq (column_names columns)) h in
    AllPairs-cons (λ d e. d.name ≢ e.name) c columns (name_differs c.name columns parts.0) (columns_differ columns parts.1)
