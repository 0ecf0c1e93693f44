-- What a catalog tells of the indexes of its tables.
use Rattle.std.proofs.Common.{◌≡◌, ℕ, ◌<◌, ◌≤◌, ◌||◌, ◌⊎◌, ◌==◌, true, false, IsTrue, Bool, List, ◌∷◌, Some, length, map, filter, not, refl, sym, ap, ◌∙◌, subst, arith, inl, inr, slice_get}
use Rattle.std.specs.List.{Contains, list_any}
use Rattle.std.specs.Option.{option_map, option_and_then}
use Rattle.std.specs.FinMap.{len}
use Rattle.std.proofs.lemmas.Bool.{eq-eqb}
use Rattle.std.proofs.lemmas.List.{length-map}
use Rattle.std.proofs.lemmas.Option.{slice_get-map, slice_get_within, get_or_from_slice_get}
use Rattle.std.proofs.lemmas.List.Folds.{list_any_at}
use Rattle.common_lemmas.proofs.Elements.{Contains-filter, Contains-map, Contains-cons_cases}
use Rattle.common_lemmas.proofs.Tests.{list_any-map}
use Rattle.plain_tables.specs.References.{all_indexes}
use Rattle.plain_tables.specs.Tables.{Table}
use Rattle.lin_hash.specs.Shape.{HasHashShape}
use Rattle.lin_hash.specs.declared.shape.HashShape.{HashShape}
use Rattle.mm_relation.specs.declared.numbers.DeclaredIndex.{DeclaredIndex}
use Rattle.mm_relation.specs.Changes.{HasTree, HasHash, entries_of, buckets_of}
use Rattle.mm_relation.specs.State.{RelationState, IsKept, is_tree}
use Rattle.mm_catalog.specs.Consistent.{IsConsistent}
use Rattle.plain_tables.specs.declared.schema.IndexKind.TheVariants.{Tree, Hash}
use Rattle.mm_catalog.specs.Indexes.{key_tree, TellsHash}
use Rattle.mm_catalog.specs.Seen.{database_of, plain_index, table_of}
use Rattle.mm_catalog.specs.State.{CatalogState}
use Rattle.mm_catalog.proofs.Among.{among_at, named_at}
use Rattle.mm_catalog.proofs.Tables.{database-get}
use Rattle.mm_catalog.proofs.TreeShapes.{database-rows}

-- where these are the columns of the declarations that pass a test, each has its own
any_declared : {B : Type 0} (test : DeclaredIndex → Bool) (declared : List DeclaredIndex) (all : List (ℕ × B)) → map (λ t. t.0) all ≡ map (λ d. d.column.0) (filter test declared)
    → (d : DeclaredIndex) → Contains declared d → test d ≡ true → list_any (λ t. t.0 == d.column.0) all ≡ true
any_declared test declared all same d held passes =
    let (place, within, at) = subst (λ columns. Contains columns d.column.0) (sym same) (Contains-map (λ d. d.column.0) (filter test declared) d (Contains-filter test declared d held passes)) in
    sym (list_any-map (λ c. c == d.column.0) (λ t. t.0) all)
    ∙ list_any_at (λ c. c == d.column.0) (map (λ t. t.0) all) place d.column.0 within (eq-eqb _ d.column.0 at)

-- so an index stands where one is declared
pub declared_has_tree : (s : RelationState) → IsKept s → (d : DeclaredIndex) → Contains s.declared d → is_tree d.kind ≡ true → HasTree s d.column.0
declared_has_tree s kept d held tree =
    let found = any_declared (λ d. is_tree d.kind) s.declared s.trees kept.trees d held tree in
    elim (d.column.0 == 0) as (λ b. IsTrue (b || list_any (λ t. t.0 == d.column.0) s.trees)) [ true ↦ refl | false ↦ found ]

pub declared_has_hash : (s : RelationState) → IsKept s → (d : DeclaredIndex) → Contains s.declared d → not (is_tree d.kind) ≡ true → HasHash s d.column.0
declared_has_hash s kept d held hash = any_declared (λ d. not (is_tree d.kind)) s.declared s.hashes kept.hashes d held hash

module _ (c : CatalogState) (ok : IsConsistent c) (n : ℕ) (s : RelationState) (there : slice_get c.relations n ≡ Some s) where
  -- the indexes of a table are those of its relation
  table_indexes : (t : Table) × (slice_get (database_of c) n ≡ Some t) × (t.indexes ≡ map plain_index s.declared)
  unfolding table_of
  table_indexes =
      let name = named_at c ok n (slice_get_within c.relations n s there) in
      (table_of c.relations name.0 s, database-get c ok.named n name.0 s name.1 there, refl)

  pub numbered_within : (number : ℕ) → ((t : Table) → slice_get (database_of c) n ≡ Some t → number < length (all_indexes t)) → number ≤ length s.declared
  numbered_within number within =
      let t = table_indexes in
      let inside = within t.0 t.1 in
      let same = ap length t.2 in
      let as_many = length-map s.declared plain_index in
      omega (arith, inside, same, as_many)

  module _ (number : ℕ) (d : DeclaredIndex) (is : slice_get (key_tree ∷ s.declared) number ≡ Some d) where
    pub numbered : option_and_then (λ (t : Table). slice_get (all_indexes t) number) (slice_get (database_of c) n) ≡ Some (plain_index d)
    numbered =
        let t = table_indexes in
        ap (option_and_then (λ (t : Table). slice_get (all_indexes t) number)) t.1
        ∙ ap (λ indexes. slice_get ((0, Tree) ∷ indexes) number) t.2
        ∙ slice_get-map plain_index (key_tree ∷ s.declared) number ∙ ap (option_map plain_index) is

    held : (d ≡ key_tree) ⊎ Contains s.declared d
    held = Contains-cons_cases key_tree s.declared d (number, slice_get_within (key_tree ∷ s.declared) number d is, get_or_from_slice_get (key_tree ∷ s.declared) number d d is)

    pub numbered_has_tree : d.kind ≡ Tree → HasTree s d.column.0
    numbered_has_tree kind = elim held [
      | inl key ↦ rw key refl
      | inr declared ↦ declared_has_tree s (among_at c ok n s there).kept d declared (ap is_tree kind)
    ]

    pub numbered_has_hash : d.kind ≡ Hash → HasHash s d.column.0
    numbered_has_hash kind = elim held [
      | inl key ↦ absurd (let same : Tree ≡ Hash = sym (ap (λ d. d.kind) key) ∙ kind in cc)
      | inr declared ↦ declared_has_hash s (among_at c ok n s there).kept d declared (ap (λ k. not (is_tree k)) kind)
    ]

  -- and the hash on a column has each row
  pub tells_hash : (column : ℕ) (shape : HashShape) → HasHash s column → HasHashShape (entries_of s column) shape → shape.buckets ≡ buckets_of s column → shape.items ≡ len s.rows → TellsHash c n column shape
  tells_hash column shape on told buckets items = record {
    relation = s;
    there = there;
    on_column = on;
    told = told;
    buckets = buckets;
    rows = database-rows c ok.named n s there ∙ ap (λ (rows : ℕ). Some rows) ((among_at c ok n s there).kept.keyed.lists.count ∙ sym items);
  }
