-- What it does to a relation to have an index taken out whole, and put back.
use Rattle.std.specs.Prelude.{Bool, true, false, ◌≡◌, ℕ, ◌<◌, ◌≤◌, ◌∷◌, ◌++◌, List, All, filter, insert, length, refl, take}
use Rattle.std.specs.Coded.{Coded, code_by, coded×, coded_ℕ}
use Rattle.plain_tables.specs.declared.schema.IndexKind.{IndexKind}
use Rattle.plain_tables.specs.declared.schema.IndexKind.TheVariants.{Tree, Hash}
use Rattle.mm_relation.specs.declared.numbers.DeclaredIndex.{DeclaredIndex}
use Rattle.mm_relation.specs.declared.index.IndexOn.{IndexOn}
use Rattle.mm_relation.specs.Declaring.{is_kind, without_index}
use Rattle.mm_relation.specs.Indexes.{Serves, buckets_in, declaration_of, entries_in, kind_in, seen, tree_in}
use Rattle.mm_relation.specs.Owing.{IsReady}
use Rattle.mm_relation.specs.Reading.{Keys}
use Rattle.mm_relation.specs.State.{RelationState, IsCurrent, tree_list}

-- Its place among the declared indexes; the index itself, with the memory that it has; and how many declared indexes there is
-- memory for once it is back.
pub record DroppedState : Type 0 where
  pub place : ℕ
  pub on : IndexOn
  pub places : ℕ

abbrev pub dropped_code : Coded IndexOn → Coded DroppedState
dropped_code on =
    code_by (ℕ × (IndexOn × ℕ)) (coded× coded_ℕ (coded× on coded_ℕ)) (λ d. (d.place, (d.on, d.places))) (λ p. record { place = p.0; on = p.1.0; places = p.1.1 }) (λ _. refl)

-- how many of these declarations are of a kind
abbrev pub count_of : IndexKind → List DeclaredIndex → ℕ
count_of kind declared = length (filter (λ d. is_kind kind d.kind) declared)

-- the relation with an index more, at a place among those of its kind
abbrev pub with_of : IndexKind → ℕ → IndexOn → RelationState → RelationState
with_of Tree place on s = record s { trees = insert s.trees place (on.column.0, tree_in on.index) }
with_of Hash place on s = record s { hashes = insert s.hashes place (on.column.0, entries_in on.index); buckets = insert s.buckets place (on.column.0, buckets_in on.index) }

-- the index is declared again, at its place among the others, and nothing else changed
abbrev pub with_index : RelationState → DroppedState → RelationState
with_index s d =
    with_of (kind_in d.on.index) (count_of (kind_in d.on.index) (take d.place s.declared)) d.on
    (record s { declared = insert s.declared d.place (declaration_of d.on) })

-- the relation has the index's column and place, there is memory for its declaration, and it can take in the rows that are owed
pub record HasPlaceFor (s : RelationState) (d : DroppedState) : Type 0 where
  pub column : d.on.column.0 < length s.targets
  pub place : d.place ≤ length s.declared
  pub places : length s.declared < d.places
  pub ready : IsReady s.owed s.hidden d.on

-- under these keys the index serves the rows
abbrev pub IsServedBy : Keys → RelationState → DroppedState → Type 0
IsServedBy keys s d = Serves keys s.rows (tree_list s.by_key) (seen d.on)

-- The first such index is taken out, and nothing else changed. Put back right away, the relation is as it was. It has a place for the
-- index, which serves the rows.
pub record IsTaken (old new : RelationState) (index : DeclaredIndex) (d : DroppedState) : Type 0 where
  pub taken : new ≡ without_index old index
  pub declared : declaration_of d.on ≡ index
  pub back : with_index new d ≡ old
  pub fits : HasPlaceFor new d
  pub served : (keys : Keys) → IsCurrent keys old → IsServedBy keys new d
  pub current : (keys : Keys) → IsCurrent keys old → IsCurrent keys new

-- the first element that passes a test, and its place
pub record IsFirst {A : Type 0} (test : A → Bool) (xs : List A) (place : ℕ) (x : A) : Type 0 where
  pub front : List A
  pub back : List A
  pub split : xs ≡ front ++ x ∷ back
  pub at : length front ≡ place
  pub apart : All (λ y. test y ≡ false) front
  pub passes : test x ≡ true
