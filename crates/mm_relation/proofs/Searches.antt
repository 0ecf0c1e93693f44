-- The tree and the hash on a column, and how often a search of a tree compares.
use Rattle.std.proofs.Common.{◌≡◌, ◌+◌, ◌==◌, ℕ, suc, List, [], ◌∷◌, inl, inr, true, false, IsTrue, ◌||◌, refl, sym, ap, ◌∙◌, arith, subst, length}
use Rattle.std.specs.List.{All, list_any}
use Rattle.std.specs.FinMap.{len}
use Rattle.std.proofs.lemmas.Bool.{cases_Bool, eqb-true}
use Rattle.std.proofs.lemmas.List.{length-map}
use Rattle.part_raw.specs.declared.tuple_ref.TupleRef.{TupleRef}
use Rattle.part_raw.specs.Store.{Tuples}
use Rattle.mm_index.proofs.Bags.{length-same_bag}
use Rattle.ttree.specs.Held.{height}
use Rattle.ttree.specs.Shape.{binary_digits}
use Rattle.mm_relation.specs.Rows.{Row}
use Rattle.mm_relation.specs.Reading.{Keys}
use Rattle.mm_relation.specs.Searching.{most_compared}
use Rattle.mm_relation.specs.State.{RelationState, RowTree, tree_list, TreeServes, HashServes, IsKept, IsCurrent, HasColumn, tree_of, HasHashColumn, entries_on}
use Rattle.mm_relation.specs.Changes.{HasTree, tree_on, HasHash, entries_of}

pub digits_of_32 : binary_digits 32 ≡ 6
unfolding binary_digits
digits_of_32 = refl

-- what a search of a tree asks at most is told by its height
pub most_of : (t on : RowTree) → t ≡ on → height t + binary_digits 32 ≡ most_compared on
most_of t on same = let e : height t ≡ height on = ap (λ (u : RowTree). height u) same in omega (arith, digits_of_32)

-- a tree that serves references lists as many
served_length : (keys : Keys) (rows : Tuples Row) (refs : List TupleRef) (column : ℕ) (trees : List (ℕ × RowTree)) → HasColumn column trees
    → All (TreeServes keys rows refs) trees → length (tree_list (tree_of column trees)) ≡ length refs
served_length keys rows refs column [] has serve = cc
served_length keys rows refs column (t ∷ trees) has serve =
    elim (cases_Bool (t.0 == column)) [
      | inl e ↦ rw e (length-same_bag (tree_list t.1) refs (serve 0 t (omega arith)).bag)
      | inr f ↦ rw f (served_length keys rows refs column trees (rw f at has) (λ k d l. serve (suc k) d (omega (arith, l))))
    ]

-- and so has a hash
served_entries : (keys : Keys) (rows : Tuples Row) (refs : List TupleRef) (column : ℕ) (hashes : List (ℕ × List (ℕ × TupleRef))) → HasHashColumn column hashes
    → All (HashServes keys rows refs) hashes → length (entries_on column hashes) ≡ length refs
served_entries keys rows refs column [] has serve = cc
served_entries keys rows refs column (h ∷ hashes) has serve =
    elim (cases_Bool (h.0 == column)) [
      | inl e ↦ rw e (length-same_bag h.1 _ (serve 0 h (omega arith)) ∙ length-map refs _)
      | inr f ↦ rw f (served_entries keys rows refs column hashes (rw f at has) (λ k d l. serve (suc k) d (omega (arith, l))))
    ]

-- the tree of the key lists each row
pub key_length : (s : RelationState) → IsKept s → (column : ℕ) → column ≡ 0 → length (tree_list (tree_on s column)) ≡ len s.rows
key_length s kept column e = subst (λ c. length (tree_list (tree_on s c)) ≡ len s.rows) (sym e) kept.keyed.lists.count

-- the tree on a column lists each row
pub tree_length : (keys : Keys) (s : RelationState) → IsKept s → IsCurrent keys s → (column : ℕ) → HasTree s column → length (tree_list (tree_on s column)) ≡ len s.rows
tree_length keys s kept current column has = elim (cases_Bool (column == 0)) [
  | inl e ↦ rw e kept.keyed.lists.count
  | inr f ↦ rw f (served_length keys s.rows (tree_list s.by_key) column s.trees (subst (λ b. IsTrue (b || list_any (λ t. t.0 == column) s.trees)) f has) current.trees ∙ kept.keyed.lists.count)
]

-- the hash on a column has each row
pub hash_length : (keys : Keys) (s : RelationState) → IsKept s → IsCurrent keys s → (column : ℕ) → HasHash s column → length (entries_of s column) ≡ len s.rows
hash_length keys s kept current column has = served_entries keys s.rows (tree_list s.by_key) column s.hashes has current.hashes ∙ kept.keyed.lists.count

-- a column with a tree that is not the key's has a declared one
pub declared_tree : (s : RelationState) (column : ℕ) → (column ≡ 0 → ⊥) → HasTree s column → HasColumn column s.trees
declared_tree s column beside has = elim (column == 0) as (λ b. (column == 0) ≡ b → HasColumn column s.trees) [
  | true ↦ λ e. absurd (beside (eqb-true column 0 e))
  | false ↦ λ e. subst (λ b. IsTrue (b || list_any (λ t. t.0 == column) s.trees)) e has
] refl
