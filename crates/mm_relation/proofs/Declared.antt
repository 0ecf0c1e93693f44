-- What a relation keeps as it is made, and as indexes of it are declared and dropped.
use Rattle.std.proofs.Common.{Bool, true, false, cond, not, Result, Ok, Err, OnOk, OnErr, ◌&&◌, ◌||◌, ◌==◌, ◌≡◌, ◌<◌, ℕ, List, [], ◌∷◌, ◌++◌, Option, IsSome, is_some, refl, sym, ap, ◌∙◌, arith, length, map, filter}
use Rattle.std.proofs.lemmas.Bool.{and_parts, not_from_true, not-true}
use Rattle.std.proofs.lemmas.List.{map-append, append-nil}
use Rattle.std.proofs.lemmas.List.Elements.{filter-append, All-push}
use Rattle.std.specs.FinMap.{get, len, empty, len-empty}
use Rattle.std.specs.List.{list_any}
use Rattle.common_lemmas.proofs.Tests.{and_true, and_false, list_any-map}
use Rattle.part_raw.proofs.Tuples.{held_at_first}
use Rattle.part_raw.specs.TupleRefs.{ref_cmp}
use Rattle.part_raw.specs.declared.tuple_ref.TupleRef.{TupleRef}
use Rattle.part_raw.specs.Store.{Tuples}
use Rattle.plain_tables.specs.declared.schema.Schema.{Schema}
use Rattle.plain_tables.specs.declared.schema.IndexKind.{IndexKind}
use Rattle.plain_tables.specs.declared.schema.IndexKind.TheVariants.{Tree, Hash}
use Rattle.mm_relation.specs.Rows.{Aside, Row}
use Rattle.plain_tables.specs.declared.numbers.ColumnNumber.{ColumnNumber}
use Rattle.mm_relation.specs.declared.numbers.DeclaredIndex.{DeclaredIndex}
use Rattle.mm_relation.specs.declared.index.Index.{Index}
use Rattle.mm_relation.specs.declared.index.IndexOn.{IndexOn}
use Rattle.mm_relation.specs.Reading.{Keys}
use Rattle.mm_relation.specs.State.{RowTree, tree_list, IsKept, IsCurrent, TreeServes, HashServes, columns_with_tree, columns_with_hash, is_tree}
use Rattle.mm_relation.specs.Indexes.{Indexes, SeenIndex, seen, tree_in, entries_in, buckets_in, declaration_of, trees_of, hashes_of, all_buckets, Serve, Serves}
use Rattle.mm_relation.specs.Declaring.{declaration, IsAdded, IsDeclaredOf, without_first, is_index, without_of}
use Rattle.mm_relation.specs.Changes.{has_declared_on}
use Rattle.mm_relation.specs.Seen.{state}
use Rattle.mm_relation.proofs.Dropping.{without_first-map, All-without_first, filter-without_first, filter-without_other}
use Rattle.mm_relation.proofs.Keeping.{tree_columns, hash_columns, trees_served, hashes_served}
use Rattle.ttree.specs.Held.{empty as leafless}

-- what the indexes of a kind show, of which one more is the last
pushed_of : {B : Type 0} (f : SeenIndex → B) (p : SeenIndex → Bool) (all new : Indexes) (on : IndexOn) → new ≡ all ++ on ∷ [] → map f (filter p (map seen new)) ≡ map f (filter p (map seen all)) ++ map f (filter p (seen on ∷ []))
pushed_of f p all new on e =
    ap (λ (xs : Indexes). map f (filter p (map seen xs))) e
    ∙ ap (λ ss. map f (filter p ss)) (map-append seen all (on ∷ []))
    ∙ ap (map f) (filter-append p (map seen all) (seen on ∷ [])) ∙ map-append f (filter p (map seen all)) (filter p (seen on ∷ []))

-- what an index shows under a declaration
abbrev shown_as : DeclaredIndex → Index → SeenIndex
shown_as d index = record { declaration = d; tree = tree_in index; entries = entries_in index; buckets = buckets_in index }

-- what the elements that pass two tests tell, without the first, and what the others tell
first_gone : {A B : Type 0} (f : A → B) (at : B → Bool) (kind : A → Bool) (xs : List A) → map f (filter kind (without_first (λ x. at (f x) && kind x) xs)) ≡ without_first at (map f (filter kind xs))
first_gone f at kind xs = ap (map f) (filter-without_first (λ x. at (f x)) kind xs) ∙ sym (without_first-map at f (filter kind xs))

module _ (aside : Aside) (schema : Schema) (targets : List (Option ℕ)) (declared : List DeclaredIndex) (rows : Tuples Row) (tree : RowTree) (all : Indexes) (kept : IsKept (state aside schema targets declared rows tree all)) where
  pub current_with : (keys : Keys) (others : List DeclaredIndex) (new : Indexes) → IsCurrent keys (state aside schema targets declared rows tree all) → Serve keys rows (tree_list tree) new → IsCurrent keys (state aside schema targets others rows tree new)
  current_with keys others new current serves = record { readable = current.readable; trees = trees_served keys rows (tree_list tree) (map seen new) serves; hashes = hashes_served keys rows (tree_list tree) (map seen new) serves }

  -- what the hashes show stays where a tree is declared or dropped, and has one more or one less where a hash is
  module _ {B : Type 0} (X : SeenIndex → B) where
    abbrev of_hashes : List SeenIndex → List (ℕ × B)
    of_hashes ss = map (λ s. (s.declaration.column.0, X s)) (filter (λ s. not (is_tree s.declaration.kind)) ss)

    shown_more : (new : Indexes) (on : IndexOn) (d : DeclaredIndex) → declaration_of on ≡ d → new ≡ all ++ on ∷ [] → of_hashes (map seen new) ≡ of_hashes (map seen all) ++ of_hashes (shown_as d on.index ∷ [])
    shown_more new on d same e =
        pushed_of (λ (s : SeenIndex). (s.declaration.column.0, X s)) (λ s. not (is_tree s.declaration.kind)) all new on e
        ∙ (λ i. of_hashes (map seen all) ++ of_hashes (shown_as (same i) on.index ∷ []))

  pub declared_added : (kind : IndexKind) (column : ColumnNumber) (new : Indexes) → IsAdded (declaration column kind) all new → IsDeclaredOf kind column (state aside schema targets declared rows tree all) (state aside schema targets (declared ++ declaration column kind ∷ []) rows tree new)
  declared_added Tree column new (on, same, e) =
      let trees : trees_of (map seen new) ≡ trees_of (map seen all) ++ (column.0, tree_in on.index) ∷ [] =
      pushed_of (λ (s : SeenIndex). (s.declaration.column.0, s.tree)) (λ s. is_tree s.declaration.kind) all new on e
      ∙ (λ i. trees_of (map seen all) ++ trees_of (shown_as (same i) on.index ∷ [])) in
      let hashes : hashes_of (map seen new) ≡ hashes_of (map seen all) = shown_more (λ s. s.entries) new on (declaration column Tree) same e ∙ append-nil _ in
      let buckets : all_buckets (map seen new) ≡ all_buckets (map seen all) = shown_more (λ s. s.buckets) new on (declaration column Tree) same e ∙ append-nil _ in
      (tree_in on.index, λ i. record (state aside schema targets (declared ++ declaration column Tree ∷ []) rows tree all) { trees = trees i; hashes = hashes i; buckets = buckets i })
  declared_added Hash column new (on, same, e) =
      let trees : trees_of (map seen new) ≡ trees_of (map seen all) =
      pushed_of (λ (s : SeenIndex). (s.declaration.column.0, s.tree)) (λ s. is_tree s.declaration.kind) all new on e
      ∙ (λ i. trees_of (map seen all) ++ trees_of (shown_as (same i) on.index ∷ [])) ∙ append-nil _ in
      let hashes : hashes_of (map seen new) ≡ hashes_of (map seen all) ++ (column.0, entries_in on.index) ∷ [] = shown_more (λ s. s.entries) new on (declaration column Hash) same e in
      let buckets : all_buckets (map seen new) ≡ all_buckets (map seen all) ++ (column.0, buckets_in on.index) ∷ [] = shown_more (λ s. s.buckets) new on (declaration column Hash) same e in
      (entries_in on.index, buckets_in on.index, λ i. record (state aside schema targets (declared ++ declaration column Hash ∷ []) rows tree all) { trees = trees i; hashes = hashes i; buckets = buckets i })

  -- an index fewer
  abbrev without : DeclaredIndex → Indexes
  without index = without_first (λ on. is_index index (declaration_of on)) all

  fewer_columns : (index : DeclaredIndex) (columns : List DeclaredIndex → List ℕ) (less : List ℕ → List ℕ) → ((ds : List DeclaredIndex) → columns (without_first (is_index index) ds) ≡ less (columns ds)) → columns (map declaration_of all) ≡ columns declared → columns (map declaration_of (without index)) ≡ columns (without_first (is_index index) declared)
  fewer_columns index columns less each before =
      ap columns (sym (without_first-map (is_index index) declaration_of all)) ∙ each (map declaration_of all) ∙ ap less before ∙ sym (each declared)

  no_hash_like : (column : ColumnNumber) (d : DeclaredIndex) → is_index (declaration column Tree) d ≡ true → not (is_tree d.kind) ≡ false
  no_hash_like column d e = not_from_true (is_tree d.kind) (and_parts (d.column.0 == column.0) (is_tree d.kind) e).1

  no_tree_like : (column : ColumnNumber) (d : DeclaredIndex) → is_index (declaration column Hash) d ≡ true → is_tree d.kind ≡ false
  no_tree_like column d e = not-true (is_tree d.kind) (and_parts (d.column.0 == column.0) (not (is_tree d.kind)) e).1

  pub kept_without : (kind : IndexKind) (column : ColumnNumber) → IsKept (state aside schema targets (without_first (is_index (declaration column kind)) declared) rows tree (without (declaration column kind)))
  kept_without Tree column = record {
    keyed = kept.keyed;
    few = kept.few;
    width = kept.width;
    trees =
        tree_columns (without (declaration column Tree))
        ∙ fewer_columns (declaration column Tree) columns_with_tree (without_first (λ n. n == column.0))
        (first_gone (λ (d : DeclaredIndex). d.column.0) (λ n. n == column.0) (λ d. is_tree d.kind)) (sym (tree_columns all) ∙ kept.trees);
    hashes =
        hash_columns (without (declaration column Tree))
        ∙ fewer_columns (declaration column Tree) columns_with_hash (λ cs. cs)
        (λ ds. ap (map (λ (d : DeclaredIndex). d.column.0)) (filter-without_other (is_index (declaration column Tree)) (λ d. not (is_tree d.kind)) ds (no_hash_like column))) (sym (hash_columns all) ∙ kept.hashes);
    within = All-without_first (λ d. d.column.0 < length targets) (is_index (declaration column Tree)) declared kept.within;
  }
  kept_without Hash column = record {
    keyed = kept.keyed;
    few = kept.few;
    width = kept.width;
    trees =
        tree_columns (without (declaration column Hash))
        ∙ fewer_columns (declaration column Hash) columns_with_tree (λ cs. cs)
        (λ ds. ap (map (λ (d : DeclaredIndex). d.column.0)) (filter-without_other (is_index (declaration column Hash)) (λ d. is_tree d.kind) ds (no_tree_like column))) (sym (tree_columns all) ∙ kept.trees);
    hashes =
        hash_columns (without (declaration column Hash))
        ∙ fewer_columns (declaration column Hash) columns_with_hash (without_first (λ n. n == column.0))
        (first_gone (λ (d : DeclaredIndex). d.column.0) (λ n. n == column.0) (λ d. not (is_tree d.kind))) (sym (hash_columns all) ∙ kept.hashes);
    within = All-without_first (λ d. d.column.0 < length targets) (is_index (declaration column Hash)) declared kept.within;
  }

  seen_less : (index : DeclaredIndex) → map seen (without index) ≡ without_first (λ s. is_index index s.declaration) (map seen all)
  seen_less index = sym (without_first-map (λ (s : SeenIndex). is_index index s.declaration) seen all)

  module _ {B : Type 0} (X : SeenIndex → B) (column : ColumnNumber) where
    shown_still : of_hashes X (map seen (without (declaration column Tree))) ≡ of_hashes X (map seen all)
    shown_still =
        ap (of_hashes X) (seen_less (declaration column Tree))
        ∙ ap (map (λ (s : SeenIndex). (s.declaration.column.0, X s))) (filter-without_other (λ (s : SeenIndex). is_index (declaration column Tree) s.declaration) (λ s. not (is_tree s.declaration.kind)) (map seen all) (λ s e. no_hash_like column s.declaration e))

    shown_less : of_hashes X (map seen (without (declaration column Hash))) ≡ without_first (λ h. h.0 == column.0) (of_hashes X (map seen all))
    shown_less =
        ap (of_hashes X) (seen_less (declaration column Hash))
        ∙ first_gone (λ (s : SeenIndex). (s.declaration.column.0, X s)) (λ h. h.0 == column.0) (λ s. not (is_tree s.declaration.kind)) (map seen all)

  pub state_without : (kind : IndexKind) (column : ColumnNumber) (others : List DeclaredIndex) → state aside schema targets others rows tree (without (declaration column kind)) ≡ without_of kind column.0 (state aside schema targets others rows tree all)
  state_without Tree column others =
      let trees : trees_of (map seen (without (declaration column Tree))) ≡ without_first (λ t. t.0 == column.0) (trees_of (map seen all)) =
      ap trees_of (seen_less (declaration column Tree)) ∙ first_gone (λ (s : SeenIndex). (s.declaration.column.0, s.tree)) (λ t. t.0 == column.0) (λ s. is_tree s.declaration.kind) (map seen all) in
      λ i. record (state aside schema targets others rows tree all) { trees = trees i; hashes = shown_still (λ s. s.entries) column i; buckets = shown_still (λ s. s.buckets) column i }
  state_without Hash column others =
      let trees : trees_of (map seen (without (declaration column Hash))) ≡ trees_of (map seen all) =
      ap trees_of (seen_less (declaration column Hash)) ∙ ap (map (λ (s : SeenIndex). (s.declaration.column.0, s.tree))) (filter-without_other (λ (s : SeenIndex). is_index (declaration column Hash) s.declaration) (λ s. is_tree s.declaration.kind) (map seen all) (λ s e. no_tree_like column s.declaration e)) in
      λ i. record (state aside schema targets others rows tree all) { trees = trees i; hashes = shown_less (λ s. s.entries) column i; buckets = shown_less (λ s. s.buckets) column i }

  pub current_without : (kind : IndexKind) (column : ColumnNumber) (others : List DeclaredIndex) (keys : Keys) → IsCurrent keys (state aside schema targets declared rows tree all) → IsCurrent keys (without_of kind column.0 (state aside schema targets others rows tree all))
  current_without Tree column others keys current = record {
    readable = current.readable;
    trees = All-without_first (TreeServes keys rows (tree_list tree)) (λ (t : ℕ × RowTree). t.0 == column.0) (trees_of (map seen all)) current.trees;
    hashes = current.hashes;
  }
  current_without Hash column others keys current = record {
    readable = current.readable;
    trees = current.trees;
    hashes = All-without_first (HashServes keys rows (tree_list tree)) (λ (h : ℕ × List (ℕ × TupleRef)). h.0 == column.0) (hashes_of (map seen all)) current.hashes;
  }

pub any_of : {A B : Type 0} (f : A → B) (at : B → Bool) (kind : A → Bool) (xs : List A) → list_any (λ x. at (f x) && kind x) xs ≡ list_any at (map f (filter kind xs))
any_of f at kind [] = refl
any_of f at kind (x ∷ xs) = elim (kind x) as (λ b. ((at (f x) && b) || list_any (λ y. at (f y) && kind y) xs) ≡ list_any at (map f (cond b (x ∷ filter kind xs) (filter kind xs)))) [
  | true ↦ ap (λ b. b || list_any (λ y. at (f y) && kind y) xs) (and_true (at (f x))) ∙ ap (λ b. at (f x) || b) (any_of f at kind xs)
  | false ↦ ap (λ b. b || list_any (λ y. at (f y) && kind y) xs) (and_false (at (f x))) ∙ any_of f at kind xs
]

pub any_declared : (aside : Aside) (schema : Schema) (targets : List (Option ℕ)) (declared : List DeclaredIndex) (rows : Tuples Row) (tree : RowTree) (all : Indexes) (column : ColumnNumber) (kind : IndexKind) → list_any (λ on. is_index (declaration column kind) (declaration_of on)) all ≡ has_declared_on (state aside schema targets declared rows tree all) column.0 kind
any_declared aside schema targets declared rows tree all column Tree =
    sym (list_any-map (λ (s : SeenIndex). is_index (declaration column Tree) s.declaration) seen all)
    ∙ any_of (λ (s : SeenIndex). (s.declaration.column.0, s.tree)) (λ t. t.0 == column.0) (λ s. is_tree s.declaration.kind) (map seen all)
any_declared aside schema targets declared rows tree all column Hash =
    sym (list_any-map (λ (s : SeenIndex). is_index (declaration column Hash) s.declaration) seen all)
    ∙ any_of (λ (s : SeenIndex). (s.declaration.column.0, s.entries)) (λ h. h.0 == column.0) (λ s. not (is_tree s.declaration.kind)) (map seen all)

-- no row is there at first
none_held : (q : TupleRef) → IsSome (get (empty {X = Row} {R = ref_cmp}) q) → ⊥
none_held q h =
    let none : is_some (get (empty {X = Row} {R = ref_cmp}) q) ≡ false = ap is_some (held_at_first q) in
    absurd (cc)

pub kept_new : (aside : Aside) (schema : Schema) (targets : List (Option ℕ)) (declared : List DeclaredIndex) (rows : Tuples Row) (tree : RowTree) (all : Indexes) → length targets ≡ length schema.columns → declared ≡ [] → rows ≡ empty → tree ≡ leafless → all ≡ [] → IsKept (state aside schema targets declared rows tree all)
kept_new aside schema targets declared rows tree all width no_index no_row no_list no_all = rw (no_index, no_row, no_list, no_all) (record {
  keyed = record {
    keys_differ = record { apart = λ a b p q e. absurd (none_held a p) };
    lists = record { held = λ k d l. absurd (omega (arith, l)); count = sym (len-empty ref_cmp Row); listed = λ r h. absurd (none_held r h) };
    rising = λ i j d l m. absurd (omega (arith, m));
  };
  few = let none : len (empty {X = Row} {R = ref_cmp}) ≡ 0 = len-empty ref_cmp Row in omega arith;
  width = width;
  trees = refl;
  hashes = refl;
  within = λ k d l. absurd (omega (arith, l));
})

-- with no rows there is nothing to serve
pub current_new : (aside : Aside) (schema : Schema) (targets : List (Option ℕ)) (declared : List DeclaredIndex) (rows : Tuples Row) (tree : RowTree) (all : Indexes) → rows ≡ empty → all ≡ [] → (keys : Keys) → IsCurrent keys (state aside schema targets declared rows tree all)
current_new aside schema targets declared rows tree all no_row no_all keys = rw (no_row, no_all) (record {
  readable = λ r t e. absurd (none_held r (ap is_some e));
  trees = λ k d l. absurd (omega (arith, l));
  hashes = λ k d l. absurd (omega (arith, l));
})

-- one index more that serves the rows, where there was memory for it
pub serve_added : {E : Type 0} (keys : Keys) (rows : Tuples Row) (list : List TupleRef) (all new : Indexes) (on : IndexOn) (o : Result (Unit {0}) E) → OnOk o (new ≡ all ++ on ∷ []) → OnErr o (new ≡ all) → Serves keys rows list (seen on) → Serve keys rows list all → Serve keys rows list new
serve_added keys rows list all new on (Ok u) ok err serves before = rw (ok, map-append seen all (on ∷ [])) (All-push (Serves keys rows list) (map seen all) (seen on) before serves)
serve_added keys rows list all new on (Err e) ok err serves before = rw err before
