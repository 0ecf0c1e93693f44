-- What a relation keeps as an index is taken out of it, and as it is put back.
use Rattle.std.proofs.Common.{Bool, true, false, not, ◌&&◌, ◌≡◌, ◌≤◌, ◌<◌, ◌==◌, ℕ, List, Option, refl, sym, ap, ◌∙◌, arith, subst, length, map, filter, take}
use Rattle.std.specs.List.{insert, list_any}
use Rattle.std.proofs.lemmas.Bool.{and_parts, eqb-true}
use Rattle.std.proofs.lemmas.List.{length-map}
use Rattle.common_lemmas.proofs.Tests.{list_any-map}
use Rattle.part_raw.specs.declared.tuple_ref.TupleRef.{TupleRef}
use Rattle.part_raw.specs.Store.{Tuples}
use Rattle.ttree_node.specs.TreeWithSpares.{TreeWithSpares}
use Rattle.plain_tables.specs.declared.numbers.ColumnNumber.{ColumnNumber}
use Rattle.plain_tables.specs.declared.schema.Schema.{Schema}
use Rattle.plain_tables.specs.declared.schema.IndexKind.{IndexKind}
use Rattle.plain_tables.specs.declared.schema.IndexKind.TheVariants as kind
use Rattle.mm_relation.specs.Rows.{Aside, Row}
use Rattle.mm_relation.specs.Reading.{Keys}
use Rattle.mm_relation.specs.declared.numbers.DeclaredIndex.{DeclaredIndex}
use Rattle.mm_relation.specs.declared.index.Index.{Index}
use Rattle.mm_relation.specs.declared.index.Index.TheVariants.{Tree, Hash}
use Rattle.mm_relation.specs.declared.index.IndexOn.{IndexOn}
use Rattle.mm_relation.specs.State.{RelationState, RowTree, tree_list, is_tree, IsKept, IsCurrent, TreeServes, HashServes}
use Rattle.mm_relation.specs.Indexes.{Indexes, SeenIndex, seen, kind_in, declaration_of, trees_of, hashes_of, room_in, sure, CoversIn, Serves}
use Rattle.mm_relation.specs.Changes.{has_declared_on}
use Rattle.mm_relation.specs.Declaring.{declaration, is_index, is_kind, without_first, without_index}
use Rattle.mm_relation.specs.Owing.{HasOwed, IsReady}
use Rattle.mm_relation.specs.Seen.{state}
use Rattle.mm_relation.specs.Taken.{DroppedState, HasPlaceFor, IsFirst, IsServedBy, count_of, with_index}
use Rattle.mm_relation.proofs.Firsts.{All-insert, among-map, before_first, both_kinds, first_among, first_holds, first_map, kind_inserted, length_without, map-insert, one_first, other_inserted, put_back, within_others}
use Rattle.mm_relation.proofs.Keeping.{columns_seen, hash_columns, served, tree_columns}
use Rattle.mm_relation.proofs.Declared.{any_of}
use Rattle.mm_relation.proofs.Owed.{sure_both}

-- an index, of a column and what stands on it
abbrev on_column : ColumnNumber → Index → IndexOn
on_column column index = record { column = column; index = index }

abbrev dropped : ℕ → IndexOn → ℕ → DroppedState
dropped place on places = record { place = place; on = on; places = places }

-- ---- put back

-- it keeps what it keeps
pub kept_with : (s : RelationState) (place places : ℕ) (column : ColumnNumber) (index : Index) → IsKept s → column.0 < length s.targets → IsKept (with_index s (dropped place (on_column column index) places))
kept_with s place places column (Tree t) kept inside = record {
  keyed = kept.keyed;
  few = kept.few;
  width = kept.width;
  trees =
      map-insert (λ (x : ℕ × RowTree). x.0) s.trees (count_of kind.Tree (take place s.declared)) (column.0, t.tree)
      ∙ ap (λ cs. insert cs (count_of kind.Tree (take place s.declared)) column.0) kept.trees
      ∙ sym (kind_inserted (λ (d : DeclaredIndex). d.column.0) (λ d. is_tree d.kind) s.declared place (declaration column kind.Tree) refl);
  hashes = kept.hashes ∙ sym (ap (map (λ (d : DeclaredIndex). d.column.0)) (other_inserted (λ (d : DeclaredIndex). not (is_tree d.kind)) s.declared place (declaration column kind.Tree) refl));
  within = All-insert (λ (d : DeclaredIndex). d.column.0 < length s.targets) s.declared place (declaration column kind.Tree) kept.within inside;
}
kept_with s place places column (Hash h) kept inside = record {
  keyed = kept.keyed;
  few = kept.few;
  width = kept.width;
  trees = kept.trees ∙ sym (ap (map (λ (d : DeclaredIndex). d.column.0)) (other_inserted (λ (d : DeclaredIndex). is_tree d.kind) s.declared place (declaration column kind.Hash) refl));
  hashes =
      map-insert (λ (x : ℕ × List (ℕ × TupleRef)). x.0) s.hashes (count_of kind.Hash (take place s.declared)) (column.0, h.entries)
      ∙ ap (λ cs. insert cs (count_of kind.Hash (take place s.declared)) column.0) kept.hashes
      ∙ sym (kind_inserted (λ (d : DeclaredIndex). d.column.0) (λ d. not (is_tree d.kind)) s.declared place (declaration column kind.Hash) refl);
  within = All-insert (λ (d : DeclaredIndex). d.column.0 < length s.targets) s.declared place (declaration column kind.Hash) kept.within inside;
}

-- it is current where the index serves the rows
pub current_with : (keys : Keys) (s : RelationState) (place places : ℕ) (column : ColumnNumber) (index : Index) → IsCurrent keys s → IsServedBy keys s (dropped place (on_column column index) places) → IsCurrent keys (with_index s (dropped place (on_column column index) places))
current_with keys s place places column (Tree t) current serves = record {
  readable = current.readable;
  trees = All-insert (TreeServes keys s.rows (tree_list s.by_key)) s.trees (count_of kind.Tree (take place s.declared)) (column.0, t.tree) current.trees serves;
  hashes = current.hashes;
}
current_with keys s place places column (Hash h) current serves = record {
  readable = current.readable;
  trees = current.trees;
  hashes = All-insert (HashServes keys s.rows (tree_list s.by_key)) s.hashes (count_of kind.Hash (take place s.declared)) (column.0, h.entries) current.hashes serves;
}

-- and what is owed can come back
pub owed_with_index : (n : ℕ) (hidden : Tuples Row) (tree : TreeWithSpares) (all : Indexes) (at : ℕ) (on : IndexOn) → HasOwed n hidden tree all → IsReady n hidden on → HasOwed n hidden tree (insert all at on)
owed_with_index n hidden tree all at on owed ready = record {
  key_room = owed.key_room;
  room = All-insert (λ x. sure n n x.index ≤ room_in x.index) all at on owed.room (sure_both n on.index ready.room);
  covered = λ q held. All-insert (λ x. CoversIn q x.index) all at on (owed.covered q held) (ready.covered q held);
}

-- what the indexes of a kind show with one more, of the kind or not
shown_one : {B : Type 0} (f : SeenIndex → B) (test : SeenIndex → Bool) (all : Indexes) (at k : ℕ) (on : IndexOn) → test (seen on) ≡ true → length (filter (λ x. test (seen x)) (take at all)) ≡ k → map f (filter test (map seen (insert all at on))) ≡ insert (map f (filter test (map seen all))) k (f (seen on))
shown_one f test all at k on e behind =
    among-map seen f test (insert all at on)
    ∙ kind_inserted (λ x. f (seen x)) (λ x. test (seen x)) all at on e
    ∙ ap (λ xs. insert xs (length (filter (λ x. test (seen x)) (take at all))) (f (seen on))) (sym (among-map seen f test all))
    ∙ ap (λ n. insert (map f (filter test (map seen all))) n (f (seen on))) behind

shown_other : {B : Type 0} (f : SeenIndex → B) (test : SeenIndex → Bool) (all : Indexes) (at : ℕ) (on : IndexOn) → test (seen on) ≡ false → map f (filter test (map seen (insert all at on))) ≡ map f (filter test (map seen all))
shown_other f test all at on e =
    among-map seen f test (insert all at on) ∙ ap (map (λ x. f (seen x))) (other_inserted (λ x. test (seen x)) all at on e) ∙ sym (among-map seen f test all)

module _ (aside : Aside) (schema : Schema) (targets : List (Option ℕ)) (declared : List DeclaredIndex) (rows : Tuples Row) (tree : RowTree) (all : Indexes) where
  -- it is seen so where it stands behind as many of its kind
  pub state_with : (place at places : ℕ) (column : ColumnNumber) (index : Index)
      → length (filter (λ (x : IndexOn). is_kind (kind_in index) (kind_in x.index)) (take at all)) ≡ count_of (kind_in index) (take place declared)
      → state aside schema targets (insert declared place (declaration_of (on_column column index))) rows tree (insert all at (on_column column index)) ≡ with_index (state aside schema targets declared rows tree all) (dropped place (on_column column index) places)
  state_with place at places column (Tree t) behind =
      let on = on_column column (Tree t) in
      let trees = shown_one (λ s. (s.declaration.column.0, s.tree)) (λ s. is_tree s.declaration.kind) all at (count_of kind.Tree (take place declared)) on refl behind in
      let hashes = shown_other (λ s. (s.declaration.column.0, s.entries)) (λ s. not (is_tree s.declaration.kind)) all at on refl in
      let buckets = shown_other (λ s. (s.declaration.column.0, s.buckets)) (λ s. not (is_tree s.declaration.kind)) all at on refl in
      λ i. record (state aside schema targets (insert declared place (declaration_of on)) rows tree all) { trees = trees i; hashes = hashes i; buckets = buckets i }
  state_with place at places column (Hash h) behind =
      let on = on_column column (Hash h) in
      let trees = shown_other (λ s. (s.declaration.column.0, s.tree)) (λ s. is_tree s.declaration.kind) all at on refl in
      let hashes = shown_one (λ s. (s.declaration.column.0, s.entries)) (λ s. not (is_tree s.declaration.kind)) all at (count_of kind.Hash (take place declared)) on refl behind in
      let buckets = shown_one (λ s. (s.declaration.column.0, s.buckets)) (λ s. not (is_tree s.declaration.kind)) all at (count_of kind.Hash (take place declared)) on refl behind in
      λ i. record (state aside schema targets (insert declared place (declaration_of on)) rows tree all) { trees = trees i; hashes = hashes i; buckets = buckets i }

-- ---- taken out

sure_of_both : (n : ℕ) (index : Index) → sure n n index ≤ room_in index → n ≤ room_in index
sure_of_both n (Tree t) room = room
sure_of_both n (Hash h) room = room

-- one declaration alone is such a one
pub is_declaration : (index other : DeclaredIndex) → is_index index other ≡ true → other ≡ index
is_declaration index other e =
    let column = (and_parts (other.column.0 == index.column.0) (is_kind index.kind other.kind) e).0 in
    let same = same_kind index.kind other.kind (and_parts (other.column.0 == index.column.0) (is_kind index.kind other.kind) e).1 in
    let number = eqb-true other.column.0 index.column.0 column in
    λ i. record { column = record { 0 = number i }; kind = same i }
  where
    same_kind : (k other : IndexKind) → is_kind k other ≡ true → other ≡ k
    same_kind kind.Tree kind.Tree e = refl
    same_kind kind.Tree kind.Hash e = cc
    same_kind kind.Hash kind.Tree e = cc
    same_kind kind.Hash kind.Hash e = refl

module _ (aside : Aside) (schema : Schema) (targets : List (Option ℕ)) (declared : List DeclaredIndex) (rows : Tuples Row) (tree : RowTree) (all : Indexes) (kept : IsKept (state aside schema targets declared rows tree all)) where
  -- what is declared stands there
  pub declared_stands : (column : ColumnNumber) (k : IndexKind) → list_any (is_index (declaration column k)) declared ≡ has_declared_on (state aside schema targets declared rows tree all) column.0 k
  declared_stands column kind.Tree =
      any_of (λ (d : DeclaredIndex). d.column.0) (λ n. n == column.0) (λ d. is_tree d.kind) declared
      ∙ ap (list_any (λ n. n == column.0)) (sym kept.trees) ∙ list_any-map (λ n. n == column.0) (λ (t : ℕ × RowTree). t.0) (trees_of (map seen all))
  declared_stands column kind.Hash =
      any_of (λ (d : DeclaredIndex). d.column.0) (λ n. n == column.0) (λ d. not (is_tree d.kind)) declared
      ∙ ap (list_any (λ n. n == column.0)) (sym kept.hashes) ∙ list_any-map (λ n. n == column.0) (λ (h : ℕ × List (ℕ × TupleRef)). h.0) (hashes_of (map seen all))

  -- as many of a kind stand there as are declared
  pub as_many : (k : IndexKind) → length (filter (λ (on : IndexOn). is_kind k (kind_in on.index)) all) ≡ count_of k declared
  as_many kind.Tree =
      sym (length-map (filter (λ (on : IndexOn). is_tree (kind_in on.index)) all) (λ on. on.column.0))
      ∙ ap length (sym (among-map declaration_of (λ d. d.column.0) (λ d. is_tree d.kind) all) ∙ sym (tree_columns all) ∙ kept.trees)
      ∙ length-map (filter (λ (d : DeclaredIndex). is_tree d.kind) declared) (λ d. d.column.0)
  as_many kind.Hash =
      sym (length-map (filter (λ (on : IndexOn). not (is_tree (kind_in on.index))) all) (λ on. on.column.0))
      ∙ ap length (sym (among-map declaration_of (λ d. d.column.0) (λ d. not (is_tree d.kind)) all) ∙ sym (hash_columns all) ∙ kept.hashes)
      ∙ length-map (filter (λ (d : DeclaredIndex). not (is_tree d.kind)) declared) (λ d. d.column.0)

  pub as_long : length all ≡ length declared
  as_long =
      let standing = both_kinds (λ (on : IndexOn). is_tree (kind_in on.index)) all in
      let trees : length (filter (λ (on : IndexOn). is_tree (kind_in on.index)) all) ≡ length (filter (λ (d : DeclaredIndex). is_tree d.kind) declared) = as_many kind.Tree in
      let hashes : length (filter (λ (on : IndexOn). not (is_tree (kind_in on.index))) all) ≡ length (filter (λ (d : DeclaredIndex). not (is_tree d.kind)) declared) = as_many kind.Hash in
      omega (arith, standing, trees, hashes, both_kinds (λ (d : DeclaredIndex). is_tree d.kind) declared)

  module _ (k : IndexKind) (column : ColumnNumber) (place at places : ℕ) (on : IndexOn) (first : IsFirst (is_index (declaration column k)) declared place (declaration column k)) (standing : IsFirst (λ x. is_index (declaration column k) (declaration_of x)) all at on) where
    abbrev index : DeclaredIndex
    index = declaration column k

    abbrev taken : RelationState
    taken = without_index (state aside schema targets declared rows tree all) index

    same : declaration_of on ≡ index
    same = is_declaration index (declaration_of on) standing.passes

    -- it is declared again where it was
    declared_back : insert (without_first (is_index index) declared) place (declaration_of on) ≡ declared
    declared_back = ap (insert (without_first (is_index index) declared) place) same ∙ put_back (is_index index) declared place index first

    -- so is what its kind shows
    module _ {B : Type 0} (f : SeenIndex → B) (q : Bool → Bool) (is_it : (d : DeclaredIndex) → is_index index d ≡ ((d.column.0 == column.0) && q (is_tree d.kind))) where
      abbrev pairs : List SeenIndex → List (ℕ × B)
      pairs ss = map (λ s. (s.declaration.column.0, f s)) (filter (λ s. q (is_tree s.declaration.kind)) ss)

      abbrev columns : List ℕ
      columns = map (λ d. d.column.0) (filter (λ d. q (is_tree d.kind)) declared)

      shown_back : map (λ (x : ℕ × B). x.0) (pairs (map seen all)) ≡ columns → insert (without_first (λ x. x.0 == column.0) (pairs (map seen all))) (length (filter (λ d. q (is_tree d.kind)) (take place (without_first (is_index index) declared)))) (on.column.0, f (seen on)) ≡ pairs (map seen all)
      shown_back alike =
          let each : is_index index ≡ (λ d. (d.column.0 == column.0) && q (is_tree d.kind)) = (λ i d. is_it d i) in
          let there : IsFirst (λ d. (d.column.0 == column.0) && q (is_tree d.kind)) declared place index = subst (λ t. IsFirst t declared place index) each first in
          let stands_there : IsFirst (λ (s : SeenIndex). (s.declaration.column.0 == column.0) && q (is_tree s.declaration.kind)) (map seen all) at (seen on) =
          first_map seen (λ s. (s.declaration.column.0 == column.0) && q (is_tree s.declaration.kind)) all at on (subst (λ t. IsFirst (λ x. t (declaration_of x)) all at on) each standing) in
          let among = first_among (λ (s : SeenIndex). (s.declaration.column.0, f s)) (λ x. x.0 == column.0) (λ s. q (is_tree s.declaration.kind)) (map seen all) at (seen on) stands_there in
          let declared_among = first_among (λ (d : DeclaredIndex). d.column.0) (λ n. n == column.0) (λ d. q (is_tree d.kind)) declared place index there in
          let shown_among = subst (λ ns. IsFirst (λ n. n == column.0) ns (length (filter (λ s. q (is_tree s.declaration.kind)) stands_there.front)) on.column.0) alike
          (first_map (λ (x : ℕ × B). x.0) (λ n. n == column.0) (pairs (map seen all)) (length (filter (λ s. q (is_tree s.declaration.kind)) stands_there.front)) (on.column.0, f (seen on)) among) in
          let behind = ap (λ ds. length (filter (λ (d : DeclaredIndex). q (is_tree d.kind)) ds)) (ap (λ t. take place (without_first t declared)) each ∙ before_first (λ d. (d.column.0 == column.0) && q (is_tree d.kind)) declared place index there)
          ∙ one_first (λ n. n == column.0) columns (length (filter (λ (d : DeclaredIndex). q (is_tree d.kind)) there.front)) (length (filter (λ s. q (is_tree s.declaration.kind)) stands_there.front)) column.0 on.column.0 declared_among shown_among in
          ap (λ n. insert (without_first (λ x. x.0 == column.0) (pairs (map seen all))) n (on.column.0, f (seen on))) behind
          ∙ put_back (λ (x : ℕ × B). x.0 == column.0) (pairs (map seen all)) (length (filter (λ s. q (is_tree s.declaration.kind)) stands_there.front)) (on.column.0, f (seen on)) among

    -- a relation that is as it was otherwise has a place for it, and is served by it
    place_for : (tree_now : TreeWithSpares) (s : RelationState) → s.targets ≡ targets → s.declared ≡ without_first (is_index index) declared → s.owed ≡ aside.owed → s.hidden ≡ aside.hidden → length declared ≤ places → HasOwed aside.owed aside.hidden tree_now all → HasPlaceFor s (dropped place on places)
    place_for tree_now s same_targets same_declared same_owed same_hidden enough owed =
        let inside : column.0 < length targets = first_holds (is_index index) declared place index first (λ d. d.column.0 < length targets) kept.within in
        let number : on.column.0 ≡ column.0 = ap (λ d. d.column.0) same in
        let fewer = length_without (is_index index) declared place index first in
        let room = first_holds (λ x. is_index index (declaration_of x)) all at on standing (λ x. sure aside.owed aside.owed x.index ≤ room_in x.index) owed.room in
        rw (same_targets, same_declared, same_owed, same_hidden) (record {
          column = omega (arith, inside, number);
          place = within_others (is_index index) declared place index first;
          places = omega (arith, fewer, enough);
          ready = record {
            room = sure_of_both aside.owed on.index room;
            covered = λ q held. first_holds (λ x. is_index index (declaration_of x)) all at on standing (λ x. CoversIn q x.index) (owed.covered q held);
          };
        })

    served_for : (keys : Keys) (s : RelationState) → s.rows ≡ rows → s.by_key ≡ tree → IsCurrent keys (state aside schema targets declared rows tree all) → IsServedBy keys s (dropped place on places)
    served_for keys s same_rows same_tree current =
        rw (same_rows, same_tree)
        (first_holds (λ (x : SeenIndex). is_index index x.declaration) (map seen all) at (seen on) (first_map seen (λ x. is_index index x.declaration) all at on standing)
        (Serves keys rows (tree_list tree)) (served aside schema targets declared rows tree all kept keys current))

  module _ (column : ColumnNumber) (place at places : ℕ) (of : ColumnNumber) where
    -- taken out and put back, it is as it was
    pub taken_back : (k : IndexKind) (index : Index) → IsFirst (is_index (declaration column k)) declared place (declaration column k) → IsFirst (λ x. is_index (declaration column k) (declaration_of x)) all at (on_column of index)
        → with_index (without_index (state aside schema targets declared rows tree all) (declaration column k)) (dropped place (on_column of index) places) ≡ state aside schema targets declared rows tree all
    taken_back kind.Tree (Tree t) first standing =
        let on = on_column of (Tree t) in
        let back = declared_back kind.Tree column place at places on first standing in
        let trees = shown_back kind.Tree column place at places on first standing (λ s. s.tree) (λ b. b) (λ d. refl) kept.trees in
        λ i. record (state aside schema targets declared rows tree all) { declared = back i; trees = trees i }
    taken_back kind.Hash (Hash h) first standing =
        let on = on_column of (Hash h) in
        let back = declared_back kind.Hash column place at places on first standing in
        let hashes = shown_back kind.Hash column place at places on first standing (λ s. s.entries) not (λ d. refl) kept.hashes in
        let buckets = shown_back kind.Hash column place at places on first standing (λ s. s.buckets) not (λ d. refl) (columns_seen not (λ s. s.buckets) all ∙ sym (hash_columns all) ∙ kept.hashes) in
        λ i. record (state aside schema targets declared rows tree all) { declared = back i; hashes = hashes i; buckets = buckets i }
    taken_back kind.Tree (Hash h) first standing =
        let other = ap (λ d. is_tree d.kind) (is_declaration (declaration column kind.Tree) (declaration_of (on_column of (Hash h))) standing.passes) in
        absurd (cc)
    taken_back kind.Hash (Tree t) first standing =
        let other = ap (λ d. is_tree d.kind) (is_declaration (declaration column kind.Hash) (declaration_of (on_column of (Tree t))) standing.passes) in
        absurd (cc)

  module _ (column : ColumnNumber) (place at places : ℕ) (on : IndexOn) where
    -- there is a place for it then
    pub fits : (k : IndexKind) (tree_now : TreeWithSpares) → IsFirst (is_index (declaration column k)) declared place (declaration column k) → IsFirst (λ x. is_index (declaration column k) (declaration_of x)) all at on
        → length declared ≤ places → HasOwed aside.owed aside.hidden tree_now all
        → HasPlaceFor (without_index (state aside schema targets declared rows tree all) (declaration column k)) (dropped place on places)
    fits kind.Tree tree_now first standing enough owed =
        place_for kind.Tree column place at places on first standing tree_now (without_index (state aside schema targets declared rows tree all) (declaration column kind.Tree)) refl refl refl refl enough owed
    fits kind.Hash tree_now first standing enough owed =
        place_for kind.Hash column place at places on first standing tree_now (without_index (state aside schema targets declared rows tree all) (declaration column kind.Hash)) refl refl refl refl enough owed

    -- and it serves the rows
    pub serves : (k : IndexKind) (keys : Keys) → IsFirst (is_index (declaration column k)) declared place (declaration column k) → IsFirst (λ x. is_index (declaration column k) (declaration_of x)) all at on
        → IsCurrent keys (state aside schema targets declared rows tree all)
        → IsServedBy keys (without_index (state aside schema targets declared rows tree all) (declaration column k)) (dropped place on places)
    serves kind.Tree keys first standing current =
        served_for kind.Tree column place at places on first standing keys (without_index (state aside schema targets declared rows tree all) (declaration column kind.Tree)) refl refl current
    serves kind.Hash keys first standing current =
        served_for kind.Hash column place at places on first standing keys (without_index (state aside schema targets declared rows tree all) (declaration column kind.Hash)) refl refl current
