-- What a relation keeps, told of its parts.
use Rattle.std.proofs.Common.{◌≡◌, ◌≤◌, ◌<◌, ◌+◌, ℕ, List, [], ◌∷◌, Option, Some, None, IsSome, is_some, Bool, true, false, cond, not, refl, sym, ap, ◌∙◌, arith, subst, length, get_or, map, filter, inl, inr}
use Rattle.std.specs.Prelude.{Result, Ok, Err, IfOk, OnErr}
use Rattle.std.specs.List.{All, Contains}
use Rattle.std.specs.Option.{option_and_then}
use Rattle.std.proofs.lemmas.List.Elements.{All-cons, All-contains, All-filter, All-map, All-tail, filter_passes}
use Rattle.std.proofs.lemmas.Bool.{not-true}
use Rattle.std.specs.FinMap.{get, insert, remove, len}
use Rattle.common_lemmas.proofs.Elements.{Contains-from_map, Contains-from_filter, Contains-filter, Contains-map}
use Rattle.part_raw.specs.declared.tuple_ref.TupleRef.{TupleRef}
use Rattle.part_raw.specs.Store.{Tuples}
use Rattle.part_raw.proofs.Tuples.{get-insert_same, get-insert_other, get-remove_other, held_tuple, len-insert_fresh}
use Rattle.part_raw.proofs.Lookup.{same_or_other}
use Rattle.plain_tables.specs.declared.schema.Schema.{Schema}
use Rattle.plain_tables.specs.declared.value.Value.{Value}
use Rattle.mm_relation.specs.declared.refusal.RowRefusal.{RowRefusal}
use Rattle.mm_relation.specs.declared.refusal.RowRefusal.TheVariants.{KeyExists, Full, NoMemory}
use Rattle.mm_relation.specs.Changes.{IsPlacedRightly, IsToldRightly}
use Rattle.mm_relation.specs.Rows.{Aside, Row}
use Rattle.mm_relation.specs.declared.numbers.DeclaredIndex.{DeclaredIndex}
use Rattle.mm_relation.specs.Reading.{Keys, row_value}
use Rattle.mm_relation.specs.State.{RelationState, HasKey, RowTree, tree_list, IsKeyed, IsKept, IsCurrent, IsReadable, TreeServes, HashServes, columns_with_tree, columns_with_hash, is_tree}
use Rattle.mm_relation.specs.Indexes.{Indexes, SeenIndex, seen, declaration_of, kind_in, trees_of, hashes_of, all_buckets, Where, Serve, Serves, CanRead, CanReadRow, IsColumn}
use Rattle.mm_relation.specs.Seen.{state}
use Rattle.mm_relation.proofs.KeyOrder.{not_taken}

-- the columns of the indexes of a kind are those that are declared so
pub columns_seen : {B : Type 0} (q : Bool → Bool) (X : SeenIndex → B) (all : Indexes) → map (λ (t : ℕ × B). t.0) (map (λ (s : SeenIndex). (s.declaration.column.0, X s)) (filter (λ s. q (is_tree s.declaration.kind)) (map seen all))) ≡ map (λ d. d.column.0) (filter (λ d. q (is_tree d.kind)) (map declaration_of all))
columns_seen q X [] = refl
columns_seen {B} q X (on ∷ all) = elim (q (is_tree (kind_in on.index))) as (λ b. map (λ (t : ℕ × B). t.0) (map (λ (s : SeenIndex). (s.declaration.column.0, X s)) (cond b (seen on ∷ filter (λ s. q (is_tree s.declaration.kind)) (map seen all)) (filter (λ s. q (is_tree s.declaration.kind)) (map seen all)))) ≡ map (λ (d : DeclaredIndex). d.column.0) (cond b (declaration_of on ∷ filter (λ d. q (is_tree d.kind)) (map declaration_of all)) (filter (λ d. q (is_tree d.kind)) (map declaration_of all)))) [
  | true ↦ ap (λ cs. on.column.0 ∷ cs) (columns_seen q X all)
  | false ↦ columns_seen q X all
]

pub tree_columns : (all : Indexes) → map (λ (t : ℕ × RowTree). t.0) (trees_of (map seen all)) ≡ columns_with_tree (map declaration_of all)
tree_columns all = columns_seen (λ b. b) (λ s. s.tree) all

pub hash_columns : (all : Indexes) → map (λ (h : ℕ × List (ℕ × TupleRef)). h.0) (hashes_of (map seen all)) ≡ columns_with_hash (map declaration_of all)
hash_columns all = columns_seen (λ b. not b) (λ s. s.entries) all

kept_of : {A B : Type 0} (P : B → Type 0) (Q : A → Type 0) (f : A → B) (p : A → Bool) (xs : List A) → ((x : A) → p x ≡ true → Q x → P (f x)) → All Q xs → All P (map f (filter p xs))
kept_of P Q f p xs each h = All-map P f (filter p xs) (λ k d l. each (get_or (filter p xs) k d) (filter_passes p xs k d l) (All-filter p Q xs h k d l))

-- indexes serve rows as the trees among them do, and the hashes
module _ (keys : Keys) (rows : Tuples Row) (refs : List TupleRef) where
  pub trees_served : (ss : List SeenIndex) → All (Serves keys rows refs) ss → All (TreeServes keys rows refs) (trees_of ss)
  trees_served ss h = kept_of (TreeServes keys rows refs) (Serves keys rows refs) (λ (s : SeenIndex). (s.declaration.column.0, s.tree)) (λ s. is_tree s.declaration.kind) ss
      (λ s e serves. subst (λ b. Where b (TreeServes keys rows refs (s.declaration.column.0, s.tree)) (HashServes keys rows refs (s.declaration.column.0, s.entries))) e serves) h

  pub hashes_served : (ss : List SeenIndex) → All (Serves keys rows refs) ss → All (HashServes keys rows refs) (hashes_of ss)
  hashes_served ss h = kept_of (HashServes keys rows refs) (Serves keys rows refs) (λ (s : SeenIndex). (s.declaration.column.0, s.entries)) (λ s. not (is_tree s.declaration.kind)) ss
      (λ s e serves. subst (λ b. Where b (TreeServes keys rows refs (s.declaration.column.0, s.tree)) (HashServes keys rows refs (s.declaration.column.0, s.entries))) (not-true (is_tree s.declaration.kind) e) serves) h

  pub all_served : (ss : List SeenIndex) → All (TreeServes keys rows refs) (trees_of ss) → All (HashServes keys rows refs) (hashes_of ss) → All (Serves keys rows refs) ss
  all_served [] trees hashes = λ k d l. absurd (omega (arith, l))
  all_served (s ∷ ss) trees hashes =
      let both = (elim (is_tree s.declaration.kind) as (λ b. All (TreeServes keys rows refs) (map (λ (x : SeenIndex). (x.declaration.column.0, x.tree)) (cond b (s ∷ filter (λ x. is_tree x.declaration.kind) ss) (filter (λ x. is_tree x.declaration.kind) ss))) → All (HashServes keys rows refs) (map (λ (x : SeenIndex). (x.declaration.column.0, x.entries)) (cond (not b) (s ∷ filter (λ x. not (is_tree x.declaration.kind)) ss) (filter (λ x. not (is_tree x.declaration.kind)) ss))) → Where b (TreeServes keys rows refs (s.declaration.column.0, s.tree)) (HashServes keys rows refs (s.declaration.column.0, s.entries)) × All (Serves keys rows refs) ss) [
        | true ↦ λ ts hs. (ts 0 (s.declaration.column.0, s.tree) (omega arith), all_served ss (All-tail (TreeServes keys rows refs) (s.declaration.column.0, s.tree) (trees_of ss) ts) hs)
        | false ↦ λ ts hs. (hs 0 (s.declaration.column.0, s.entries) (omega arith), all_served ss ts (All-tail (HashServes keys rows refs) (s.declaration.column.0, s.entries) (hashes_of ss) hs))
      ] trees hashes) in
      All-cons (Serves keys rows refs) s ss both.0 both.1

module _ (aside : Aside) (schema : Schema) (targets : List (Option ℕ)) (declared : List DeclaredIndex) where
  -- a relation is seen by what its indexes show
  pub same_state : (rows now : Tuples Row) (tree now_tree : RowTree) (all new : Indexes) → now ≡ rows → now_tree ≡ tree → map seen new ≡ map seen all → state aside schema targets declared now now_tree new ≡ state aside schema targets declared rows tree all
  same_state rows now tree now_tree all new r l same = λ i. record { schema = schema; targets = targets; declared = declared; rows = r i; by_key = l i; trees = trees_of (same i); hashes = hashes_of (same i); buckets = all_buckets (same i); referrers = aside.numbers; counted = aside.counted; hidden = aside.hidden; owed = aside.owed }

  within_declared : (test : DeclaredIndex → Bool) → All (λ d. d.column.0 < length targets) declared → (c : ℕ) → Contains (map (λ d. d.column.0) (filter test declared)) c → c < length targets
  within_declared test within c h =
      let found = Contains-from_map (λ (d : DeclaredIndex). d.column.0) (filter test declared) c h in
      let there = Contains-from_filter test declared found.0 found.1 in
      subst (λ n. n < length targets) found.2 (All-contains (λ d. d.column.0 < length targets) declared found.0 within there.0)

  module _ (rows : Tuples Row) (tree : RowTree) (all : Indexes) (kept : IsKept (state aside schema targets declared rows tree all)) where
    pub column_within : (c : ℕ) → IsColumn all c → c < length targets
    column_within c column =
        let found = Contains-from_map (λ (d : DeclaredIndex). d.column.0) (map declaration_of all) c column in
        let among : (test : DeclaredIndex → Bool) → test found.0 ≡ true → Contains (map (λ (d : DeclaredIndex). d.column.0) (filter test (map declaration_of all))) c =
        (λ test e. subst (Contains (map (λ (d : DeclaredIndex). d.column.0) (filter test (map declaration_of all)))) found.2 (Contains-map (λ (d : DeclaredIndex). d.column.0) (filter test (map declaration_of all)) found.0 (Contains-filter test (map declaration_of all) found.0 found.1 e))) in
        elim (is_tree found.0.kind) as (λ b. is_tree found.0.kind ≡ b → c < length targets) [
          | true ↦ λ e. within_declared (λ d. is_tree d.kind) kept.within c (subst (λ cs. Contains cs c) (sym (tree_columns all) ∙ kept.trees) (among (λ d. is_tree d.kind) e))
          | false ↦ λ e. within_declared (λ d. not (is_tree d.kind)) kept.within c (subst (λ cs. Contains cs c) (sym (hash_columns all) ∙ kept.hashes) (among (λ d. not (is_tree d.kind)) (ap not e)))
        ] refl

    pub row_read : (keys : Keys) (row : Row) → IsReadable keys (length targets) row → CanReadRow keys row all
    row_read keys row readable c column = readable c (column_within c column)

    pub can_read : (keys : Keys) → IsCurrent keys (state aside schema targets declared rows tree all) → CanRead keys rows all
    can_read keys current c q column held =
        let found = held_tuple rows q held in
        subst (λ o. IsSome (option_and_then (row_value keys c) o)) (sym found.1) (current.readable q found.0 found.1 c (column_within c column))

    pub served : (keys : Keys) → IsCurrent keys (state aside schema targets declared rows tree all) → Serve keys rows (tree_list tree) all
    served keys current = all_served keys rows (tree_list tree) (map seen all) current.trees current.hashes

    -- what is kept once rows came or went
    module _ (still : Aside) (now : Tuples Row) (now_tree : RowTree) (new : Indexes) where
      pub kept_on : IsKeyed now (tree_list now_tree) → len now ≤ 16777216 → map declaration_of new ≡ map declaration_of all → IsKept (state still schema targets declared now now_tree new)
      kept_on keyed few same = record {
        keyed = keyed;
        few = few;
        width = kept.width;
        trees = tree_columns new ∙ ap columns_with_tree same ∙ sym (tree_columns all) ∙ kept.trees;
        hashes = hash_columns new ∙ ap columns_with_hash same ∙ sym (hash_columns all) ∙ kept.hashes;
        within = kept.within;
      }

      pub current_on : (keys : Keys) → ((r : TupleRef) (t : Row) → get now r ≡ Some t → IsReadable keys (length targets) t) → Serve keys now (tree_list now_tree) new → IsCurrent keys (state still schema targets declared now now_tree new)
      current_on keys readable serves = record { readable = readable; trees = trees_served keys now (tree_list now_tree) (map seen new) serves; hashes = hashes_served keys now (tree_list now_tree) (map seen new) serves }

-- each row can be read once one came, or went
pub readable_with : (keys : Keys) (width : ℕ) (rows : Tuples Row) (r : TupleRef) (t : Row) → ((q : TupleRef) (u : Row) → get rows q ≡ Some u → IsReadable keys width u) → IsReadable keys width t → (q : TupleRef) (u : Row) → get (insert rows r t) q ≡ Some u → IsReadable keys width u
readable_with keys width rows r t before row q u e = elim (same_or_other q r) [
  | inl same ↦ λ c l. subst (λ o. IsSome (option_and_then (row_value keys c) o)) (sym (get-insert_same rows r t) ∙ ap (get (insert rows r t)) (sym same) ∙ e) (row c l)
  | inr other ↦ before q u (sym (get-insert_other rows r q t other) ∙ e)
]

pub readable_without : (keys : Keys) (width : ℕ) (rows : Tuples Row) (list : List TupleRef) (r : TupleRef) → IsKeyed rows list → IsSome (get rows r) → ((q : TupleRef) (u : Row) → get rows q ≡ Some u → IsReadable keys width u) → (q : TupleRef) (u : Row) → get (remove rows r) q ≡ Some u → IsReadable keys width u
readable_without keys width rows list r keyed held before q u e =
    before q u (sym (get-remove_other rows r q (not_taken rows list r keyed held q (ap is_some e))) ∙ e)

-- the same where a row came in, unless it was refused
pub readable_after : (keys : Keys) (width : ℕ) (rows now : Tuples Row) (t : Row) (o : Result TupleRef RowRefusal) → IfOk o (λ r. now ≡ insert rows r t) → OnErr o (now ≡ rows) → ((q : TupleRef) (u : Row) → get rows q ≡ Some u → IsReadable keys width u) → IsReadable keys width t → (q : TupleRef) (u : Row) → get now q ≡ Some u → IsReadable keys width u
readable_after keys width rows now t (Ok r) put kept before row = rw put (readable_with keys width rows r t before row)
readable_after keys width rows now t (Err e) put kept before row = rw kept before

pub few_after : (rows now : Tuples Row) (t : Row) (o : Result TupleRef RowRefusal) → IfOk o (λ r. get rows r ≡ None) → IfOk o (λ r. now ≡ insert rows r t) → OnErr o (now ≡ rows) → len rows < 16777216 → len now ≤ 16777216
few_after rows now t (Ok r) fresh put kept few =
    let more : len (insert rows r t) ≡ len rows + 1 = len-insert_fresh rows r t fresh in
    let same : len now ≡ len (insert rows r t) = ap len put in
    omega arith
few_after rows now t (Err e) fresh put kept few = let same : len now ≡ len rows = ap len kept in omega arith

-- what is told where there is room is told rightly
pub told_placed : (s : RelationState) (key : Value) (o : Result TupleRef RowRefusal) → len s.rows < 16777216 → IsPlacedRightly (HasKey s.rows key) o → IsToldRightly s key o
told_placed s key (Ok r) few told = (told, few)
told_placed s key (Err KeyExists) few told = told
told_placed s key (Err Full) few told = absurd told
told_placed s key (Err NoMemory) few told = tt
