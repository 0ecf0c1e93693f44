-- The memory for rows that are owed, as rows come and go.
use Rattle.std.proofs.Common.{◌≡◌, ◌≤◌, ◌<◌, ◌+◌, ◌++◌, ◌∷◌, [], ℕ, Bool, List, Option, map, false, IsSome, sym, ap, ◌∙◌, arith, subst, inl, inr}
use Rattle.std.specs.Prelude.{Result, Ok, Err, IfOk, OnErr, OnOk, is_err}
use Rattle.std.specs.FinMap.{get, insert, remove, len, len-empty, empty}
use Rattle.part_raw.specs.TupleRefs.{ref_cmp}
use Rattle.part_raw.specs.declared.tuple_ref.TupleRef.{TupleRef}
use Rattle.part_raw.specs.Store.{Tuples}
use Rattle.part_raw.proofs.Lookup.{same_or_other}
use Rattle.part_raw.proofs.Tuples.{get-insert_other, get-remove_same, get-remove_other, len-remove_held}
use Rattle.ttree_node.specs.TreeWithSpares.{TreeWithSpares}
use Rattle.ttree.specs.Room.{room_of}
use Rattle.mm_relation.specs.Rows.{Aside, Row, with_number}
use Rattle.mm_relation.specs.declared.refusal.RowRefusal.{RowRefusal}
use Rattle.mm_relation.specs.declared.index.Index.{Index}
use Rattle.mm_relation.specs.declared.index.Index.TheVariants.{Tree, Hash}
use Rattle.mm_relation.specs.declared.index.IndexOn.{IndexOn}
use Rattle.mm_relation.specs.Declaring.{without_first}
use Rattle.mm_relation.specs.Indexes.{Indexes, seen, room_in, sure, CoversIn, HaveRoom, HaveRooms, Cover, KeepRoom}
use Rattle.plain_tables.specs.declared.schema.Schema.{Schema}
use Rattle.mm_relation.specs.declared.numbers.DeclaredIndex.{DeclaredIndex}
use Rattle.mm_relation.specs.State.{IsKept, RowTree}
use Rattle.mm_relation.specs.Seen.{state}
use Rattle.mm_relation.specs.Owing.{HasOwed, IsReady}
use Rattle.mm_relation.proofs.Hiding.{none_some}
use Rattle.std.proofs.lemmas.List.Elements.{All-push}
use Rattle.mm_relation.proofs.Keeping.{kept_on}
use Rattle.mm_relation.proofs.Serving.{seen_declared}
use Rattle.mm_relation.proofs.Dropping.{All-without_first}
use Rattle.mm_relation.proofs.Room.{rooms_fewer, none_wanted}

-- what is sure of one row more than so many is sure of one
pub owed_one : (n : ℕ) (hidden : Tuples Row) (tree : TreeWithSpares) (all : Indexes) → HasOwed (n + 1) hidden tree all → HaveRoom 1 all
owed_one n hidden tree all owed = rooms_fewer (n + 1) (n + 1) 1 1 all (omega arith) (omega arith) owed.room

-- what is left where room is taken
pub owed_left : (trees hashes n m : ℕ) (hidden : Tuples Row) (tree now_tree : TreeWithSpares) (all new : Indexes) → KeepRoom trees hashes all new → HasOwed n hidden tree all → m + trees ≤ n → m + hashes ≤ n → m ≤ room_of 30 now_tree → HasOwed m hidden now_tree new
owed_left trees hashes n m hidden tree now_tree all new keeps owed few few_hashes key_room = record {
  key_room = key_room;
  room = keeps.room m m (rooms_fewer n n (m + trees) (m + hashes) all few few_hashes owed.room);
  covered = λ q held. keeps.covered q (owed.covered q held);
}

-- so many rows are changed, for each of which a tree had room beside what is owed
pub owed_changed : (t h n k : ℕ) (hidden : Tuples Row) (tree : TreeWithSpares) (all mid new : Indexes) → KeepRoom 0 0 all mid → n + k ≤ t → n ≤ h → HaveRooms t h mid → KeepRoom k 0 mid new → HasOwed n hidden tree all → HasOwed n hidden tree new
owed_changed t h n k hidden tree all mid new made trees hashes room keeps owed = record {
  key_room = owed.key_room;
  room = keeps.room n n (rooms_fewer t h (n + k) (n + 0) mid trees (omega (arith, hashes)) room);
  covered = λ q held. keeps.covered q (made.covered q (owed.covered q held));
}

-- what is there where room was made for so many
pub owed_made : (n m : ℕ) (hidden : Tuples Row) (tree now_tree : TreeWithSpares) (all new : Indexes) → KeepRoom 0 0 all new → HasOwed n hidden tree all → m ≤ room_of 30 now_tree → HaveRooms m m new → HasOwed m hidden now_tree new
owed_made n m hidden tree now_tree all new keeps owed key_room room = record {
  key_room = key_room;
  room = room;
  covered = λ q held. keeps.covered q (owed.covered q held);
}

pub made_ready : {E : Type 0} (result : Result (Unit {0}) E) (n m : ℕ) (hidden : Tuples Row) (tree now_tree : TreeWithSpares) (all new : Indexes) → KeepRoom 0 0 all new → HasOwed n hidden tree all → OnOk result (m ≤ room_of 30 now_tree) → OnOk result (HaveRooms m m new) → OnOk result (HasOwed m hidden now_tree new)
made_ready (Ok done) n m hidden tree now_tree all new keeps owed key_room room = owed_made n m hidden tree now_tree all new keeps owed key_room room
made_ready (Err e) n m hidden tree now_tree all new keeps owed key_room room = tt

-- where no row is hidden and none is owed there is nothing to keep
pub none_held : (hidden : Tuples Row) → len hidden ≤ 0 → (q : TupleRef) → IsSome (get hidden q) → ⊥
none_held hidden none q held =
    let one : len (remove hidden q) + 1 ≡ len hidden = len-remove_held hidden q held in
    omega (arith, one, none)

pub none_in : len (empty {X = Row} {R = ref_cmp}) ≡ 0
none_in = len-empty ref_cmp Row

pub nothing_owed : (hidden : Tuples Row) (tree : TreeWithSpares) (all : Indexes) → len hidden ≤ 0 → HasOwed 0 hidden tree all
nothing_owed hidden tree all none = record {
  key_room = omega arith;
  room = λ k d l. none_wanted _;
  covered = λ q held. absurd (none_held hidden none q held);
}

pub nothing_now : (n : ℕ) (hidden : Tuples Row) (tree : TreeWithSpares) (all : Indexes) → n ≡ 0 → len hidden ≤ n → HasOwed n hidden tree all
nothing_now n hidden tree all none few = subst (λ m. HasOwed m hidden tree all) (sym none) (nothing_owed hidden tree all (omega arith))

-- a row is hidden that each index has a node for, or a hidden one is shown
pub owed_with : (n : ℕ) (hidden : Tuples Row) (r : TupleRef) (row : Row) (tree : TreeWithSpares) (all : Indexes) → Cover r all → HasOwed n hidden tree all → HasOwed n (insert hidden r row) tree all
owed_with n hidden r row tree all cover owed = record {
  key_room = owed.key_room;
  room = owed.room;
  covered = λ q held. elim (same_or_other q r) [
    | inl same ↦ subst (λ x. Cover x all) (sym same) cover
    | inr other ↦ owed.covered q (subst IsSome (get-insert_other hidden r q row other) held)
  ];
}

pub owed_without : (n : ℕ) (hidden : Tuples Row) (r : TupleRef) (tree : TreeWithSpares) (all : Indexes) → HasOwed n hidden tree all → HasOwed n (remove hidden r) tree all
owed_without n hidden r tree all owed = record {
  key_room = owed.key_room;
  room = owed.room;
  covered = λ q held. elim (same_or_other q r) [
    | inl same ↦ absurd (none_some (get-remove_same hidden r) (subst (λ x. IsSome (get (remove hidden r) x)) same held))
    | inr other ↦ owed.covered q (subst IsSome (get-remove_other hidden r q other) held)
  ];
}

-- where a row is hidden one is owed
pub some_hidden : (hidden : Tuples Row) (r : TupleRef) → IsSome (get hidden r) → 0 < len hidden
some_hidden hidden r held = let one : len (remove hidden r) + 1 ≡ len hidden = len-remove_held hidden r held in omega arith

-- what is owed stays where a row came in, and where it was refused
pub owed_after : (before after : Aside) (tree : TreeWithSpares) (all : Indexes) (o : Result TupleRef RowRefusal) → IfOk o (λ r. after ≡ with_number before r 0) → OnErr o (after ≡ before) → HasOwed before.owed before.hidden tree all → HasOwed after.owed after.hidden tree all
owed_after before after tree all (Ok r) put kept owed = rw put owed
owed_after before after tree all (Err e) put kept owed = rw kept owed

-- an index fewer, and one more that is ready
pub owed_fewer : (n : ℕ) (hidden : Tuples Row) (tree : TreeWithSpares) (p : IndexOn → Bool) (all : Indexes) → HasOwed n hidden tree all → HasOwed n hidden tree (without_first p all)
owed_fewer n hidden tree p all owed = record {
  key_room = owed.key_room;
  room = All-without_first (λ on. sure n n on.index ≤ room_in on.index) p all owed.room;
  covered = λ q held. All-without_first (λ on. CoversIn q on.index) p all (owed.covered q held);
}

pub sure_both : (n : ℕ) (index : Index) → n ≤ room_in index → sure n n index ≤ room_in index
sure_both n (Tree x) room = room
sure_both n (Hash x) room = room

pub owed_added : {E : Type 0} (n : ℕ) (hidden : Tuples Row) (tree : TreeWithSpares) (all new : Indexes) (on : IndexOn) (o : Result (Unit {0}) E) → OnOk o (new ≡ all ++ on ∷ []) → OnErr o (new ≡ all) → IsReady n hidden on → HasOwed n hidden tree all → HasOwed n hidden tree new
owed_added n hidden tree all new on (Ok u) ok err ready owed = rw ok (record {
  key_room = owed.key_room;
  room = All-push (λ x. sure n n x.index ≤ room_in x.index) all on owed.room (sure_both n on.index ready.room);
  covered = λ q held. All-push (λ x. CoversIn q x.index) all on (owed.covered q held) (ready.covered q held);
})
owed_added n hidden tree all new on (Err e) ok err ready owed = rw err owed

-- what holds of each of two holds of what is one of them
pub either : {E A : Type 0} (P : A → Type 0) (o : Result (Unit {0}) E) (now other before : A) → OnOk o (now ≡ other) → OnErr o (now ≡ before) → P other → P before → P now
either P (Ok u) now other before ok err there here = subst P (sym ok) there
either P (Err e) now other before ok err there here = subst P (sym err) here

pub on_ok : {E A B : Type 0} (f : A → B) (o : Result (Unit {0}) E) (x y : A) (z : B) → f y ≡ z → OnOk o (x ≡ y) → OnOk o (f x ≡ z)
on_ok f (Ok u) x y z same h = ap f h ∙ same
on_ok f (Err e) x y z same h = tt

pub on_err : {E A B : Type 0} (f : A → B) (o : Result (Unit {0}) E) (x y : A) (z : B) → f y ≡ z → OnErr o (x ≡ y) → OnErr o (f x ≡ z)
on_err f (Ok u) x y z same h = tt
on_err f (Err e) x y z same h = ap f h ∙ same

-- a relation keeps what it keeps where its indexes show what they showed
pub kept_alike : (aside : Aside) (schema : Schema) (targets : List (Option ℕ)) (declared : List DeclaredIndex) (rows : Tuples Row) (tree : RowTree) (all : Indexes) → IsKept (state aside schema targets declared rows tree all)
    → (still : Aside) (now_tree : RowTree) (new : Indexes) → now_tree ≡ tree → map seen new ≡ map seen all → IsKept (state still schema targets declared rows now_tree new)
kept_alike aside schema targets declared rows tree all kept still now_tree new same same_seen =
    kept_on aside schema targets declared rows tree all kept still rows now_tree new (rw same kept.keyed) kept.few (seen_declared all new same_seen)

pub not_err : {E X : Type 0} (o : Result (Unit {0}) E) → is_err o ≡ false → OnOk o X → X
not_err (Ok u) fine h = h
not_err (Err e) fine h = absurd (cc)
