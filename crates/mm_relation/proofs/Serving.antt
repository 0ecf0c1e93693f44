-- Declared indexes that serve a list of references, as a row comes and goes.
use Rattle.std.proofs.Common.{length, get_or, ◌^◌, ◌==◌, ◌&&◌, ◌≡◌, ◌<◌, ◌≤◌, ◌+◌, ◌∷◌, ℕ, List, IsSome, [], true, false, refl, sym, ap, ◌∙◌, arith, subst, map, count_by, Bool, cond}
use Rattle.std.specs.List.{All, Contains}
use Rattle.std.proofs.lemmas.List.Elements.{All-contains, All-map, Contains-get_or}
use Rattle.std.proofs.lemmas.List.{length-map}
use Rattle.std.proofs.lemmas.Bool.{eqb-true, eq-eqb, and_parts, and_from}
use Rattle.std.specs.Bool.{Decides}
use Rattle.std.proofs.lemmas.List.Sums.{sum_by-cons}
use Rattle.common_lemmas.proofs.Elements.{All-from_map, Contains-map, Contains-from_map, Contains-cons}
use Rattle.part_raw.specs.declared.tuple_ref.TupleRef.{TupleRef}
use Rattle.part_raw.specs.Store.{Tuples}
use Rattle.mm_index.specs.Bag.{IsSameBag}
use Rattle.mm_index.proofs.Bags.{IsSameBag-map, IsSameBag-sym, IsSameBag-trans, IsSameBag-cons, IsSameBag-from_same, Contains-same_bag, length-same_bag}
use Rattle.mm_index.proofs.Refs.{same_ref, Decides-same_ref, Contains-same_refs}
use Rattle.mm_index.proofs.Listed.{IsRising-agree, IsSameBag-insert_by, IsSameBag-remove_by}
use Rattle.mm_relation.specs.Rows.{Row}
use Rattle.ttree_node.specs.TreeWithSpares.{TreeWithSpares}
use Rattle.mm_relation.specs.declared.index.Index.{Index}
use Rattle.mm_relation.specs.declared.index.Index.TheVariants.{Tree, Hash}
use Rattle.mm_relation.specs.declared.index.IndexOn.{IndexOn}
use Rattle.plain_tables.specs.declared.numbers.ColumnNumber.{ColumnNumber}
use Rattle.mm_relation.specs.declared.numbers.DeclaredIndex.{DeclaredIndex}
use Rattle.mm_relation.specs.Reading.{Keys, value_at, key_at, hash_at, hash_of_value}
use Rattle.mm_relation.specs.Order.{KeysDiffer, column_cmp, column_cmp_strict}
use Rattle.mm_relation.specs.State.{RowTree, tree_list, is_tree, TreeServes, HashServes}
use Rattle.mm_relation.specs.Indexes.{Indexes, SeenIndex, seen, seen_as, kind_in, declaration_of, room_in, sure, CoversIn, Cover, Where, Await, Gain, Have, Lose, Serve, Serves, HaveRoom, IsColumn, TreeAwaits, TreeGains, TreeHas, TreeLoses, Awaits, AwaitsAs, Gains, GainsAs, HasAs, Loses, LosesAs}
use Rattle.mm_relation.proofs.Loops.{same_mapped}

-- indexes that are seen alike were declared alike
declared_seen : (all : Indexes) → map (λ (s : SeenIndex). s.declaration) (map seen all) ≡ map declaration_of all
declared_seen [] = refl
declared_seen (on ∷ all) = ap (λ ds. declaration_of on ∷ ds) (declared_seen all)

pub seen_declared : (old new : Indexes) → map seen new ≡ map seen old → map declaration_of new ≡ map declaration_of old
seen_declared old new same = sym (declared_seen new) ∙ ap (map (λ (s : SeenIndex). s.declaration)) same ∙ declared_seen old

-- and stand on the same columns
pub column_seen : (old new : Indexes) → map seen new ≡ map seen old → (c : ℕ) → IsColumn new c → IsColumn old c
column_seen old new same c column = subst (λ ds. Contains (map (λ (x : DeclaredIndex). x.column.0) ds) c) (seen_declared old new same) column

-- what is left of two bags from which one element is taken
pub same_behind : {A : Type 0} (x : A) (xs ys : List A) → IsSameBag (x ∷ xs) (x ∷ ys) → IsSameBag xs ys
same_behind {A} x xs ys h = record {
  count = λ test.
      let one : A → ℕ = λ y. cond (test y) 1 0 in
      let here : count_by test (x ∷ xs) ≡ one x + count_by test xs = sum_by-cons one x xs in
      let there : count_by test (x ∷ ys) ≡ one x + count_by test ys = sum_by-cons one x ys in
      let same : count_by test (x ∷ xs) ≡ count_by test (x ∷ ys) = h.count test in
      omega arith;
}

-- two bags of entries have the same members
abbrev same_entry : ℕ × TupleRef → ℕ × TupleRef → Bool
same_entry a b = (a.0 == b.0) && same_ref a.1 b.1

Decides-same_entry : (a b : ℕ × TupleRef) → Decides (same_entry a b) (a ≡ b)
Decides-same_entry a b = (
  λ e.
      let both = and_parts (a.0 == b.0) (same_ref a.1 b.1) e in
      let first : a.0 ≡ b.0 = eqb-true a.0 b.0 both.0 in
      let second : a.1 ≡ b.1 = (Decides-same_ref a.1 b.1).0 both.1 in
      λ i. (first i, second i),
  λ e. and_from (a.0 == b.0) (same_ref a.1 b.1) (eq-eqb a.0 b.0 (ap (λ x. x.0) e)) ((Decides-same_ref a.1 b.1).1 (ap (λ x. x.1) e)),
)

Contains-same_entries : (xs ys : List (ℕ × TupleRef)) (x : ℕ × TupleRef) → IsSameBag xs ys → Contains xs x → Contains ys x
Contains-same_entries xs ys x bag h = Contains-same_bag same_entry Decides-same_entry xs ys x bag h

-- what holds of each element through a map
pub from_mapped : {A B : Type 0} (P : B → Type 0) (f : A → B) (xs : List A) → All P (map f xs) → (k : ℕ) (d : A) → k < length xs → P (f (get_or xs k d))
from_mapped P f xs h k d l = All-from_map P f xs h k d l

-- maps that agree at each member
map_alike : {A B : Type 0} (f g : A → B) (xs : List A) → ((x : A) → Contains xs x → f x ≡ g x) → map f xs ≡ map g xs
map_alike f g [] same = refl
map_alike f g (x ∷ xs) same =
    let first : f x ≡ g x = same x (0, omega arith, refl) in
    let rest : map f xs ≡ map g xs = map_alike f g xs (λ y h. same y (Contains-cons x xs y h)) in
    λ i. first i ∷ rest i

-- one of two things, by a test
pub where_map : {A B C D : Type 0} (b : Bool) → (A → C) → (B → D) → Where b A B → Where b C D
where_map true f g h = f h
where_map false f g h = g h

pub from_where : {A B C : Type 0} (b : Bool) → (A → C) → (B → C) → Where b A B → C
from_where true f g h = f h
from_where false f g h = g h

-- an index stands on its column
pub column_at : (all : Indexes) (k : ℕ) (d : IndexOn) → k < length all → IsColumn all (get_or all k d).column.0
column_at all k d l =
    Contains-map (λ (x : DeclaredIndex). x.column.0) (map declaration_of all) (declaration_of (get_or all k d)) (Contains-map declaration_of all (get_or all k d) (Contains-get_or all k d l))

module _ (keys : Keys) (rows : Tuples Row) where
  tree_serves_bag : (refs same : List TupleRef) (t : ℕ × RowTree) → IsSameBag refs same → TreeServes keys rows refs t → TreeServes keys rows same t
  tree_serves_bag refs same t bag serves = record { bag = IsSameBag-trans serves.bag bag; rising = serves.rising }

  pub hash_serves_bag : (refs same : List TupleRef) (h : ℕ × List (ℕ × TupleRef)) → IsSameBag refs same → HashServes keys rows refs h → HashServes keys rows same h
  hash_serves_bag refs same h bag serves = IsSameBag-trans serves (IsSameBag-map (λ r. (hash_at keys h.0 rows r, r)) bag)

  serves_bag : (refs same : List TupleRef) (s : SeenIndex) → IsSameBag refs same → Serves keys rows refs s → Serves keys rows same s
  serves_bag refs same s bag serves = where_map (is_tree s.declaration.kind) (tree_serves_bag refs same (s.declaration.column.0, s.tree) bag) (hash_serves_bag refs same (s.declaration.column.0, s.entries) bag) serves

  -- a row comes in
  tree_gains : KeysDiffer rows → (refs : List TupleRef) (r : TupleRef) (c : ℕ) (old new : TreeWithSpares) → TreeAwaits keys rows r c old → TreeGains keys rows r c old new → TreeServes keys rows refs (c, old.tree) → TreeServes keys rows (r ∷ refs) (c, new.tree)
  tree_gains differ refs r c old new awaits gains serves = record {
    bag =
        IsSameBag-trans (IsSameBag-from_same _ _ gains.items)
        (IsSameBag-trans (IsSameBag-insert_by (λ q. IsSome (value_at keys c rows q)) (column_cmp keys c rows) (column_cmp_strict keys c rows differ) r awaits.r_readable (tree_list old.tree) awaits.tree.readable awaits.absent)
        (IsSameBag-cons r serves.bag));
    rising = gains.rising;
  }

  gains_as : KeysDiffer rows → (refs : List TupleRef) (r : TupleRef) (c : ColumnNumber) (old new : Index) → AwaitsAs keys rows r c.0 old → GainsAs keys rows r c.0 old new → Serves keys rows refs (seen_as c old) → Serves keys rows (r ∷ refs) (seen_as c new)
  gains_as differ refs r c (Tree t) (Tree u) awaits gains serves = tree_gains differ refs r c.0 t u awaits gains serves
  gains_as differ refs r c (Hash h) (Hash g) awaits gains serves = IsSameBag-trans gains.entries (IsSameBag-cons (hash_at keys c.0 rows r, r) serves)
  gains_as differ refs r c old new awaits gains serves = absurd gains

  gains_serves : KeysDiffer rows → (refs : List TupleRef) (r : TupleRef) (old new : IndexOn) → Awaits keys rows r old → Gains keys rows r old new → Serves keys rows refs (seen old) → Serves keys rows (r ∷ refs) (seen new)
  gains_serves differ refs r old new awaits gains serves =
      subst (λ c. Serves keys rows (r ∷ refs) (seen_as c new.index)) (sym gains.0) (gains_as differ refs r old.column old.index new.index awaits gains.1 serves)

  -- a row goes out
  tree_loses : KeysDiffer rows → (refs rest : List TupleRef) (r : TupleRef) (c : ℕ) (old new : TreeWithSpares) → IsSameBag refs (r ∷ rest) → TreeHas keys rows r c old → TreeLoses keys rows r c old new → TreeServes keys rows refs (c, old.tree) → TreeServes keys rows rest (c, new.tree)
  tree_loses differ refs rest r c old new bag has loses serves = record {
    bag =
        IsSameBag-trans (IsSameBag-from_same _ _ loses.items)
        (same_behind r _ rest
        (IsSameBag-trans (IsSameBag-sym (IsSameBag-remove_by (λ q. IsSome (value_at keys c rows q)) (column_cmp keys c rows) (column_cmp_strict keys c rows differ) r
        (All-contains (λ q. IsSome (value_at keys c rows q)) (tree_list old.tree) r has.tree.readable has.held) (tree_list old.tree) has.tree.readable has.tree.rising has.held))
        (IsSameBag-trans serves.bag bag)));
    rising = loses.rising;
  }

  loses_as : KeysDiffer rows → (refs rest : List TupleRef) (r : TupleRef) (c : ColumnNumber) (old new : Index) → IsSameBag refs (r ∷ rest) → HasAs keys rows r c.0 old → LosesAs keys rows r c.0 old new → Serves keys rows refs (seen_as c old) → Serves keys rows rest (seen_as c new)
  loses_as differ refs rest r c (Tree t) (Tree u) bag has loses serves = tree_loses differ refs rest r c.0 t u bag has loses serves
  loses_as differ refs rest r c (Hash h) (Hash g) bag has loses serves =
      same_behind (hash_at keys c.0 rows r, r) _ _
      (IsSameBag-trans (IsSameBag-sym loses.entries)
      (IsSameBag-trans serves (IsSameBag-map (λ q. (hash_at keys c.0 rows q, q)) bag)))
  loses_as differ refs rest r c old new bag has loses serves = absurd loses

  -- what a hash has an entry of is one of the references that it serves
  pub from_entries : (refs : List TupleRef) (c : ℕ) (entries : List (ℕ × TupleRef)) (hash : ℕ) (r : TupleRef) → HashServes keys rows refs (c, entries) → Contains entries (hash, r) → Contains refs r
  from_entries refs c entries hash r serves there =
      let entry : TupleRef → ℕ × TupleRef = λ q. (hash_at keys c rows q, q) in
      let found = Contains-from_map entry refs (hash, r) (Contains-same_entries entries (map entry refs) (hash, r) serves there) in
      subst (Contains refs) (ap (λ x. x.1) found.2) found.1

  -- an index can take in a row that none of the references names, and has one that one of them names
  awaits_as : (refs : List TupleRef) (r : TupleRef) (c : ColumnNumber) (index : Index) → (Contains refs r → ⊥) → length refs < 2 ^ 32 → sure 1 1 index ≤ room_in index → CoversIn r index → ((q : TupleRef) → Contains (r ∷ refs) q → IsSome (value_at keys c.0 rows q)) → Serves keys rows refs (seen_as c index) → AwaitsAs keys rows r c.0 index
  awaits_as refs r c (Tree t) absent short room covers read serves =
      let same : length (tree_list t.tree) ≡ length refs = length-same_bag (tree_list t.tree) refs serves.bag in
      record {
        room = room;
        short = omega (arith, same, short);
        absent = λ h. absent (Contains-same_refs (tree_list t.tree) refs r serves.bag h);
        r_readable = read r (0, omega arith, refl);
        tree = record {
          readable = λ i e m. read (get_or (tree_list t.tree) i e) (Contains-cons r refs _ (Contains-same_refs (tree_list t.tree) refs _ serves.bag (Contains-get_or (tree_list t.tree) i e m)));
          rising = serves.rising;
        };
      }
  awaits_as refs r c (Hash h) absent short room covers read serves =
      let same : length h.entries ≡ length refs = length-same_bag h.entries _ serves ∙ length-map refs (λ q. (hash_at keys c.0 rows q, q)) in
      record {
        room = room;
        short = omega (arith, same, short);
        covered = covers;
        absent = λ hash there. absent (from_entries refs c.0 h.entries hash r serves there);
        r_readable = read r (0, omega arith, refl);
      }

  has_as : (refs : List TupleRef) (r : TupleRef) (c : ColumnNumber) (index : Index) → Contains refs r → ((q : TupleRef) → Contains refs q → IsSome (value_at keys c.0 rows q)) → Serves keys rows refs (seen_as c index) → HasAs keys rows r c.0 index
  has_as refs r c (Tree t) there read serves = record {
    held = Contains-same_refs refs (tree_list t.tree) r (IsSameBag-sym serves.bag) there;
    tree = record {
      readable = λ i e m. read (get_or (tree_list t.tree) i e) (Contains-same_refs (tree_list t.tree) refs _ serves.bag (Contains-get_or (tree_list t.tree) i e m));
      rising = serves.rising;
    };
  }
  has_as refs r c (Hash h) there read serves = record {
    held = Contains-same_entries _ h.entries (hash_at keys c.0 rows r, r) (IsSameBag-sym serves) (Contains-map (λ q. (hash_at keys c.0 rows q, q)) refs r there);
  }

  -- rows that have the same values in one column under the references, and the same keys, serve its index alike
  module _ (others : Tuples Row) (refs : List TupleRef) where
    tree_agrees_in : (t : ℕ × RowTree) → ((q : TupleRef) → Contains refs q → value_at keys t.0 others q ≡ value_at keys t.0 rows q) → ((q : TupleRef) → Contains refs q → key_at others q ≡ key_at rows q) → TreeServes keys rows refs t → TreeServes keys others refs t
    tree_agrees_in t values same_keys serves = record {
      bag = serves.bag;
      rising = IsRising-agree (column_cmp keys t.0 rows) (column_cmp keys t.0 others) (tree_list t.1)
          (λ p q hp hq.
          let in_p : Contains refs p = Contains-same_refs (tree_list t.1) refs p serves.bag hp in
          let in_q : Contains refs q = Contains-same_refs (tree_list t.1) refs q serves.bag hq in
          let vp : value_at keys t.0 others p ≡ value_at keys t.0 rows p = values p in_p in
          let vq : value_at keys t.0 others q ≡ value_at keys t.0 rows q = values q in_q in
          let kp : key_at others p ≡ key_at rows p = same_keys p in_p in
          let kq : key_at others q ≡ key_at rows q = same_keys q in_q in
          rw (vp, vq, kp, kq) refl)
          serves.rising;
    }

    hash_agrees_in : (h : ℕ × List (ℕ × TupleRef)) → ((q : TupleRef) → Contains refs q → value_at keys h.0 others q ≡ value_at keys h.0 rows q) → HashServes keys rows refs h → HashServes keys others refs h
    hash_agrees_in h values serves =
        subst (IsSameBag h.1)
        (map_alike (λ r. (hash_at keys h.0 rows r, r)) (λ r. (hash_at keys h.0 others r, r)) refs
        (λ q hq. ap (λ o. (hash_of_value o, q)) (sym (values q hq))))
        serves

    pub agrees_in : (s : SeenIndex) → ((q : TupleRef) → Contains refs q → value_at keys s.declaration.column.0 others q ≡ value_at keys s.declaration.column.0 rows q) → ((q : TupleRef) → Contains refs q → key_at others q ≡ key_at rows q) → Serves keys rows refs s → Serves keys others refs s
    agrees_in s values same_keys serves =
        where_map (is_tree s.declaration.kind) (tree_agrees_in (s.declaration.column.0, s.tree) values same_keys) (hash_agrees_in (s.declaration.column.0, s.entries) values) serves

  -- rows that have the same values under the references serve them alike
  module _ (others : Tuples Row) (refs : List TupleRef) (agree : (c : ℕ) (q : TupleRef) → Contains refs q → value_at keys c others q ≡ value_at keys c rows q) where
    pub tree_agrees : (t : ℕ × RowTree) → TreeServes keys rows refs t → TreeServes keys others refs t
    tree_agrees t serves = tree_agrees_in others refs t (agree t.0) (λ q h. agree 0 q h) serves

    pub hash_agrees : (h : ℕ × List (ℕ × TupleRef)) → HashServes keys rows refs h → HashServes keys others refs h
    hash_agrees h serves = hash_agrees_in others refs h (agree h.0) serves

    pub all_agree : (all : Indexes) → Serve keys rows refs all → Serve keys others refs all
    all_agree all serves = λ k d l. agrees_in others refs (get_or (map seen all) k d) (agree _) (λ q h. agree 0 q h) (serves k d l)

  -- all indexes together
  module _ (differ : KeysDiffer rows) (refs : List TupleRef) (old new : Indexes) (serves : Serve keys rows refs old) where
    at : All (λ on. Serves keys rows refs (seen on)) old
    at = All-from_map (Serves keys rows refs) seen old serves

    pub all_gain : (r : TupleRef) → Await keys rows r old → Gain keys rows r old new → Serve keys rows (r ∷ refs) new
    all_gain r awaits gains = All-map (Serves keys rows (r ∷ refs)) seen new
        (λ k d l. let inside : k < length old = omega (arith, gains.count, l) in gains_serves differ refs r (get_or old k d) (get_or new k d) (awaits k d inside) (gains.at k d inside) (at k d inside))

    pub all_lose : (r : TupleRef) (rest : List TupleRef) → IsSameBag refs (r ∷ rest) → Have keys rows r old → Lose keys rows r old new → Serve keys rows rest new
    all_lose r rest bag has loses = All-map (Serves keys rows rest) seen new
        (λ k d l. let inside : k < length old = omega (arith, loses.count, l) in
        let out : Loses keys rows r (get_or old k d) (get_or new k d) = loses.at k d inside in
        subst (λ c. Serves keys rows rest (seen_as c (get_or new k d).index)) (sym out.0)
        (loses_as differ refs rest r (get_or old k d).column (get_or old k d).index (get_or new k d).index bag (has k d inside) out.1 (at k d inside)))

    pub all_bag : (same : List TupleRef) → IsSameBag refs same → Serve keys rows same old
    all_bag same bag = λ k d l. serves_bag refs same (get_or (map seen old) k d) bag (serves k d l)

    pub all_await : (r : TupleRef) → (Contains refs r → ⊥) → length refs < 2 ^ 32 → HaveRoom 1 old → Cover r old → ((c : ℕ) (q : TupleRef) → IsColumn old c → Contains (r ∷ refs) q → IsSome (value_at keys c rows q)) → Await keys rows r old
    all_await r absent short room covers readable = λ k d l.
        awaits_as refs r (get_or old k d).column (get_or old k d).index absent short (room k d l) (covers k d l) (λ q h. readable _ q (column_at old k d l) h) (at k d l)

    pub all_have : (r : TupleRef) → Contains refs r → ((c : ℕ) (q : TupleRef) → IsColumn old c → Contains refs q → IsSome (value_at keys c rows q)) → Have keys rows r old
    all_have r there readable = λ k d l.
        has_as refs r (get_or old k d).column (get_or old k d).index there (λ q h. readable _ q (column_at old k d l) h) (at k d l)

-- the declarations stay
module _ (keys : Keys) (rows : Tuples Row) (r : TupleRef) where
  gains_kind : (c : ℕ) (old new : Index) → GainsAs keys rows r c old new → kind_in new ≡ kind_in old
  gains_kind c (Tree t) (Tree u) h = refl
  gains_kind c (Hash g) (Hash f) h = refl
  gains_kind c old new h = absurd h

  loses_kind : (c : ℕ) (old new : Index) → LosesAs keys rows r c old new → kind_in new ≡ kind_in old
  loses_kind c (Tree t) (Tree u) h = refl
  loses_kind c (Hash g) (Hash f) h = refl
  loses_kind c old new h = absurd h

  pub gains_declared : (old new : IndexOn) → Gains keys rows r old new → declaration_of new ≡ declaration_of old
  gains_declared old new h = let kind = gains_kind old.column.0 old.index new.index h.1 in λ i. record { column = h.0 i; kind = kind i }

  pub loses_declared : (old new : IndexOn) → Loses keys rows r old new → declaration_of new ≡ declaration_of old
  loses_declared old new h = let kind = loses_kind old.column.0 old.index new.index h.1 in λ i. record { column = h.0 i; kind = kind i }

  pub gain_declared : (old new : Indexes) → Gain keys rows r old new → map declaration_of new ≡ map declaration_of old
  gain_declared old new h = same_mapped declaration_of old new h.count (λ k d l. gains_declared (get_or old k d) (get_or new k d) (h.at k d l))

  pub lose_declared : (old new : Indexes) → Lose keys rows r old new → map declaration_of new ≡ map declaration_of old
  lose_declared old new h = same_mapped declaration_of old new h.count (λ k d l. loses_declared (get_or old k d) (get_or new k d) (h.at k d l))
