-- The rows under the tree of their keys, as a row comes and goes.
use Rattle.std.proofs.Common.{IfNone, ◌≡◌, ◌≢◌, ◌+◌, List, ◌∷◌, IfSome, Option, Some, None, IsSome, is_some, refl, sym, ap, ◌∙◌, arith, subst, length, get_or, inl, inr}
use Rattle.std.specs.List.{All, Contains}
use Rattle.std.specs.Option.{option_cmp, option_and_then}
use Rattle.std.specs.Ordering.{ordering_then}
use Rattle.std.specs.declared.cmp.Ordering.{Ordering}
use Rattle.std.specs.declared.cmp.Ordering.TheVariants.{Equal}
use Rattle.std.proofs.lemmas.Option.{same_Some}
use Rattle.std.proofs.lemmas.List.Elements.{All-contains, Contains-get_or}
use Rattle.std.specs.FinMap.{get, insert, remove, len}
use Rattle.part_raw.specs.declared.tuple_ref.TupleRef.{TupleRef}
use Rattle.part_raw.specs.Store.{Tuples}
use Rattle.part_raw.proofs.Tuples.{get-insert_same, get-insert_other, get-remove_same, get-remove_other, held-insert, held-remove_other, len-insert_fresh, len-insert_held, len-remove_held, held_tuple}
use Rattle.part_raw.proofs.Lookup.{same_or_other}
use Rattle.mm_index.specs.Bag.{IsSameBag}
use Rattle.mm_index.specs.Order.{IsRising, IsStrictOver, insert_by, insert_placed, remove_by}
use Rattle.mm_index.specs.Range.{NeverFalls}
use Rattle.mm_index.proofs.Bags.{IsSameBag-trans, IsSameBag-from_same}
use Rattle.mm_index.proofs.Listed.{IsRising-agree, All-insert_by, Contains-insert_by_itself, Contains-insert_by, length-insert_by, IsSameBag-insert_by, IsSameBag-remove_by, Contains-remove_by, Contains-from_remove_by, length-remove_by}
use Rattle.mm_index.proofs.Placed.{IsRising-insert_by, IsRising-remove_by, insert_placed_by}
use Rattle.plain_tables.specs.Values.{value_cmp}
use Rattle.plain_tables.specs.declared.value.Value.{Value}
use Rattle.mm_relation.specs.Rows.{Row}
use Rattle.mm_relation.specs.Reading.{value_at, key_at, row_value}
use Rattle.mm_relation.specs.Order.{KeysDiffer, column_cmp, column_cmp_strict, held_from_value, option_exact}
use Rattle.mm_relation.specs.State.{IsKeyed, HasKey, no_keys}
use Rattle.mm_relation.proofs.Placing.{NeverFalls-value, option_cmp-self}
use Rattle.mm_relation.proofs.Same.{then_same}

pub key_readable : (rows : Tuples Row) (q : TupleRef) → IsSome (get rows q) → IsSome (value_at no_keys 0 rows q)
key_readable rows q held = let found = held_tuple rows q held in rw found.1 refl

module _ (rows : Tuples Row) (list : List TupleRef) (r : TupleRef) (t : Row) (keyed : IsKeyed rows list) (fresh : get rows r ≡ None) where
  pub not_fresh : (q : TupleRef) → IsSome (get rows q) → q ≢ r
  not_fresh q held e = let none : get rows q ≡ None = ap (get rows) e ∙ fresh in let some : is_some (get rows q) ≡ is_some {T = Row} None = ap is_some none in absurd (cc)

  pub unlisted : Contains list r → ⊥
  unlisted h = not_fresh r (All-contains (λ x. IsSome (get rows x)) list r keyed.lists.held h) refl

  pub same_elsewhere : (q : TupleRef) → Contains list q → get (insert rows r t) q ≡ get rows q
  same_elsewhere q h = get-insert_other rows r q t (λ e. unlisted (subst (Contains list) e h))

  pub covered : All (λ q. IsSome (value_at no_keys 0 (insert rows r t) q)) list
  covered k d l = key_readable (insert rows r t) (get_or list k d) (held-insert rows r (get_or list k d) t (keyed.lists.held k d l))

  pub r_covered : IsSome (value_at no_keys 0 (insert rows r t) r)
  r_covered = key_readable (insert rows r t) r (ap is_some (get-insert_same rows r t))

  pub rises : IsRising (column_cmp no_keys 0 (insert rows r t)) list
  rises =
      IsRising-agree (column_cmp no_keys 0 rows) (column_cmp no_keys 0 (insert rows r t)) list
      (λ p q hp hq. let ep : get (insert rows r t) p ≡ get rows p = same_elsewhere p hp in let eq : get (insert rows r t) q ≡ get rows q = same_elsewhere q hq in rw (ep, eq) refl)
      keyed.rising

  -- where a row stands beside the new one's key
  abbrev pub place : TupleRef → Ordering
  place q = option_cmp value_cmp (value_at no_keys 0 (insert rows r t) q) (Some t.key)

  pub in_order : NeverFalls place list
  in_order = NeverFalls-value no_keys 0 (insert rows r t) (Some t.key) list rises

  pub has_key : (q : TupleRef) → Contains list q → place q ≡ Equal → HasKey rows t.key
  has_key q h e =
      (q, ap (option_and_then (λ x. Some x.key)) (sym (same_elsewhere q h)) ∙ option_exact (key_at (insert rows r t) q) (Some t.key) e)

  module _ (none : All (λ q. place q ≢ Equal) list) where
    pub no_key : HasKey rows t.key → ⊥
    no_key h =
        let held : IsSome (get rows h.0) = held_from_value no_keys 0 rows h.0 (ap is_some h.1) in
        let there : Contains list h.0 = keyed.lists.listed h.0 held in
        All-contains (λ q. place q ≢ Equal) list h.0 none there
        (ap (λ o. option_cmp value_cmp (option_and_then (row_value no_keys 0) o) (Some t.key)) (same_elsewhere h.0 there)
        ∙ ap (λ v. option_cmp value_cmp v (Some t.key)) h.1 ∙ option_cmp-self (Some t.key))

    key_new : key_at (insert rows r t) r ≡ Some t.key
    key_new = ap (option_and_then (λ x. Some x.key)) (get-insert_same rows r t)

    key_old : (q : TupleRef) → q ≢ r → key_at (insert rows r t) q ≡ key_at rows q
    key_old q ne = ap (option_and_then (λ x. Some x.key)) (get-insert_other rows r q t ne)

    pub differ : KeysDiffer (insert rows r t)
    differ = record {
      apart = λ a b p q e.
          elim (same_or_other a r) [
            | inl ar ↦ elim (same_or_other b r) [
              | inl br ↦ ar ∙ sym br
              | inr bo ↦ absurd (no_key (b, sym (key_old b bo) ∙ sym e ∙ ap (key_at (insert rows r t)) ar ∙ key_new))
            ]
            | inr ao ↦ elim (same_or_other b r) [
              | inl br ↦ absurd (no_key (a, sym (key_old a ao) ∙ e ∙ ap (key_at (insert rows r t)) br ∙ key_new))
              | inr bo ↦ keyed.keys_differ.apart a b (subst IsSome (get-insert_other rows r a t ao) p) (subst IsSome (get-insert_other rows r b t bo) q)
                  (sym (key_old a ao) ∙ e ∙ key_old b bo)
            ]
          ];
    }

    strict : IsStrictOver (λ q. IsSome (value_at no_keys 0 (insert rows r t) q)) (column_cmp no_keys 0 (insert rows r t))
    strict = column_cmp_strict no_keys 0 (insert rows r t) differ

    pub by_order : insert_placed place r list ≡ insert_by (column_cmp no_keys 0 (insert rows r t)) r list
    by_order =
        insert_placed_by (column_cmp no_keys 0 (insert rows r t)) place r list
        (λ k d l.
        let q = get_or list k d in
        let o = place q in
        let at_r : column_cmp no_keys 0 (insert rows r t) q r ≡ ordering_then o o =
        ap (λ v. ordering_then (option_cmp value_cmp (value_at no_keys 0 (insert rows r t) q) v) (option_cmp value_cmp (value_at no_keys 0 (insert rows r t) q) v)) key_new in
        sym (at_r ∙ then_same o))

    pub bag_with : (new : List TupleRef) → new ≡ insert_placed place r list → IsSameBag new (r ∷ list)
    bag_with new items =
        IsSameBag-trans (IsSameBag-from_same new _ (items ∙ by_order))
        (IsSameBag-insert_by (λ q. IsSome (value_at no_keys 0 (insert rows r t) q)) (column_cmp no_keys 0 (insert rows r t)) strict r r_covered list covered unlisted)

    pub keyed_with : (new : List TupleRef) → new ≡ insert_placed place r list → IsKeyed (insert rows r t) new
    keyed_with new items = rw (items ∙ by_order) (record {
      keys_differ = differ;
      rising = IsRising-insert_by (λ q. IsSome (value_at no_keys 0 (insert rows r t) q)) (column_cmp no_keys 0 (insert rows r t)) strict r list covered r_covered rises;
      lists = record {
        held = All-insert_by (λ q. IsSome (get (insert rows r t) q)) (column_cmp no_keys 0 (insert rows r t)) r list
            (λ k d l. held-insert rows r (get_or list k d) t (keyed.lists.held k d l)) (ap is_some (get-insert_same rows r t));
        count =
            length-insert_by (λ q. IsSome (value_at no_keys 0 (insert rows r t) q)) (column_cmp no_keys 0 (insert rows r t)) strict r r_covered list covered unlisted
            ∙ ap (λ n. n + 1) keyed.lists.count ∙ sym (len-insert_fresh rows r t fresh);
        listed = λ q h. elim (same_or_other q r) [
          | inl same ↦ subst (Contains (insert_by (column_cmp no_keys 0 (insert rows r t)) r list)) (sym same) (Contains-insert_by_itself (column_cmp no_keys 0 (insert rows r t)) r list)
          | inr other ↦ Contains-insert_by (λ x. IsSome (value_at no_keys 0 (insert rows r t) x)) (column_cmp no_keys 0 (insert rows r t)) strict r r_covered list covered q
              (keyed.lists.listed q (subst IsSome (get-insert_other rows r q t other) h))
        ];
      };
    })

module _ (rows : Tuples Row) (list : List TupleRef) (r : TupleRef) (keyed : IsKeyed rows list) (held : IsSome (get rows r)) where
  key_covered : All (λ q. IsSome (value_at no_keys 0 rows q)) list
  key_covered k d l = key_readable rows (get_or list k d) (keyed.lists.held k d l)

  strict_now : IsStrictOver (λ q. IsSome (value_at no_keys 0 rows q)) (column_cmp no_keys 0 rows)
  strict_now = column_cmp_strict no_keys 0 rows keyed.keys_differ

  there : Contains list r
  there = keyed.lists.listed r held

  pub not_taken : (q : TupleRef) → IsSome (get (remove rows r) q) → q ≢ r
  not_taken q h e = let none : get (remove rows r) q ≡ None = ap (get (remove rows r)) e ∙ get-remove_same rows r in let some : is_some (get (remove rows r) q) ≡ is_some {T = Row} None = ap is_some none in absurd (cc)

  pub still_held : (q : TupleRef) → IsSome (get (remove rows r) q) → IsSome (get rows q)
  still_held q h = subst IsSome (get-remove_other rows r q (not_taken q h)) h

  key_left : (q : TupleRef) → q ≢ r → key_at (remove rows r) q ≡ key_at rows q
  key_left q ne = ap (option_and_then (λ x. Some x.key)) (get-remove_other rows r q ne)

  from_left : (q : TupleRef) → Contains (remove_by (column_cmp no_keys 0 rows) r list) q → Contains list q × (q ≢ r)
  from_left q h = Contains-from_remove_by (λ x. IsSome (value_at no_keys 0 rows x)) (column_cmp no_keys 0 rows) strict_now r (key_readable rows r held) list key_covered q h

  pub bag_without : (new : List TupleRef) → new ≡ remove_by (column_cmp no_keys 0 rows) r list → IsSameBag list (r ∷ new)
  bag_without new items =
      rw items (IsSameBag-remove_by (λ q. IsSome (value_at no_keys 0 rows q)) (column_cmp no_keys 0 rows) strict_now r (key_readable rows r held) list key_covered keyed.rising there)

  pub keyed_without : (new : List TupleRef) → new ≡ remove_by (column_cmp no_keys 0 rows) r list → IsKeyed (remove rows r) new
  keyed_without new items = rw items (record {
    keys_differ = record {
      apart = λ a b p q e. keyed.keys_differ.apart a b (still_held a p) (still_held b q) (sym (key_left a (not_taken a p)) ∙ e ∙ key_left b (not_taken b q));
    };
    lists = record {
      held = λ k d l.
          let at = get_or (remove_by (column_cmp no_keys 0 rows) r list) k d in
          let left = from_left at (Contains-get_or (remove_by (column_cmp no_keys 0 rows) r list) k d l) in
          held-remove_other rows r at left.1 (All-contains (λ x. IsSome (get rows x)) list at keyed.lists.held left.0);
      count =
          let shorter : length (remove_by (column_cmp no_keys 0 rows) r list) + 1 ≡ length list =
          length-remove_by (λ x. IsSome (value_at no_keys 0 rows x)) (column_cmp no_keys 0 rows) strict_now r (key_readable rows r held) list key_covered keyed.rising there in
          let fewer : len (remove rows r) + 1 ≡ len rows = len-remove_held rows r held in
          let same : length list ≡ len rows = keyed.lists.count in
          omega arith;
      listed = λ q h.
          Contains-remove_by (λ x. IsSome (value_at no_keys 0 rows x)) (column_cmp no_keys 0 rows) strict_now r (key_readable rows r held) list key_covered q
          (keyed.lists.listed q (still_held q h)) (not_taken q h);
    };
    rising =
        IsRising-agree (column_cmp no_keys 0 rows) (column_cmp no_keys 0 (remove rows r)) (remove_by (column_cmp no_keys 0 rows) r list)
        (λ p q hp hq.
        let ep : get (remove rows r) p ≡ get rows p = get-remove_other rows r p (from_left p hp).1 in
        let eq : get (remove rows r) q ≡ get rows q = get-remove_other rows r q (from_left q hq).1 in
        rw (ep, eq) refl)
        (IsRising-remove_by (λ q. IsSome (value_at no_keys 0 rows q)) (column_cmp no_keys 0 rows) strict_now r list keyed.rising);
  })

pub from_some : {A X : Type 0} (o : Option A) → IsSome o → IfSome o (λ _. X) → X
from_some None some h = absurd (cc)
from_some (Some a) some h = h

-- the key of the row that was put is the one that is read
pub from_none : {A X : Type 0} (o : Option A) → (IsSome o → ⊥) → IfNone o X → X
from_none None none h = h
from_none (Some x) none h = absurd (none refl)

pub got_key : (rows now : Tuples Row) (r : TupleRef) (t : Row) (key : Value) → now ≡ insert rows r t → key_at now r ≡ Some key → key ≡ t.key
got_key rows now r t key put found = same_Some key t.key (sym found ∙ ap (λ m. key_at m r) put ∙ ap (option_and_then (λ x. Some x.key)) (get-insert_same rows r t))

-- a row that is there with this key
pub key_found : (rows : Tuples Row) (list : List TupleRef) (r : TupleRef) (t : Row) (keyed : IsKeyed rows list) (fresh : get rows r ≡ None) (o : Option TupleRef) → IsSome o → IfSome o (Contains list) → IfSome o (λ q. place rows list r t keyed fresh q ≡ Equal) → HasKey rows t.key
key_found rows list r t keyed fresh None some held equal = absurd (cc)
key_found rows list r t keyed fresh (Some q) some held equal = has_key rows list r t keyed fresh q held equal

-- a row is changed and keeps its key
module _ (rows : Tuples Row) (list : List TupleRef) (r : TupleRef) (t u : Row) (keyed : IsKeyed rows list) (found : get rows r ≡ Some t) (same_key : u.key ≡ t.key) where
  pub held_before : (q : TupleRef) → IsSome (get (insert rows r u) q) → IsSome (get rows q)
  held_before q h = elim (same_or_other q r) [
    | inl same ↦ subst (λ x. IsSome (get rows x)) (sym same) (ap is_some found)
    | inr other ↦ subst IsSome (get-insert_other rows r q u other) h
  ]

  pub key_same : (q : TupleRef) → key_at (insert rows r u) q ≡ key_at rows q
  key_same q = elim (same_or_other q r) [
    | inl same ↦ ap (key_at (insert rows r u)) same ∙ ap (option_and_then (λ x. Some x.key)) (get-insert_same rows r u) ∙ ap (λ k. Some k) same_key ∙ sym (ap (option_and_then (λ x. Some x.key)) found) ∙ sym (ap (key_at rows) same)
    | inr other ↦ ap (option_and_then (λ x. Some x.key)) (get-insert_other rows r q u other)
  ]

  pub keyed_again : IsKeyed (insert rows r u) list
  keyed_again = record {
    keys_differ = record {
      apart = λ a b p q e. keyed.keys_differ.apart a b (held_before a p) (held_before b q) (sym (key_same a) ∙ e ∙ key_same b);
    };
    lists = record {
      held = λ k d l. held-insert rows r (get_or list k d) u (keyed.lists.held k d l);
      count = keyed.lists.count ∙ sym (len-insert_held rows r u (ap is_some found));
      listed = λ q h. keyed.lists.listed q (held_before q h);
    };
    rising = IsRising-agree (column_cmp no_keys 0 rows) (column_cmp no_keys 0 (insert rows r u)) list
        (λ p q _ _. let ep : key_at (insert rows r u) p ≡ key_at rows p = key_same p in let eq : key_at (insert rows r u) q ≡ key_at rows q = key_same q in rw (ep, eq) refl)
        keyed.rising;
  }
