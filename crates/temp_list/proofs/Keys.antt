-- The one row that has a key.
use Rattle.std.proofs.Common.{◌≡◌, ◌≢◌, zero, suc, Bool, true, false, cond, List, [], ◌∷◌, Option, Some, IsSome, Ordering, get_or, refl, sym, ap, ◌∙◌, subst, arith}
use Rattle.std.specs.List.{filter, All, Contains}
use Rattle.std.specs.Option.{option_and_then}
use Rattle.std.specs.FinMap as finite
use Rattle.std.specs.declared.cmp.Ordering.TheVariants.{Less, Equal}
use Rattle.std.specs.Ordering.{is_eq}
use Rattle.std.proofs.lemmas.List.Elements.{All-tail}
use Rattle.std.proofs.lemmas.Bool.{false_from_ne_true}
use Rattle.common_lemmas.proofs.Filters.{filter_none}
use Rattle.part_raw.specs.declared.tuple_ref.TupleRef.{TupleRef}
use Rattle.part_raw.proofs.Tuples.{held_tuple}
use Rattle.plain_tables.specs.declared.condition.Op.TheVariants as op
use Rattle.plain_tables.specs.declared.value.Value.{Value}
use Rattle.plain_tables.specs.Queries.{stands}
use Rattle.plain_tables.proofs.Values.{value_cmp-exact}
use Rattle.mm_index.specs.Order.{IsRising}
use Rattle.mm_index.proofs.Placed.{cmp_itself}
use Rattle.mm_relation.specs.Rows.{Row}
use Rattle.mm_relation.specs.Reading.{value_at, key_at}
use Rattle.mm_relation.specs.Order.{column_cmp, column_cmp_strict, held_from_value}
use Rattle.mm_relation.specs.State.{tree_list, RelationState, IsKept, no_keys}
use Rattle.mm_relation.proofs.KeyOrder.{key_readable}
use Rattle.temp_list.specs.Reading.{or_null, value_in, standing}
use Rattle.temp_list.proofs.Ranges.{range_stands}
use Rattle.temp_list.proofs.Searches.{equal_one, some_read}

-- of a list that rises, a test that only one member passes keeps this one
pub filter_one : {A : Type 0} (cmp : A → A → Ordering) (p : A → Bool) (x : A) (xs : List A) → cmp x x ≡ Equal → p x ≡ true → IsRising cmp xs → Contains xs x → All (λ y. p y ≡ true → y ≡ x) xs → filter p xs ≡ x ∷ []
filter_one cmp p x [] same passes rising h only = absurd (omega (arith, h.1))
filter_one {A} cmp p x (y ∷ ys) same passes rising (zero, l, e) only =
    let rest : filter p ys ≡ [] =
    filter_none p ys (λ k d h. false_from_ne_true (p (get_or ys k d)) (λ t.
    let one : get_or ys k d ≡ x = only (suc k) d (omega arith) t in
    let less : cmp y (get_or ys k d) ≡ Less = rising 0 (suc k) d (omega arith) (omega arith) in
    let turned : cmp x x ≡ Less = sym (λ i. cmp (e i) (one i)) ∙ less in
    let clash : Equal ≡ Less = sym same ∙ turned in
    cc)) in
    rw (ap p e ∙ passes, rest) (ap (λ (z : A). z ∷ []) e)
filter_one {A} cmp p x (y ∷ ys) same passes rising (suc k, l, e) only =
    let less : cmp y (get_or ys k x) ≡ Less = rising 0 (suc k) x (omega arith) (omega (arith, l)) in
    elim (p y) as (λ b. p y ≡ b → cond b (y ∷ filter p ys) (filter p ys) ≡ x ∷ []) [
      | true ↦ λ t.
          let one : y ≡ x = only 0 y (omega arith) t in
          let turned : cmp x x ≡ Less = sym (λ i. cmp (one i) (e i)) ∙ less in
          let clash : Equal ≡ Less = sym same ∙ turned in
          cc
      | false ↦ λ t.
          filter_one cmp p x ys same passes (λ i j d h m. rising (suc i) (suc j) d (omega arith) (omega arith)) (k, omega (arith, l), e) (All-tail (λ z. p z ≡ true → z ≡ x) y ys only)
    ] refl

-- each value equals itself, null among them
pub equals_itself : (v : Value) → stands op.Eq v v ≡ true
equals_itself v = sym (range_stands op.Eq (λ e. cc) v v) ∙ ap is_eq ((value_cmp-exact v v).1 refl)

-- what a row that is held has as its key is read of it
pub has_key : (relations : List RelationState) (s : RelationState) (r : TupleRef) → IsSome (finite.get s.rows r) → key_at s.rows r ≡ Some (value_in relations s 0 r)
has_key relations s r held =
    let row = held_tuple s.rows r held in
    some_read (key_at s.rows r) (subst (λ (o : Option Row). IsSome (option_and_then (λ (u : Row). Some u.key) o)) (sym row.1) refl)

-- a test that a row passes, and besides it only rows of its key, finds this row alone
pub only_key : (relations : List RelationState) (s : RelationState) → IsKept s → (p : TupleRef → Bool) (to : TupleRef) → IsSome (finite.get s.rows to) → p to ≡ true
    → ((r : TupleRef) → IsSome (finite.get s.rows r) → p r ≡ true → key_at s.rows r ≡ key_at s.rows to) → filter p (tree_list s.by_key) ≡ to ∷ []
only_key relations s kept p to held passes same =
    filter_one (column_cmp no_keys 0 s.rows) p to (tree_list s.by_key)
    (cmp_itself (λ r. IsSome (value_at no_keys 0 s.rows r)) (column_cmp no_keys 0 s.rows) (column_cmp_strict no_keys 0 s.rows kept.keyed.keys_differ) to (key_readable s.rows to held))
    passes kept.keyed.rising (kept.keyed.lists.listed to held)
    (λ k d l e.
    let r : TupleRef = get_or (tree_list s.by_key) k d in
    let r_held : IsSome (finite.get s.rows r) = kept.keyed.lists.held k d l in
    kept.keyed.keys_differ.apart r to r_held held (same r r_held e))

module _ (relations : List RelationState) (s : RelationState) (kept : IsKept s) (key : Value) where
  -- a row that passes has the key
  pub same_key : (r : TupleRef) → IsSome (finite.get s.rows r) → stands op.Eq (value_in relations s 0 r) key ≡ true → key_at s.rows r ≡ Some key
  same_key r held e = has_key relations s r held ∙ ap (λ (v : Value). Some v) (equal_one (value_in relations s 0 r) key e)

  -- the row that has the key is the one whose key equals it
  pub standing_found : (r : TupleRef) → key_at s.rows r ≡ Some key → standing relations s 0 op.Eq key ≡ r ∷ []
  standing_found r at =
      let held : IsSome (finite.get s.rows r) = held_from_value no_keys 0 s.rows r (subst (λ (o : Option Value). IsSome o) (sym at) refl) in
      let read : value_in relations s 0 r ≡ key = ap or_null at in
      only_key relations s kept (λ q. stands op.Eq (value_in relations s 0 q) key) r held
      (ap (λ (v : Value). stands op.Eq v key) read ∙ equals_itself key)
      (λ q q_held e. same_key q q_held e ∙ sym at)

  -- where none has it, none equals it
  pub standing_none : ((r : TupleRef) → key_at s.rows r ≢ Some key) → standing relations s 0 op.Eq key ≡ []
  standing_none none =
      filter_none (λ q. stands op.Eq (value_in relations s 0 q) key) (tree_list s.by_key)
      (λ k d l. false_from_ne_true (stands op.Eq (value_in relations s 0 (get_or (tree_list s.by_key) k d)) key)
      (λ e. none (get_or (tree_list s.by_key) k d) (same_key (get_or (tree_list s.by_key) k d) (kept.keyed.lists.held k d l) e)))
