-- The laws of a map of tuples, for this crate and its callers: what is found after a put, after a take and after a write.
use Rattle.std.specs.Bool.{Decides}
use Rattle.std.proofs.Common.{◌≡◌, ◌≢◌, ◌+◌, Bool, true, false, cond, Option, Some, None, is_some, IsSome, refl, sym, ap, subst, ◌∙◌}
use Rattle.std.specs.FinMap.{get, insert, remove, len, empty, get-empty, get-insert, get-remove, len-insert, same_map}
use Rattle.std.specs.Ordering.{eq_by_cmp}
use Rattle.std.specs.Cmp.{eq_by_cmp_equiv}
use Rattle.common_lemmas.proofs.Options.{is_some-Some}
use Rattle.common_lemmas.proofs.Orders.{is_eq-Equal}
use Rattle.part_raw.specs.declared.tuple_ref.TupleRef.{TupleRef}
use Rattle.part_raw.specs.TupleRefs.{ref_cmp}
use Rattle.part_raw.specs.Store.{Tuples}
use Rattle.part_raw.proofs.Refs.{ref_cmp_total, ref_cmp_exact}

abbrev pub same_ref : TupleRef → TupleRef → Bool
same_ref = eq_by_cmp ref_cmp

pub same_ref_self : (r : TupleRef) → same_ref r r ≡ true
same_ref_self = (eq_by_cmp_equiv ref_cmp_total).refl

pub same_ref_true : (q r : TupleRef) → same_ref q r ≡ true → q ≡ r
same_ref_true q r e = ref_cmp_exact q r (is_eq-Equal (ref_cmp q r) e)

pub Decides-same_ref : (q r : TupleRef) → Decides (same_ref q r) (q ≡ r)
Decides-same_ref q r = (same_ref_true q r, λ e. subst (λ s. same_ref q s ≡ true) e (same_ref_self q))

pub same_ref_other : (q r : TupleRef) → q ≢ r → same_ref q r ≡ false
same_ref_other q r differs =
    elim (same_ref q r) as (λ b. same_ref q r ≡ b → b ≡ false) [
      | true ↦ λ e. absurd (differs (same_ref_true q r e))
      | false ↦ λ e. refl
    ] refl

module _ {T : Type 0} where
  -- nothing is held at first
  pub held_at_first : (q : TupleRef) → get (empty {X = T} {R = ref_cmp}) q ≡ None
  held_at_first q = get-empty ref_cmp q

  -- after a put, or a write through `get_mut`, at this reference
  pub get-insert_same : (tuples : Tuples T) (r : TupleRef) (tuple : T) → get (insert tuples r tuple) r ≡ Some tuple
  get-insert_same tuples r tuple = get-insert ref_cmp_total tuples r tuple r ∙ ap (λ b. cond b (Some tuple) (get tuples r)) (same_ref_self r)

  -- the same at another reference
  pub get-insert_other : (tuples : Tuples T) (r q : TupleRef) (tuple : T) → q ≢ r → get (insert tuples r tuple) q ≡ get tuples q
  get-insert_other tuples r q tuple differs = get-insert ref_cmp_total tuples r tuple q ∙ ap (λ b. cond b (Some tuple) (get tuples q)) (same_ref_other q r differs)

  -- after a take at this reference
  pub get-remove_same : (tuples : Tuples T) (r : TupleRef) → get (remove tuples r) r ≡ None
  get-remove_same tuples r = get-remove ref_cmp_total tuples r r ∙ ap (λ b. cond b None (get tuples r)) (same_ref_self r)

  -- the same at another reference
  pub get-remove_other : (tuples : Tuples T) (r q : TupleRef) → q ≢ r → get (remove tuples r) q ≡ get tuples q
  get-remove_other tuples r q differs = get-remove ref_cmp_total tuples r q ∙ ap (λ b. cond b None (get tuples q)) (same_ref_other q r differs)

  -- what is held stays held after a put
  pub held-insert : (tuples : Tuples T) (r q : TupleRef) (tuple : T) → IsSome (get tuples q) → IsSome (get (insert tuples r tuple) q)
  held-insert tuples r q tuple held = ap is_some (get-insert ref_cmp_total tuples r tuple q) ∙ either (same_ref q r) tuple (get tuples q) held
    where
      either : (b : Bool) (x : T) (o : Option T) → IsSome o → IsSome (cond b (Some x) o)
      either true x o held = refl
      either false x o held = held

  -- what is held stays held after a take at another reference
  pub held-remove_other : (tuples : Tuples T) (r q : TupleRef) → q ≢ r → IsSome (get tuples q) → IsSome (get (remove tuples r) q)
  held-remove_other tuples r q differs held = ap is_some (get-remove_other tuples r q differs) ∙ held

  -- a put at a reference that was not held adds one tuple
  pub len-insert_fresh : (tuples : Tuples T) (r : TupleRef) (tuple : T) → get tuples r ≡ None → len (insert tuples r tuple) ≡ len tuples + 1
  len-insert_fresh tuples r tuple fresh = len-insert ref_cmp_total tuples r tuple ∙ ap (λ o. cond (is_some o) (len tuples) (len tuples + 1)) fresh

  -- a write at a reference that is held adds none
  pub len-insert_held : (tuples : Tuples T) (r : TupleRef) (tuple : T) → IsSome (get tuples r) → len (insert tuples r tuple) ≡ len tuples
  len-insert_held tuples r tuple held = len-insert ref_cmp_total tuples r tuple ∙ ap (λ b. cond b (len tuples) (len tuples + 1)) held

  -- maps in which each reference finds the same are equal
  pub same_tuples : (m n : Tuples T) → ((q : TupleRef) → get m q ≡ get n q) → m ≡ n
  same_tuples m n same = same_map ref_cmp_total ref_cmp_exact m n same

  -- to put what was taken at its reference is to undo the take
  pub insert-remove : (tuples : Tuples T) (r : TupleRef) (tuple : T) → get tuples r ≡ Some tuple → insert (remove tuples r) r tuple ≡ tuples
  insert-remove tuples r tuple found = same_tuples _ _ (λ q. at q)
    where
      at : (q : TupleRef) → get (insert (remove tuples r) r tuple) q ≡ get tuples q
      at q = elim (same_ref q r) as (λ b. same_ref q r ≡ b → get (insert (remove tuples r) r tuple) q ≡ get tuples q) [
        | true ↦ λ e. ap (get (insert (remove tuples r) r tuple)) (same_ref_true q r e) ∙ get-insert_same _ r tuple ∙ sym found ∙ ap (get tuples) (sym (same_ref_true q r e))
        | false ↦ λ e. get-insert ref_cmp_total (remove tuples r) r tuple q ∙ ap (λ b. cond b (Some tuple) (get (remove tuples r) q)) e ∙ get-remove ref_cmp_total tuples r q ∙ ap (λ b. cond b None (get tuples q)) e
      ] refl

  -- and to take what was put is to undo the put
  pub remove-insert : (tuples : Tuples T) (r : TupleRef) (tuple : T) → get tuples r ≡ None → remove (insert tuples r tuple) r ≡ tuples
  remove-insert tuples r tuple fresh = same_tuples _ _ (λ q. elim (same_ref q r) as (λ b. same_ref q r ≡ b → get (remove (insert tuples r tuple) r) q ≡ get tuples q) [
    | true ↦ λ e. let same = same_ref_true q r e in ap (get (remove (insert tuples r tuple) r)) same ∙ get-remove_same (insert tuples r tuple) r ∙ sym fresh ∙ ap (get tuples) (sym same)
    | false ↦ λ e. get-remove ref_cmp_total (insert tuples r tuple) r q ∙ ap (λ b. cond b None (get (insert tuples r tuple) q)) e ∙ get-insert ref_cmp_total tuples r tuple q ∙ ap (λ b. cond b (Some tuple) (get tuples q)) e
  ] refl)

  -- what is held under a reference
  pub held_tuple : (tuples : Tuples T) (r : TupleRef) → IsSome (get tuples r) → (tuple : T) × (get tuples r ≡ Some tuple)
  held_tuple tuples r held = is_some-Some (get tuples r) held

  -- a take takes one
  pub len-remove_held : (tuples : Tuples T) (r : TupleRef) → IsSome (get tuples r) → len (remove tuples r) + 1 ≡ len tuples
  len-remove_held tuples r held =
      let found = held_tuple tuples r held in
      sym (len-insert_fresh (remove tuples r) r found.0 (get-remove_same tuples r)) ∙ ap len (insert-remove tuples r found.0 found.1)

  -- what is put in the place of another stays alone
  pub insert-twice : (tuples : Tuples T) (r : TupleRef) (x y : T) → insert (insert tuples r x) r y ≡ insert tuples r y
  insert-twice tuples r x y = same_tuples _ _ (λ q. elim (same_ref q r) as (λ b. same_ref q r ≡ b → get (insert (insert tuples r x) r y) q ≡ get (insert tuples r y) q) [
    | true ↦ λ e. let same = same_ref_true q r e in ap (get (insert (insert tuples r x) r y)) same ∙ get-insert_same (insert tuples r x) r y ∙ sym (get-insert_same tuples r y) ∙ ap (get (insert tuples r y)) (sym same)
    | false ↦ λ e. get-insert ref_cmp_total (insert tuples r x) r y q ∙ ap (λ b. cond b (Some y) (get (insert tuples r x) q)) e ∙ get-insert ref_cmp_total tuples r x q ∙ ap (λ b. cond b (Some x) (get tuples q)) e
        ∙ sym (get-insert ref_cmp_total tuples r y q ∙ ap (λ b. cond b (Some y) (get tuples q)) e)
  ] refl)

  -- to put what is there changes nothing
  pub insert-itself : (tuples : Tuples T) (r : TupleRef) (x : T) → get tuples r ≡ Some x → insert tuples r x ≡ tuples
  insert-itself tuples r x found = same_tuples _ _ (λ q. elim (same_ref q r) as (λ b. same_ref q r ≡ b → get (insert tuples r x) q ≡ get tuples q) [
    | true ↦ λ e. let same = same_ref_true q r e in ap (get (insert tuples r x)) same ∙ get-insert_same tuples r x ∙ sym found ∙ ap (get tuples) (sym same)
    | false ↦ λ e. get-insert ref_cmp_total tuples r x q ∙ ap (λ b. cond b (Some x) (get tuples q)) e
  ] refl)
