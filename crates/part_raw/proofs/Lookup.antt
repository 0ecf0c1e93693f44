-- What is found in the map of the tuples of all partitions: what the slot of the reference holds.
use Rattle.std.proofs.Common.{◌≡◌, ◌≢◌, ◌⊎◌, ℕ, zero, suc, ◌+◌, ◌*◌, ◌<◌, ◌≤◌, List, [], ◌∷◌, length, get_or, Option, Some, None, refl, sym, ap, ◌∙◌, arith, inl, inr}
use Rattle.std.proofs.lemmas.Bool.{cases_eq}
use Rattle.std.specs.FinMap.{get, insert}
use Rattle.part_raw.specs.declared.tuple_ref.TupleRef.{TupleRef}
use Rattle.part_raw.specs.TupleRefs.{ref_to, part_of, slot_of}
use Rattle.part_raw.specs.Store.{Tuples}
use Rattle.part_raw.specs.Layout.{add_slots, tuples_from, tuples_of}
use Rattle.part_raw.proofs.Refs.{numbered, ref_to-itself, slot_of-within}
use Rattle.part_raw.proofs.Tuples.{held_at_first, get-insert_same, get-insert_other}

module _ {T : Type 0} where
  -- the first of two that is some
  abbrev or_else : Option T → Option T → Option T
  or_else (Some tuple) other = Some tuple
  or_else None other = other

  -- what a slot of a partition holds
  abbrev pub held_in : List (List (Option T)) → ℕ → ℕ → Option T
  held_in parts part slot = get_or (get_or parts part []) slot None

  -- no partition has more slots than references tell apart
  abbrev pub AreSmall : List (List (Option T)) → Type 0
  AreSmall parts = (part : ℕ) → part < length parts → length (get_or parts part []) ≤ 256

  -- at a reference to none of these slots they add nothing
  add_slots_away : (part slot : ℕ) (slots : List (Option T)) (tuples : Tuples T) (q : TupleRef) → ((k : ℕ) → k < length slots → q.number ≢ part * 256 + slot + k) → get (add_slots part slot slots tuples) q ≡ get tuples q
  unfolding add_slots
  add_slots_away part slot [] tuples q away = refl
  add_slots_away part slot (None ∷ rest) tuples q away =
      add_slots_away part (slot + 1) rest tuples q (λ k within e. away (suc k) (omega (arith, within)) (omega (arith, e)))
  add_slots_away part slot (Some tuple ∷ rest) tuples q away =
      get-insert_other _ (ref_to part slot) q tuple (λ e. away 0 (omega arith) (let n : q.number ≡ part * 256 + slot = ap (λ r. r.number) e in omega (arith, n)))
      ∙ add_slots_away part (slot + 1) rest tuples q (λ k within e. away (suc k) (omega (arith, within)) (omega (arith, e)))

  -- at a reference to one of these, what it holds
  add_slots_at : (part slot k : ℕ) (slots : List (Option T)) (tuples : Tuples T) (at : ℕ) → at ≡ slot + k → get (add_slots part slot slots tuples) (ref_to part at) ≡ or_else (get_or slots k None) (get tuples (ref_to part at))
  unfolding add_slots
  add_slots_at part slot k [] tuples at e = refl
  add_slots_at part slot zero (None ∷ rest) tuples at e = add_slots_away part (slot + 1) rest tuples (ref_to part at) (λ k within e'. omega (arith, e, e'))
  add_slots_at part slot (suc k) (None ∷ rest) tuples at e = add_slots_at part (slot + 1) k rest tuples at (omega (arith, e))
  add_slots_at part slot zero (Some tuple ∷ rest) tuples at e =
      let same : at ≡ slot = omega (arith, e) in
      ap (λ n. get (insert (add_slots part (slot + 1) rest tuples) (ref_to part slot) tuple) (ref_to part n)) same ∙ get-insert_same _ (ref_to part slot) tuple
  add_slots_at part slot (suc k) (Some tuple ∷ rest) tuples at e =
      get-insert_other _ (ref_to part slot) (ref_to part at) tuple (λ e'. let n : part * 256 + at ≡ part * 256 + slot = ap (λ r. r.number) e' in omega (arith, e, n))
      ∙ add_slots_at part (slot + 1) k rest tuples at (omega (arith, e))

  or_else_none : (o : Option T) → or_else o None ≡ o
  or_else_none None = refl
  or_else_none (Some tuple) = refl

  -- a reference to a partition before these finds nothing
  tuples_before : (part : ℕ) (parts : List (List (Option T))) (q : TupleRef) → q.number < part * 256 → get (tuples_from part parts) q ≡ None
  unfolding tuples_from
  tuples_before part [] q before = held_at_first q
  tuples_before part (slots ∷ rest) q before =
      add_slots_away part 0 slots (tuples_from (part + 1) rest) q (λ k within e. omega (arith, before, e)) ∙ tuples_before (part + 1) rest q (omega (arith, before))

  small_first : (slots : List (Option T)) (rest : List (List (Option T))) → AreSmall (slots ∷ rest) → length slots ≤ 256
  small_first slots rest small = small 0 (omega arith)

  small_rest : (slots : List (Option T)) (rest : List (List (Option T))) → AreSmall (slots ∷ rest) → AreSmall rest
  small_rest slots rest small part within = small (suc part) (omega (arith, within))

  tuples_from-get : (part k slot at : ℕ) (parts : List (List (Option T))) → AreSmall parts → slot < 256 → at ≡ part + k → get (tuples_from part parts) (ref_to at slot) ≡ held_in parts k slot
  unfolding tuples_from
  tuples_from-get part k slot at [] small within e = held_at_first (ref_to at slot)
  tuples_from-get part zero slot at (slots ∷ rest) small within e =
      let same : at ≡ part = omega (arith, e) in
      ap (λ n. get (add_slots part 0 slots (tuples_from (part + 1) rest)) (ref_to n slot)) same
      ∙ add_slots_at part 0 slot slots (tuples_from (part + 1) rest) slot (omega arith)
      ∙ ap (or_else (get_or slots slot None)) (tuples_before (part + 1) rest (ref_to part slot) (omega (arith, within)))
      ∙ or_else_none (get_or slots slot None)
  tuples_from-get part (suc k) slot at (slots ∷ rest) small within e =
      add_slots_away part 0 slots (tuples_from (part + 1) rest) (ref_to at slot) (λ j among e'. omega (arith, e, e', among, small_first slots rest small))
      ∙ tuples_from-get (part + 1) k slot at rest (small_rest slots rest small) within (omega (arith, e))

  -- a reference finds what its slot holds
  pub get-tuples_of : (parts : List (List (Option T))) (q : TupleRef) → AreSmall parts → get (tuples_of parts) q ≡ held_in parts (part_of q) (slot_of q)
  get-tuples_of parts q small = ap (get (tuples_of parts)) (sym (ref_to-itself q)) ∙ tuples_from-get 0 (part_of q) (slot_of q) (part_of q) parts small (slot_of-within q) (omega arith)

-- two references are the same or not
pub same_or_other : (q r : TupleRef) → (q ≡ r) ⊎ (q ≢ r)
same_or_other q r =
    elim (cases_eq q.number r.number) [
      | inl same ↦ inl (ap numbered same)
      | inr differs ↦ inr (λ e. differs (ap (λ x. x.number) e))
    ]
