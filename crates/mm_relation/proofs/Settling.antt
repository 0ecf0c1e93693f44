-- The hidden rows of a store, as they are dropped slot after slot.
use Rattle.std.proofs.Common.{◌≡◌, ℕ, ◌+◌, ◌*◌, ◌<◌, ◌≤◌, true, false, List, Option, None, Some, IsSome, is_some, refl, sym, ap, ◌∙◌, subst, arith, inl, inr}
use Rattle.std.proofs.lemmas.Bool.{cases_lt}
use Rattle.std.specs.FinMap.{get, remove, empty, empty_of_len, len}
use Rattle.part_raw.specs.declared.tuple_ref.TupleRef.{TupleRef}
use Rattle.part_raw.specs.TupleRefs.{ref_cmp}
use Rattle.part_raw.specs.Store.{Tuples}
use Rattle.part_raw.proofs.Mapped.{len-mapped}
use Rattle.part_raw.proofs.Lookup.{same_or_other}
use Rattle.part_raw.proofs.Tuples.{get-remove_same, get-remove_other, same_tuples, held_at_first}
use Rattle.mm_relation.specs.declared.row.Cell.{Cell}
use Rattle.mm_relation.specs.Rows.{Aside, Row, RowStore, row_of, rows_in, has_slot, among}
use Rattle.mm_relation.specs.Settling.{DropsHidden, HasNoneBefore}
use Rattle.mm_relation.specs.Slots.{LieWithin}
use Rattle.mm_relation.proofs.Stored.{held_alike}
use Rattle.mm_relation.proofs.Parted.{get-among, not_both}
use Rattle.mm_relation.proofs.Hiding.{hidden_slot, none_some}

-- the row in a slot of the set is hidden
pub slot_hidden : (hidden : List ℕ) (tuples : Tuples (List Cell)) (r : TupleRef) → has_slot hidden r.number ≡ true → IsSome (get tuples r) → IsSome (get (rows_in (among hidden tuples)) r)
slot_hidden hidden tuples r is_in held = sym (held_alike (among hidden tuples) r) ∙ subst IsSome (sym (get-among hidden tuples r is_in)) held

-- the row of a slot is dropped
pub none_dropped : (slot : ℕ) (rows : Tuples Row) → HasNoneBefore slot rows → HasNoneBefore (slot + 1) (remove rows (record { number = slot }))
none_dropped slot rows none r held = elim (same_or_other r (record { number = slot })) [
  | inl same ↦ absurd (none_some (ap (get (remove rows (record { number = slot }))) same ∙ get-remove_same rows (record { number = slot })) held)
  | inr other ↦ past r (none r (subst IsSome (get-remove_other rows (record { number = slot }) r other) held)) (λ same. other (ap (λ (n : ℕ). record { number = n }) same))
]
  where
    past : (r : TupleRef) → slot ≤ r.number → (r.number ≡ slot → ⊥) → slot + 1 ≤ r.number
    past r after other = omega (arith, after, other)

-- slots that aren't in the set are passed over
pub none_passed : (hidden : List ℕ) (tuples : Tuples (List Cell)) (from to : ℕ) → ((slot : ℕ) → from ≤ slot → slot < to → has_slot hidden slot ≡ false) → HasNoneBefore from (rows_in (among hidden tuples)) → HasNoneBefore to (rows_in (among hidden tuples))
none_passed hidden tuples from to lacks none r held = elim (cases_lt r.number to) [
  | inl below ↦ absurd (not_both _ (hidden_slot hidden tuples r held) (lacks r.number (none r held) below))
  | inr above ↦ above
]

-- the slots of hidden rows are in the words between which the set has slots
module _ (hidden : List ℕ) (tuples : Tuples (List Cell)) (from to : ℕ) (within : LieWithin hidden from to) where
  pub none_before_words : HasNoneBefore (from * 64) (rows_in (among hidden tuples))
  none_before_words r held = omega (arith, (within r.number (hidden_slot hidden tuples r held)).0)

  pub none_behind_words : (r : TupleRef) → IsSome (get (rows_in (among hidden tuples)) r) → r.number < to * 64
  none_behind_words r held = omega (arith, (within r.number (hidden_slot hidden tuples r held)).1)

-- no slot is left
pub all_dropped : (rows : Tuples Row) (slots : ℕ) → HasNoneBefore slots rows → ((r : TupleRef) → IsSome (get rows r) → r.number < slots) → rows ≡ empty {X = Row} {R = ref_cmp}
all_dropped rows slots none within = same_tuples rows (empty {X = Row} {R = ref_cmp}) (λ r. finds_none r (get rows r) refl)
  where
    finds_none : (r : TupleRef) (o : Option Row) → get rows r ≡ o → get rows r ≡ get (empty {X = Row} {R = ref_cmp}) r
    finds_none r None e = e ∙ sym (held_at_first r)
    finds_none r (Some row) e = let held = ap is_some e in absurd (omega (arith, none r held, within r held))

-- where none is hidden there is none to drop
pub none_hidden : (hidden : List ℕ) (tuples : Tuples (List Cell)) → len (among hidden tuples) ≡ 0 → rows_in (among hidden tuples) ≡ empty {X = Row} {R = ref_cmp}
none_hidden hidden tuples none = empty_of_len (rows_in (among hidden tuples)) (len-mapped (λ r. row_of) (among hidden tuples) ∙ none)

-- one drop more
pub dropped_one : (rows : Tuples Row) (r q : TupleRef) → IsSome (get (remove rows r) q) → IsSome (get rows q)
dropped_one rows r q held = elim (same_or_other q r) [
  | inl same ↦ absurd (none_some (ap (get (remove rows r)) same ∙ get-remove_same rows r) held)
  | inr other ↦ subst IsSome (get-remove_other rows r q other) held
]

pub drops_then : (old mid new : RowStore) → DropsHidden old mid → DropsHidden mid new → DropsHidden old new
drops_then old mid new first next = record {
  tuples = next.tuples ∙ first.tuples;
  width = next.width ∙ first.width;
  aside = next.aside ∙ ap (λ (a : Aside). record a { hidden = new.aside.hidden }) first.aside;
  hidden = λ r held. first.hidden r (next.hidden r held);
}
