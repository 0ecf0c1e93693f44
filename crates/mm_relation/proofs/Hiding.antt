-- A store of which some rows are hidden, as rows come and go, are hidden and shown again.
use Rattle.std.proofs.Common.{◌≡◌, ◌≢◌, ℕ, ◌+◌, ◌-◌, ◌/◌, ◌<◌, ◌≤◌, true, false, not, cond, List, [], length, Option, Some, None, IsSome, is_some, refl, sym, ap, ◌∙◌, subst, arith, inl, inr}
use Rattle.std.specs.Prelude.{unwrap_or, Result, Ok, Err, OnOk, OnErr}
use Rattle.std.proofs.lemmas.Bool.{true≢false}
use Rattle.std.specs.FinMap.{get, insert, remove, len, len-empty, empty, empty_of_len}
use Rattle.common_lemmas.proofs.Options.{is_some-Some}
use Rattle.part_raw.specs.declared.tuple_ref.TupleRef.{TupleRef}
use Rattle.part_raw.specs.TupleRefs.{ref_cmp}
use Rattle.part_raw.specs.Store.{Tuples, Store}
use Rattle.part_raw.proofs.Lookup.{same_or_other}
use Rattle.part_raw.proofs.Tuples.{get-insert_same, get-insert_other, get-remove_same, get-remove_other, held-insert, held-remove_other, held_at_first, len-insert_fresh, len-insert_held, len-remove_held}
use Rattle.mm_relation.specs.declared.row.Cell.{Cell}
use Rattle.std.specs.Option.{option_map}
use Rattle.part_raw.proofs.Mapped.{get-mapped, mapped-insert, mapped-remove}
use Rattle.mm_relation.specs.Rows.{row_of, rows_in, row_store, rows_of, aside_of, with_hidden, with_shown, has_slot, ChangesSlot, among, outside, IsParted}
use Rattle.mm_relation.specs.Slots.{HasNoSlot}
use Rattle.mm_relation.proofs.Slots.{no_slot}
use Rattle.mm_relation.proofs.Stored.{held_alike, IsWhole, whole_with, whole_without, whole_none}
use Rattle.mm_relation.proofs.Parted.{outside-held, get-outside, get-among, outside-slot, among-slot, outside-insert, among-insert, outside-remove, among-remove, outside-hidden, among-hidden, outside-shown, among-shown, outside-dropped, among-dropped, outside-same, among-same, get-retained, in_set, not_in, other_slot, not_both, retained-empty}

-- a slot that isn't found set is clear
clear_slot : (words : List ℕ) (slot : ℕ) → (has_slot words slot ≡ true → ⊥) → has_slot words slot ≡ false
clear_slot words slot is_out = elim (has_slot words slot) as (λ b. (b ≡ true → ⊥) → b ≡ false) [
  | true ↦ λ h. absurd (h refl)
  | false ↦ λ h. refl
] is_out

-- nothing is held where nothing is found
pub none_some : {X : Type 0} {o : Option X} → o ≡ None → IsSome o → ⊥
none_some nothing held = true≢false (sym held ∙ ap is_some nothing)

pub parted_none : (width : ℕ) → IsParted width empty empty [] 0 0
parted_none width = record {
  rows = whole_none width;
  numbered = λ r held. absurd (not_held r held);
  held = λ r is_in. absurd (not_both _ is_in (no_slot r.number));
  unnamed = λ r is_in. absurd (not_both _ is_in (no_slot r.number));
  count = ap len (retained-empty {X = List Cell} (in_set [])) ∙ no_len;
  others = omega (arith, ap len (retained-empty {X = List Cell} (not_in [])), no_len);
  within = omega arith;
  few = omega arith;
  covered = λ owed. absurd (omega (arith, owed));
}
  where
    not_held : (r : TupleRef) → IsSome (get (empty {X = List Cell} {R = ref_cmp}) r) → ⊥
    not_held r held = none_some (held_at_first r) held

    no_len : len (empty {X = List Cell} {R = ref_cmp}) ≡ 0
    no_len = len-empty ref_cmp (List Cell)

-- a row that is seen has its slot outside those of hidden rows, and is in the store
module _ (hidden : List ℕ) (tuples : Tuples (List Cell)) (r : TupleRef) where
  pub seen_slot : IsSome (get (rows_in (outside hidden tuples)) r) → has_slot hidden r.number ≡ false
  seen_slot held = outside-slot hidden tuples r (held_alike (outside hidden tuples) r ∙ held)

  pub seen_held : IsSome (get (rows_in (outside hidden tuples)) r) → IsSome (get tuples r)
  seen_held held = outside-held hidden tuples r (held_alike (outside hidden tuples) r ∙ held)

  pub seen_row : has_slot hidden r.number ≡ false → get (rows_in (outside hidden tuples)) r ≡ get (rows_in tuples) r
  seen_row is_out = get-mapped (λ r. row_of) (outside hidden tuples) r ∙ ap (option_map row_of) (get-outside hidden tuples r is_out) ∙ sym (get-mapped (λ r. row_of) tuples r)

  -- the slot of a hidden row is one of them
  pub hidden_slot : IsSome (get (rows_in (among hidden tuples)) r) → has_slot hidden r.number ≡ true
  hidden_slot held = among-slot hidden tuples r (held_alike (among hidden tuples) r ∙ held)

  pub hidden_row : has_slot hidden r.number ≡ true → get (rows_in (among hidden tuples)) r ≡ get (rows_in tuples) r
  hidden_row is_in = get-mapped (λ r. row_of) (among hidden tuples) r ∙ ap (option_map row_of) (get-among hidden tuples r is_in) ∙ sym (get-mapped (λ r. row_of) tuples r)

-- in a store that may be another
-- no row is both hidden and seen
pub are_apart : (hidden : List ℕ) (tuples : Tuples (List Cell)) (r : TupleRef) → IsSome (get (rows_in (among hidden tuples)) r) → get (rows_in (outside hidden tuples)) r ≡ None
are_apart hidden tuples r held = elim (get (rows_in (outside hidden tuples)) r) as (λ o. get (rows_in (outside hidden tuples)) r ≡ o → o ≡ None) [
  | None ↦ λ e. refl
  | Some row ↦ λ e. absurd (not_both _ (hidden_slot hidden tuples r held) (seen_slot hidden tuples r (ap is_some e)))
] refl

pub parted_either : {E : Type 0} (before now other : Store Cell) (hidden : List ℕ) (hidden_count owed : ℕ) (result : Result (Unit {0}) E) → OnOk result (now ≡ other) → OnErr result (now ≡ before)
    → IsParted other.width other.tuples other.counts hidden hidden_count owed → IsParted before.width before.tuples before.counts hidden hidden_count owed → IsParted now.width now.tuples now.counts hidden hidden_count owed
parted_either before now other hidden hidden_count owed (Ok x) ok err there parted = subst (λ (s : Store Cell). IsParted s.width s.tuples s.counts hidden hidden_count owed) (sym ok) there
parted_either before now other hidden hidden_count owed (Err e) ok err there parted = subst (λ (s : Store Cell). IsParted s.width s.tuples s.counts hidden hidden_count owed) (sym err) parted

module _ (width : ℕ) (tuples : Tuples (List Cell)) (counts : Tuples ℕ) (hidden : List ℕ) (hidden_count owed : ℕ) (parted : IsParted width tuples counts hidden hidden_count owed) where
  -- a reference that holds no row is not hidden
  pub fresh_slot : (r : TupleRef) → get tuples r ≡ None → has_slot hidden r.number ≡ false
  fresh_slot r fresh = clear_slot hidden r.number (λ is_in. none_some fresh (parted.held r is_in))

  -- the number beside a row that is seen
  pub number_seen : (r : TupleRef) → has_slot hidden r.number ≡ false → unwrap_or (get (outside hidden counts) r) 0 ≡ unwrap_or (get counts r) 0
  number_seen r is_out = ap (λ o. unwrap_or o 0) (get-outside hidden counts r is_out)

  -- where no link names a row that is seen none names any
  pub none_named : ((r : TupleRef) → IsSome (get (outside hidden tuples) r) → unwrap_or (get (outside hidden counts) r) 0 ≡ 0) → (r : TupleRef) → IsSome (get tuples r) → unwrap_or (get counts r) 0 ≡ 0
  none_named unnamed r held = elim (has_slot hidden r.number) as (λ b. has_slot hidden r.number ≡ b → unwrap_or (get counts r) 0 ≡ 0) [
    | true ↦ λ is_in. ap (λ o. unwrap_or o 0) (parted.unnamed r is_in)
    | false ↦ λ is_out. sym (number_seen r is_out) ∙ unnamed r (subst IsSome (sym (get-outside hidden tuples r is_out)) held)
  ] refl

  -- memory for more slots, and other numbers of rows that are owed
  pub parted_covered : (after : List ℕ) (now_owed : ℕ) → ((slot : ℕ) → has_slot after slot ≡ has_slot hidden slot) → hidden_count ≤ now_owed → now_owed ≤ 16777216
      → (0 < now_owed → (r : TupleRef) → IsSome (get tuples r) → r.number / 64 < length after) → IsParted width tuples counts after hidden_count now_owed
  parted_covered after now_owed same within few covered = record {
    rows = parted.rows;
    numbered = parted.numbered;
    held = λ r is_in. parted.held r (sym (same r.number) ∙ is_in);
    unnamed = λ r is_in. parted.unnamed r (sym (same r.number) ∙ is_in);
    count = ap len (among-same hidden after tuples same) ∙ parted.count;
    others = ap (λ m. len m + hidden_count) (outside-same hidden after tuples same) ∙ parted.others;
    within = within;
    few = few;
    covered = covered;
  }

  -- where no row is hidden no slot is
  pub none_hidden : hidden_count ≡ 0 → HasNoSlot hidden
  none_hidden is_none slot = clear_slot hidden slot (λ is_in.
      let r : TupleRef = record { number = slot } in
      let gone : among hidden tuples ≡ empty = empty_of_len (among hidden tuples) (parted.count ∙ is_none) in
      none_some (sym (get-among hidden tuples r is_in) ∙ ap (λ m. get m r) gone ∙ held_at_first r) (parted.held r is_in))

  -- nor where nothing is owed
  pub none_owed : owed ≡ 0 → HasNoSlot hidden
  none_owed nothing = none_hidden (omega (arith, nothing, parted.within))

  module _ (r : TupleRef) where
    -- a row comes
    pub parted_with : (cells : List Cell) → get tuples r ≡ None → IsWhole width cells → (0 < owed → (q : TupleRef) → IsSome (get (insert tuples r cells) q) → q.number / 64 < length hidden) → IsParted width (insert tuples r cells) (insert counts r 0) hidden hidden_count owed
    parted_with cells fresh is covered =
        let is_out = fresh_slot r fresh in record {
          rows = whole_with width tuples r parted.rows cells is;
          numbered = λ q held. elim (same_or_other q r) [
            | inl same ↦ subst (λ p. IsSome (get (insert counts r 0) p)) (sym same) (ap is_some (get-insert_same counts r 0))
            | inr other ↦ held-insert counts r q 0 (parted.numbered q (subst IsSome (get-insert_other tuples r q cells other) held))
          ];
          held = λ q is_in. held-insert tuples r q cells (parted.held q is_in);
          unnamed = λ q is_in. get-insert_other counts r q 0 (away is_out q is_in) ∙ parted.unnamed q is_in;
          count = ap len (among-insert hidden tuples r is_out cells) ∙ parted.count;
          others = omega (arith, ap len (outside-insert hidden tuples r is_out cells), len-insert_fresh (outside hidden tuples) r cells (get-outside hidden tuples r is_out ∙ fresh), len-insert_fresh tuples r cells fresh, parted.others);
          within = parted.within;
          few = parted.few;
          covered = covered;
        }
      where
        away : has_slot hidden r.number ≡ false → (q : TupleRef) → has_slot hidden q.number ≡ true → q ≢ r
        away is_out q is_in same = not_both _ (ap (λ (p : TupleRef). has_slot hidden p.number) (sym same) ∙ is_in) is_out

    -- a row that is seen goes, or is written, or gets another number
    module _ (is_out : has_slot hidden r.number ≡ false) (there : IsSome (get tuples r)) where
      away : (q : TupleRef) → has_slot hidden q.number ≡ true → q ≢ r
      away q is_in same = not_both _ (ap (λ (p : TupleRef). has_slot hidden p.number) (sym same) ∙ is_in) is_out

      seen : IsSome (get (outside hidden tuples) r)
      seen = subst IsSome (sym (get-outside hidden tuples r is_out)) there

      pub parted_without : IsParted width (remove tuples r) (remove counts r) hidden hidden_count owed
      parted_without = record {
        rows = whole_without width tuples r parted.rows;
        numbered = λ q held. let other = left q held in held-remove_other counts r q other (parted.numbered q (subst IsSome (get-remove_other tuples r q other) held));
        held = λ q is_in. held-remove_other tuples r q (away q is_in) (parted.held q is_in);
        unnamed = λ q is_in. get-remove_other counts r q (away q is_in) ∙ parted.unnamed q is_in;
        count = ap len (among-remove hidden tuples r is_out) ∙ parted.count;
        others = omega (arith, ap len (outside-remove hidden tuples r is_out), len-remove_held (outside hidden tuples) r seen, len-remove_held tuples r there, parted.others);
        within = parted.within;
        few = parted.few;
        covered = λ o q held. parted.covered o q (subst IsSome (get-remove_other tuples r q (left q held)) held);
      }
        where
          left : (q : TupleRef) → IsSome (get (remove tuples r) q) → q ≢ r
          left q held same = none_some (ap (get (remove tuples r)) same ∙ get-remove_same tuples r) held

      pub parted_written : (cells : List Cell) → IsWhole width cells → IsParted width (insert tuples r cells) counts hidden hidden_count owed
      parted_written cells is = record {
        rows = whole_with width tuples r parted.rows cells is;
        numbered = λ q held. parted.numbered q (still q held);
        held = λ q is_in. held-insert tuples r q cells (parted.held q is_in);
        unnamed = parted.unnamed;
        count = ap len (among-insert hidden tuples r is_out cells) ∙ parted.count;
        others = omega (arith, ap len (outside-insert hidden tuples r is_out cells), len-insert_held (outside hidden tuples) r cells seen, len-insert_held tuples r cells there, parted.others);
        within = parted.within;
        few = parted.few;
        covered = λ o q held. parted.covered o q (still q held);
      }
        where
          still : (q : TupleRef) → IsSome (get (insert tuples r cells) q) → IsSome (get tuples q)
          still q held = elim (same_or_other q r) [
            | inl same ↦ subst (λ p. IsSome (get tuples p)) (sym same) there
            | inr other ↦ subst IsSome (get-insert_other tuples r q cells other) held
          ]

      pub parted_counted : (n : ℕ) → IsParted width tuples (insert counts r n) hidden hidden_count owed
      parted_counted n = record {
        rows = parted.rows;
        numbered = λ q held. held-insert counts r q n (parted.numbered q held);
        held = parted.held;
        unnamed = λ q is_in. get-insert_other counts r q n (away q is_in) ∙ parted.unnamed q is_in;
        count = parted.count;
        others = parted.others;
        within = parted.within;
        few = parted.few;
        covered = parted.covered;
      }

      -- its number is 0 where no link names it
      pub number_none : unwrap_or (get (outside hidden counts) r) 0 ≡ 0 → get counts r ≡ Some 0
      number_none unnamed =
          let number = is_some-Some (get counts r) (parted.numbered r there) in
          number.1 ∙ ap (λ n. Some n) (sym (ap (λ o. unwrap_or o 0) number.1) ∙ sym (number_seen r is_out) ∙ unnamed)

      -- it is hidden
      pub parted_hidden : (after : List ℕ) → ChangesSlot hidden after r.number true → length after ≡ length hidden → hidden_count < owed → get counts r ≡ Some 0 → IsParted width tuples counts after (hidden_count + 1) owed
      parted_hidden after comes long more unnamed =
          let found = is_some-Some (get tuples r) there in record {
            rows = parted.rows;
            numbered = parted.numbered;
            held = λ q is_in. elim (same_or_other q r) [
              | inl same ↦ subst (λ p. IsSome (get tuples p)) (sym same) there
              | inr other ↦ parted.held q (sym (comes.others q.number (other_slot q r other)) ∙ is_in)
            ];
            unnamed = λ q is_in. elim (same_or_other q r) [
              | inl same ↦ ap (get counts) same ∙ unnamed
              | inr other ↦ parted.unnamed q (sym (comes.others q.number (other_slot q r other)) ∙ is_in)
            ];
            count = omega (arith, ap len (among-hidden hidden tuples r after comes found.0 found.1), len-insert_fresh (among hidden tuples) r found.0 unseen, parted.count);
            others = omega (arith, ap len (outside-hidden hidden tuples r after comes), len-remove_held (outside hidden tuples) r seen, parted.others);
            within = omega (arith, more);
            few = parted.few;
            covered = λ o q held. omega (arith, parted.covered o q held, long);
          }
        where
          unseen : get (among hidden tuples) r ≡ None
          unseen = get-retained (in_set hidden) tuples r ∙ ap (λ b. cond b (get tuples r) None) is_out

    -- a row that is hidden is shown again, or goes for good
    module _ (is_in : has_slot hidden r.number ≡ true) where
      kept : IsSome (get (among hidden tuples) r)
      kept = subst IsSome (sym (get-among hidden tuples r is_in)) (parted.held r is_in)

      one : len (remove (among hidden tuples) r) + 1 ≡ hidden_count
      one = len-remove_held (among hidden tuples) r kept ∙ parted.count

      pub some_hidden : 0 < hidden_count
      some_hidden = omega (arith, one)

      pub hidden_covered : r.number / 64 < length hidden
      hidden_covered = parted.covered (omega (arith, one, parted.within)) r (parted.held r is_in)

      module _ (after : List ℕ) (goes : ChangesSlot hidden after r.number false) (long : length after ≡ length hidden) where
        others_only : (q : TupleRef) → has_slot after q.number ≡ true → q ≢ r
        others_only q still same = not_both _ (ap (λ (p : TupleRef). has_slot after p.number) (sym same) ∙ still) goes.changed

        was : (q : TupleRef) → has_slot after q.number ≡ true → has_slot hidden q.number ≡ true
        was q still = sym (goes.others q.number (other_slot q r (others_only q still))) ∙ still

        pub parted_shown : IsParted width tuples counts after (hidden_count - 1) owed
        parted_shown =
            let found = is_some-Some (get tuples r) (parted.held r is_in) in record {
              rows = parted.rows;
              numbered = parted.numbered;
              held = λ q still. parted.held q (was q still);
              unnamed = λ q still. parted.unnamed q (was q still);
              count = omega (arith, ap len (among-shown hidden tuples r after goes), one);
              others = omega (arith, ap len (outside-shown hidden tuples r after goes found.0 found.1), len-insert_fresh (outside hidden tuples) r found.0 unseen, parted.others, one);
              within = omega (arith, parted.within);
              few = parted.few;
              covered = λ o q held. omega (arith, parted.covered o q held, long);
            }
          where
            unseen : get (outside hidden tuples) r ≡ None
            unseen = get-retained (not_in hidden) tuples r ∙ ap (λ b. cond (not b) (get tuples r) None) is_in

        pub parted_dropped : IsParted width (remove tuples r) (remove counts r) after (hidden_count - 1) owed
        parted_dropped = record {
          rows = whole_without width tuples r parted.rows;
          numbered = λ q held. let other = left q held in held-remove_other counts r q other (parted.numbered q (subst IsSome (get-remove_other tuples r q other) held));
          held = λ q still. held-remove_other tuples r q (others_only q still) (parted.held q (was q still));
          unnamed = λ q still. get-remove_other counts r q (others_only q still) ∙ parted.unnamed q (was q still);
          count = omega (arith, ap len (among-dropped hidden tuples r after goes), one);
          others = omega (arith, ap len (outside-dropped hidden tuples r after goes is_in), len-remove_held tuples r (parted.held r is_in), parted.others, one);
          within = omega (arith, parted.within);
          few = parted.few;
          covered = λ o q held. omega (arith, parted.covered o q (subst IsSome (get-remove_other tuples r q (left q held)) held), long);
        }
          where
            left : (q : TupleRef) → IsSome (get (remove tuples r) q) → q ≢ r
            left q held same = none_some (ap (get (remove tuples r)) same ∙ get-remove_same tuples r) held

-- ---- what is seen of a store

module _ (s : Store Cell) (hidden : List ℕ) (owed : ℕ) where
  -- memory for more slots, and other numbers of rows that are owed
  pub rows_covered : (after : List ℕ) (now_owed : ℕ) → ((slot : ℕ) → has_slot after slot ≡ has_slot hidden slot) → rows_of s after now_owed ≡ record (rows_of s hidden owed) { aside = record (aside_of s hidden owed) { owed = now_owed } }
  rows_covered after now_owed same =
      let seen = outside-same hidden after s.tuples same in
      let numbers = outside-same hidden after s.counts same in
      let still = among-same hidden after s.tuples same in
      λ i. row_store s.width (rows_in (seen i)) (record { numbers = numbers i; counted = s.counted; hidden = rows_in (still i); owed = now_owed }) s.free

  module _ (r : TupleRef) (cells : List Cell) (at : get s.tuples r ≡ Some cells) where
    pub rows_hidden : (after : List ℕ) → ChangesSlot hidden after r.number true → rows_of s after owed ≡ with_hidden (rows_of s hidden owed) r (row_of cells)
    rows_hidden after comes =
        let seen = ap rows_in (outside-hidden hidden s.tuples r after comes) ∙ mapped-remove (λ r. row_of) (outside hidden s.tuples) r in
        let numbers = outside-hidden hidden s.counts r after comes in
        let more = ap rows_in (among-hidden hidden s.tuples r after comes cells at) ∙ mapped-insert (λ r. row_of) (among hidden s.tuples) r cells in
        λ i. row_store s.width (seen i) (record { numbers = numbers i; counted = s.counted; hidden = more i; owed = owed }) s.free

    pub rows_shown : (after : List ℕ) → ChangesSlot hidden after r.number false → get s.counts r ≡ Some 0 → rows_of s after owed ≡ with_shown (rows_of s hidden owed) r (row_of cells)
    rows_shown after goes unnamed =
        let seen = ap rows_in (outside-shown hidden s.tuples r after goes cells at) ∙ mapped-insert (λ r. row_of) (outside hidden s.tuples) r cells in
        let numbers = outside-shown hidden s.counts r after goes 0 unnamed in
        let fewer = ap rows_in (among-shown hidden s.tuples r after goes) ∙ mapped-remove (λ r. row_of) (among hidden s.tuples) r in
        λ i. row_store s.width (seen i) (record { numbers = numbers i; counted = s.counted; hidden = fewer i; owed = owed }) s.free
