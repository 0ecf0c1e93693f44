-- What a store finds, as its blocks change one at a time.
use Rattle.std.proofs.Common.{◌≡◌, ◌≢◌, ℕ, zero, suc, ◌<◌, ◌≤◌, List, [], ◌∷◌, ◌++◌, length, get_or, set, Option, Some, None, IsSome, refl, sym, ap, ◌∙◌, inl, inr, arith, subst}
use Rattle.std.proofs.lemmas.Bool.{cases_eq, true≢false}
use Rattle.std.proofs.lemmas.List.{get_or-set_same, get_or-set_other, get_or_past, get_or_default, length-set}
use Rattle.std.specs.FinMap.{get, insert, remove, empty}
use Rattle.part_raw.specs.declared.tuple_ref.TupleRef.{TupleRef}
use Rattle.part_raw.specs.TupleRefs.{ref_to, part_of, slot_of}
use Rattle.part_raw.specs.Layout.{tuples_of, tuples_from}
use Rattle.part_raw.specs.Open.{HaveBitmaps}
use Rattle.part_raw.specs.declared.store.Occupancy.{Occupancy}
use Rattle.part_raw.proofs.Tuples.{same_tuples, get-insert_same, get-insert_other, get-remove_same, get-remove_other}
use Rattle.part_raw.proofs.Refs.{ref_to-itself, part_of-to, slot_of-to}
use Rattle.part_raw.proofs.Lookup.{held_in, AreSmall, get-tuples_of, same_or_other}

-- what each slot of each block holds
abbrev pub Blocks : Type 0 → Type 0
Blocks T = List (List (Option T))

module _ {T : Type 0} where
  -- blocks that have bitmaps are no longer than these
  pub small_blocks : (blocks : Blocks T) (occupancies : List Occupancy) → HaveBitmaps blocks occupancies → AreSmall blocks
  small_blocks blocks occupancies mapped part within = elim (cases_eq (length (get_or blocks part [])) 0) [
    | inl none ↦ omega (arith, none)
    | inr some ↦ omega (arith, (mapped.bits part within).count (omega (arith, some)))
  ]

  -- ---- what is found

  -- a reference under which something is found names a partition
  pub held_part : (blocks : Blocks T) (r : TupleRef) → AreSmall blocks → IsSome (get (tuples_of blocks) r) → part_of r < length blocks
  held_part blocks r small held = within blocks (part_of r) (slot_of r) (subst IsSome (get-tuples_of blocks r small) held)
    where
      within : (blocks : Blocks T) (part slot : ℕ) → IsSome (held_in blocks part slot) → part < length blocks
      within [] part slot held = absurd (true≢false (sym held))
      within (slots ∷ rest) zero slot held = omega arith
      within (slots ∷ rest) (suc part) slot held = omega (arith, within rest part slot held)

  -- the block that was read is that of the partition
  pub read_block : (blocks : Blocks T) (slots : List (Option T)) (part : ℕ) → part < length blocks → slots ≡ get_or blocks part slots → get_or blocks part [] ≡ slots
  read_block blocks slots part within read = get_or_default blocks part [] slots within ∙ sym read

  -- what is found is what the slot of the partition holds
  pub found_at : (blocks : Blocks T) (slots : List (Option T)) (r : TupleRef) → AreSmall blocks → part_of r < length blocks → slots ≡ get_or blocks (part_of r) slots → get (tuples_of blocks) r ≡ get_or slots (slot_of r) None
  found_at blocks slots r small within read = get-tuples_of blocks r small ∙ ap (λ xs. get_or xs (slot_of r) None) (read_block blocks slots (part_of r) within read)

  -- past the partitions nothing is found
  pub none_past : (blocks : Blocks T) (r : TupleRef) → AreSmall blocks → length blocks ≤ part_of r → get (tuples_of blocks) r ≡ None
  none_past blocks r small past = get-tuples_of blocks r small ∙ ap (λ xs. get_or xs (slot_of r) None) (get_or_past blocks (part_of r) [] past)

  -- ---- one slot changes

  -- a slot of a partition, as it is written
  pub record Writes (blocks : Blocks T) (slots new : List (Option T)) (part slot : ℕ) (o : Option T) : Type 0 where
    pub small : AreSmall blocks
    pub within : part < length blocks
    pub read : slots ≡ get_or blocks part slots
    pub in_slots : slot < length slots
    pub is : new ≡ set slots slot o

  module _ (blocks : Blocks T) (slots new : List (Option T)) (part slot : ℕ) (o : Option T) (w : Writes blocks slots new part slot o) where
    small_slots : length slots ≤ 256
    small_slots = subst (λ (xs : List (Option T)). length xs ≤ 256) (read_block blocks slots part w.within w.read) (w.small part w.within)

    pub small_slot : slot < 256
    small_slot = omega (arith, w.in_slots, small_slots)

    small_new : length new ≤ 256
    small_new = let n : length new ≡ length slots = ap length w.is ∙ length-set slots slot o in omega (arith, n, small_slots)

    small_set : AreSmall (set blocks part new)
    small_set k within = elim (cases_eq k part) [
      | inl same ↦ subst (λ (xs : List (Option T)). length xs ≤ 256) (sym (ap (λ n. get_or (set blocks part new) n []) same ∙ get_or-set_same blocks part new [] w.within)) small_new
      | inr other ↦ subst (λ (xs : List (Option T)). length xs ≤ 256) (sym (get_or-set_other blocks part k new [] other)) (w.small k (omega (arith, within, length-set blocks part new)))
    ]

    -- before and after, at the reference of the slot
    pub found_before : get (tuples_of blocks) (ref_to part slot) ≡ get_or slots slot None
    found_before =
        get-tuples_of blocks (ref_to part slot) w.small
        ∙ ap (λ k. held_in blocks k (slot_of (ref_to part slot))) (part_of-to part slot small_slot)
        ∙ ap (held_in blocks part) (slot_of-to part slot small_slot)
        ∙ ap (λ xs. get_or xs slot None) (read_block blocks slots part w.within w.read)

    found_same : get (tuples_of (set blocks part new)) (ref_to part slot) ≡ o
    found_same =
        get-tuples_of (set blocks part new) (ref_to part slot) small_set
        ∙ ap (λ k. held_in (set blocks part new) k (slot_of (ref_to part slot))) (part_of-to part slot small_slot)
        ∙ ap (held_in (set blocks part new) part) (slot_of-to part slot small_slot)
        ∙ ap (λ xs. get_or xs slot None) (get_or-set_same blocks part new [] w.within ∙ w.is)
        ∙ get_or-set_same slots slot o None w.in_slots

    -- at any other reference the same is found
    found_other : (q : TupleRef) → q ≢ ref_to part slot → get (tuples_of (set blocks part new)) q ≡ get (tuples_of blocks) q
    found_other q differs =
        get-tuples_of (set blocks part new) q small_set ∙ elim (cases_eq (part_of q) part) [
          | inl same ↦
              let other : slot_of q ≢ slot = λ e. differs (sym (ref_to-itself q) ∙ (λ i. ref_to (same i) (e i))) in
              ap (λ k. held_in (set blocks part new) k (slot_of q)) same
              ∙ ap (λ xs. get_or xs (slot_of q) None) (get_or-set_same blocks part new [] w.within ∙ w.is)
              ∙ get_or-set_other slots slot (slot_of q) o None other
              ∙ ap (λ xs. get_or xs (slot_of q) None) (sym (read_block blocks slots part w.within w.read))
              ∙ ap (λ k. held_in blocks k (slot_of q)) (sym same)
          | inr other ↦ ap (λ xs. get_or xs (slot_of q) None) (get_or-set_other blocks part (part_of q) new [] other)
        ] ∙ sym (get-tuples_of blocks q w.small)

  -- a tuple that is written is put into the map
  pub tuples-written : (blocks : Blocks T) (slots new : List (Option T)) (part slot : ℕ) (tuple : T)
      → Writes blocks slots new part slot (Some tuple) → tuples_of (set blocks part new) ≡ insert (tuples_of blocks) (ref_to part slot) tuple
  tuples-written blocks slots new part slot tuple w = same_tuples _ _ (λ q.
      elim (same_or_other q (ref_to part slot)) [
        | inl same ↦
            ap (get (tuples_of (set blocks part new))) same
            ∙ found_same blocks slots new part slot (Some tuple) w
            ∙ sym (get-insert_same (tuples_of blocks) (ref_to part slot) tuple)
            ∙ ap (get (insert (tuples_of blocks) (ref_to part slot) tuple)) (sym same)
        | inr differs ↦
            found_other blocks slots new part slot (Some tuple) w q differs
            ∙ sym (get-insert_other (tuples_of blocks) (ref_to part slot) q tuple differs)
      ])

  -- a slot that is freed is taken out of the map
  pub tuples-freed : (blocks : Blocks T) (slots new : List (Option T)) (part slot : ℕ)
      → Writes blocks slots new part slot None → tuples_of (set blocks part new) ≡ remove (tuples_of blocks) (ref_to part slot)
  tuples-freed blocks slots new part slot w = same_tuples _ _ (λ q.
      elim (same_or_other q (ref_to part slot)) [
        | inl same ↦
            ap (get (tuples_of (set blocks part new))) same
            ∙ found_same blocks slots new part slot None w
            ∙ sym (get-remove_same (tuples_of blocks) (ref_to part slot))
            ∙ ap (get (remove (tuples_of blocks) (ref_to part slot))) (sym same)
        | inr differs ↦
            found_other blocks slots new part slot None w q differs
            ∙ sym (get-remove_other (tuples_of blocks) (ref_to part slot) q differs)
      ])

  -- a vacant block adds nothing
  pub tuples-push : (blocks : Blocks T) (new : List (Option T)) → AreSmall blocks → length new ≤ 256 → ((slot : ℕ) → get_or new slot None ≡ None) → tuples_of (blocks ++ new ∷ []) ≡ tuples_of blocks
  tuples-push blocks new small few empty = same_tuples _ _ (λ q. get-tuples_of (blocks ++ new ∷ []) q (small_pushed blocks small) ∙ pushed blocks (part_of q) (slot_of q) ∙ sym (get-tuples_of blocks q small))
    where
      small_pushed : (blocks : Blocks T) → AreSmall blocks → AreSmall (blocks ++ new ∷ [])
      small_pushed [] small zero within = few
      small_pushed [] small (suc part) within = absurd (omega (arith, within))
      small_pushed (slots ∷ rest) small zero within = small 0 (omega arith)
      small_pushed (slots ∷ rest) small (suc part) within = small_pushed rest (λ k among. small (suc k) (omega (arith, among))) part (omega (arith, within))

      pushed : (blocks : Blocks T) (part slot : ℕ) → held_in (blocks ++ new ∷ []) part slot ≡ held_in blocks part slot
      pushed [] zero slot = empty slot
      pushed [] (suc part) slot = refl
      pushed (slots ∷ rest) zero slot = refl
      pushed (slots ∷ rest) (suc part) slot = pushed rest part slot

  -- slots that hold nothing in the place of others that hold nothing
  pub tuples-vacant : (blocks : Blocks T) (part : ℕ) (new : List (Option T)) → part < length blocks → AreSmall blocks → length new ≤ 256 → ((slot : ℕ) → get_or new slot None ≡ None)
      → ((slot : ℕ) → get_or (get_or blocks part []) slot None ≡ None) → tuples_of (set blocks part new) ≡ tuples_of blocks
  tuples-vacant blocks part new within small few empty was_empty = same_tuples _ _ (λ q. get-tuples_of (set blocks part new) q small_set ∙ same (part_of q) (slot_of q) ∙ sym (get-tuples_of blocks q small))
    where
      small_set : AreSmall (set blocks part new)
      small_set k below = elim (cases_eq k part) [
        | inl e ↦ subst (λ (xs : List (Option T)). length xs ≤ 256) (sym (ap (λ n. get_or (set blocks part new) n []) e ∙ get_or-set_same blocks part new [] within)) few
        | inr other ↦ subst (λ (xs : List (Option T)). length xs ≤ 256) (sym (get_or-set_other blocks part k new [] other)) (small k (omega (arith, below, length-set blocks part new)))
      ]

      same : (k slot : ℕ) → held_in (set blocks part new) k slot ≡ held_in blocks k slot
      same k slot = elim (cases_eq k part) [
        | inl e ↦
            ap (λ n. get_or (get_or (set blocks part new) n []) slot None) e ∙ ap (λ xs. get_or xs slot None) (get_or-set_same blocks part new [] within) ∙ empty slot
            ∙ sym (ap (λ n. get_or (get_or blocks n []) slot None) e ∙ was_empty slot)
        | inr other ↦ ap (λ xs. get_or xs slot None) (get_or-set_other blocks part k new [] other)
      ]

  -- no block holds nothing
  pub tuples_of-none : tuples_of {T = T} [] ≡ empty
  unfolding tuples_from
  tuples_of-none = refl
