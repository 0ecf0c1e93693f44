-- The memory of the partitions that hold no tuple is given back.
use Rattle.std.proofs.Common.{◌≡◌, ◌≢◌, ℕ, suc, ◌+◌, ◌-◌, ◌*◌, ◌<◌, ◌≤◌, Bool, true, false, List, [], ◌∷◌, ◌++◌, map, length, get_or, set, Option, None, is_some, IsSome, refl, sym, ap, ◌∙◌, inl, inr, arith, subst, sum_by}
use Rattle.std.proofs.lemmas.Bool.{cases_eq, true≢false, lt-ltb, ltb-true}
use Rattle.std.proofs.lemmas.List.{length-map, length_push, map-append, map-set, get_or-set_same, get_or_past}
use Rattle.std.proofs.lemmas.List.Sums.{sum_by-cons, sum_by-append, sum_by-set}
use Rattle.std.proofs.Math.ListN.{replicate}
use Rattle.std.specs.FinMap.{get, len}
use Rattle.part_raw.specs.declared.store.Occupancy.{Occupancy}
use Rattle.part_raw.specs.declared.tuple_ref.TupleRef.{TupleRef}
use Rattle.part_raw.specs.Rows.{rows_in, rows_of}
use Rattle.part_raw.specs.Store.{Tuples}
use Rattle.part_raw.specs.TupleRefs.{ref_to, part_of, slot_of}
use Rattle.part_raw.specs.Layout.{is_set, tuples_of, vacancies, IsVacant, IsPlace}
use Rattle.part_raw.specs.Open.{words_at, has_block_at, slots_at, next_at, open_at, tables, below, IsOpenList, HaveBitmaps, AreKept, IsStocked, IsTable, HoldsWhereBlock}
use Rattle.part_raw.proofs.Bitmaps.{mapped-read, mapped-push_same, mapped-push_other, mapped-set_same, mapped-set_other, bits_at, told_at, HaveBitmaps-set}
use Rattle.part_raw.proofs.Dropped.{last_none, front_laid, front_mapped}
use Rattle.part_raw.proofs.Lookup.{held_in, get-tuples_of}
use Rattle.part_raw.proofs.Parts.{Blocks, tuples-push, tuples-vacant}
use Rattle.part_raw.proofs.Refs.{part_of-to, slot_of-to}
use Rattle.part_raw.proofs.Relinked.{below-all}
use Rattle.part_raw.proofs.Rows.{rows_in-some, empty-laid}
use Rattle.part_raw.proofs.Slots.{all_vacant, vacant_of_bits, partition_of, no_vacancy_of_none, vacancies_fewer}
use Rattle.part_raw.proofs.Tables.{small_tables, length-tables, rows_read, laid-set, bare_holds_none}

-- ---- a partition with no places

-- it has no slots
no_slots_of : {T : Type 0} (width : ℕ) → rows_in {T = T} width [] ≡ []
unfolding rows_of
no_slots_of width = refl

-- a partition that holds no tuple gives its block back
module _ {T : Type 0} (width : ℕ) (wide : 0 < width) (blocks : List (List (Option T))) (occupancies : List Occupancy) (kept : AreKept width blocks occupancies) (part : ℕ) (within : part < length blocks) (o o' : Occupancy)
    (read : o ≡ get_or occupancies part o) (there : o.has_block ≡ true) (clear : (slot : ℕ) → slot < 256 → is_set o.held.words slot ≡ false) (its : List (Option T)) (its_read : its ≡ get_or blocks part its) where
  among : part < length (tables width blocks)
  among = omega (arith, within, length-tables width blocks)

  shown_read : rows_in width its ≡ get_or (tables width blocks) part (rows_in width its)
  shown_read = rows_read width blocks part its within its_read

  some_slots : 0 < length (rows_in width its)
  some_slots = ltb-true 0 (length (rows_in width its)) (sym (told_at (tables width blocks) occupancies (rows_in width its) o part kept.mapped among shown_read read) ∙ there)

  spare-vacant : IsVacant (rows_in width its)
  spare-vacant = vacant_of_bits _ _ (partition_of _ _ (bits_at (tables width blocks) occupancies (rows_in width its) o part kept.mapped among shown_read read) some_slots) clear

  pub spare-empty : its ≡ replicate (256 * width) None
  spare-empty = empty-laid width its wide (kept.laid part its within its_read (rows_in-some width its some_slots)) spare-vacant

  as_set : tables width (set blocks part []) ≡ set (tables width blocks) part []
  as_set = map-set (rows_in width) blocks part [] ∙ ap (set (tables width blocks) part) (no_slots_of width)

  was_here : get_or (tables width blocks) part [] ≡ rows_in width its
  was_here = mapped-read (rows_in width) blocks part its [] within its_read

  pub released_kept : o'.held.words ≡ o.held.words → o'.has_block ≡ false → AreKept width (set blocks part []) (set occupancies part o')
  released_kept words gone = record {
    laid = laid-set width blocks [] part within (λ some. absurd (omega (arith, some))) kept.laid;
    mapped = subst (λ (t : Blocks _). HaveBitmaps t (set occupancies part o')) (sym as_set)
        (HaveBitmaps-set (tables width blocks) occupancies [] o' part kept.mapped among
        (record { count = λ some. absurd (omega (arith, some)); bits = λ slot in_range. ap (λ w. is_set w slot) words ∙ clear slot in_range }) gone);
  }

  pub released_tuples : tuples_of (tables width (set blocks part [])) ≡ tuples_of (tables width blocks)
  released_tuples =
      ap tuples_of as_set ∙ tuples-vacant (tables width blocks) part [] among (small_tables width blocks) (omega arith) (λ slot. refl)
      (λ slot. ap (λ l. get_or l slot None) was_here ∙ spare-vacant.empty slot)

  -- what is held now was held, and elsewhere
  pub released_held : (r : TupleRef) → IsSome (get (tuples_of (tables width (set blocks part []))) r) → IsSome (get (tuples_of (tables width blocks)) r) × (part_of r ≢ part)
  released_held r held = (
    subst (λ (tuples : Tuples (List T)). IsSome (get tuples r)) released_tuples held,
    bare_holds_none width (set blocks part []) part (get_or-set_same blocks part [] [] within) r held,
  )

  pub released_free : sum_by vacancies (tables width (set blocks part [])) + 256 ≡ sum_by vacancies (tables width blocks)
  released_free =
      let free : vacancies (rows_in width its) ≡ 256 = all_vacant (rows_in width its) spare-vacant.empty ∙ spare-vacant.count in
      omega (arith, ap (sum_by vacancies) as_set, sum_by-set vacancies (tables width blocks) part [] [] among, ap vacancies was_here, free)

  pub released_slots : sum_by length (tables width (set blocks part [])) + 256 ≡ sum_by length (tables width blocks)
  released_slots = omega (arith, ap (sum_by length) as_set, sum_by-set length (tables width blocks) part [] [] among, ap length was_here, spare-vacant.count)

-- ---- which partitions hold a tuple

module _ (occupancies : List Occupancy) (part : ℕ) (o : Occupancy) (within : part < length occupancies) where
  -- of one that was read
  pub holds_read : o ≡ get_or occupancies part o → (o.has_block ≡ true → (slot : ℕ) × (slot < 256) × (is_set o.held.words slot ≡ true)) → HoldsWhereBlock occupancies part
  holds_read read held there =
      let its = held (sym (mapped-read (λ (x : Occupancy). x.has_block) occupancies part o false within read) ∙ there) in
      (its.0, its.1, ap (λ w. is_set w its.0) (mapped-read (λ (x : Occupancy). x.held.words) occupancies part o [] within read) ∙ its.2)

  -- of one that has no block from now on
  pub holds_bare : o.has_block ≡ false → HoldsWhereBlock (set occupancies part o) part
  holds_bare gone there = absurd (true≢false (sym there ∙ mapped-set_same (λ (x : Occupancy). x.has_block) occupancies part o false within ∙ gone))

  -- of another
  pub holds_other : (other : ℕ) → other ≢ part → HoldsWhereBlock occupancies other → HoldsWhereBlock (set occupancies part o) other
  holds_other other differs held there =
      let its = held (sym (mapped-set_other (λ (x : Occupancy). x.has_block) occupancies part other o false differs) ∙ there) in
      (its.0, its.1, ap (λ w. is_set w its.0) (mapped-set_other (λ (x : Occupancy). x.held.words) occupancies part other o [] differs) ∙ its.2)

-- of those before the last
pub holds_front : (occupancies : List Occupancy) (o : Occupancy) (part : ℕ) → part < length occupancies → HoldsWhereBlock (occupancies ++ o ∷ []) part → HoldsWhereBlock occupancies part
holds_front occupancies o part within held there =
    let differs : part ≢ length occupancies = λ e. omega (arith, e, within) in
    let its = held (mapped-push_other (λ (x : Occupancy). x.has_block) occupancies part o false differs ∙ there) in
    (its.0, its.1, ap (λ w. is_set w its.0) (sym (mapped-push_other (λ (x : Occupancy). x.held.words) occupancies part o [] differs)) ∙ its.2)

-- ---- the last partition has no block

module _ {T : Type 0} (width : ℕ) (blocks : List (List (Option T))) (its : List (Option T)) (occupancies : List Occupancy) (o : Occupancy)
    (kept : AreKept width (blocks ++ its ∷ []) (occupancies ++ o ∷ []))
    (bare : has_block_at (occupancies ++ o ∷ []) (length (occupancies ++ o ∷ []) - 1) ≡ false) where
  no_block : o.has_block ≡ false
  no_block =
      let at : length (occupancies ++ o ∷ []) - 1 ≡ length occupancies = omega (arith, length_push occupancies o) in
      sym (ap (has_block_at (occupancies ++ o ∷ [])) at ∙ mapped-push_same (λ (x : Occupancy). x.has_block) occupancies (length occupancies) o false refl) ∙ bare

  pub last-bare : its ≡ []
  last-bare = last_none width blocks its occupancies o kept.laid kept.mapped no_block

  none_there : length (rows_in width its) ≡ 0
  none_there = ap length (ap (rows_in width) last-bare ∙ no_slots_of width)

  pub front_kept : AreKept width blocks occupancies
  front_kept = record {
    laid = front_laid width blocks its occupancies o kept.laid kept.mapped;
    mapped = front_mapped width blocks its occupancies o kept.laid kept.mapped;
  }

  as_tables : tables width (blocks ++ its ∷ []) ≡ tables width blocks ++ rows_in width its ∷ []
  as_tables = map-append (rows_in width) blocks (its ∷ [])

  pub front_tuples : tuples_of (tables width blocks) ≡ tuples_of (tables width (blocks ++ its ∷ []))
  front_tuples =
      sym (ap tuples_of as_tables ∙ tuples-push (tables width blocks) (rows_in width its) (small_tables width blocks) (omega (arith, none_there)) (λ slot. get_or_past (rows_in width its) slot None (omega (arith, none_there))))

  pub front_free : sum_by vacancies (tables width blocks) ≡ sum_by vacancies (tables width (blocks ++ its ∷ []))
  front_free =
      omega (arith, no_vacancy_of_none (rows_in width its) none_there, ap (sum_by vacancies) as_tables, sum_by-append vacancies (tables width blocks) (rows_in width its ∷ []), sum_by-cons vacancies (rows_in width its) [])

  pub front_slots : sum_by length (tables width blocks) ≡ sum_by length (tables width (blocks ++ its ∷ []))
  front_slots = omega (arith, none_there, ap (sum_by length) as_tables, sum_by-append length (tables width blocks) (rows_in width its ∷ []), sum_by-cons length (rows_in width its) [])

-- ---- the list of the open partitions is made anew

-- what the links say is nothing to the bitmaps
bitmaps_relinked : {T : Type 0} (blocks : Blocks T) (occupancies occupancies' : List Occupancy) → map (λ (o : Occupancy). o.held.words) occupancies' ≡ map (λ (o : Occupancy). o.held.words) occupancies
    → map (λ (o : Occupancy). o.has_block) occupancies' ≡ map (λ (o : Occupancy). o.has_block) occupancies → HaveBitmaps blocks occupancies → HaveBitmaps blocks occupancies'
bitmaps_relinked blocks occupancies occupancies' words flags is = record {
  as_many = sym (length-map occupancies' (λ (o : Occupancy). o.held.words)) ∙ ap length words ∙ length-map occupancies (λ (o : Occupancy). o.held.words) ∙ is.as_many;
  bits = λ part within. subst (λ (w : List ℕ). IsPlace w (slots_at blocks part)) (sym (ap (λ (l : List (List ℕ)). get_or l part []) words)) (is.bits part within);
  told = λ part within. ap (λ (l : List Bool). get_or l part false) flags ∙ is.told part within;
}

-- a store stays one where its list alone is another
pub relinked_stocked : {T : Type 0} {counted : Bool} {width : ℕ} {blocks : List (List (Option T))} {counts : List (List ℕ)} {occupancies : List Occupancy} {free : ℕ} {first : Option ℕ}
    → IsStocked counted width blocks counts occupancies free first → (occupancies' : List Occupancy) (first' : Option ℕ) → map (λ (o : Occupancy). o.held.words) occupancies' ≡ map (λ (o : Occupancy). o.held.words) occupancies
    → map (λ (o : Occupancy). o.has_block) occupancies' ≡ map (λ (o : Occupancy). o.has_block) occupancies
    → IsOpenList (open_at (tables width blocks)) (next_at occupancies') (below (open_at (tables width blocks)) (length occupancies)) first' → IsStocked counted width blocks counts occupancies' free first'
relinked_stocked {width = width} {blocks = blocks} {occupancies = occupancies} is occupancies' first' words flags linked = record {
  beside = is.beside;
  own = is.own;
  table = record {
    wide = is.table.wide;
    fits = is.table.fits;
    laid = is.table.laid;
    store = record {
      mapped = bitmaps_relinked (tables width blocks) occupancies occupancies' words flags is.table.store.mapped;
      counted = is.table.store.counted;
      total = is.table.store.total;
      open_count = below (open_at (tables width blocks)) (length occupancies);
      all_open = ap (below (open_at (tables width blocks))) is.table.store.mapped.as_many ∙ below-all (tables width blocks);
      linked = linked;
      numbered = is.table.store.numbered;
    };
  };
}

-- ---- a store that gave back what is spare, and whose list was made anew

-- what was left of each partition, before the list was made anew and after
pub record IsReleased {T : Type 0} (width : ℕ) (blocks blocks' : List (List (Option T))) (occupancies occupancies' popped : List Occupancy) (free : ℕ) (first : Option ℕ) (given : ℕ) : Type 0 where
  pub is : IsTable width blocks occupancies free first
  pub kept : AreKept width blocks' popped
  pub tuples : tuples_of (tables width blocks') ≡ tuples_of (tables width blocks)
  pub fewer : length blocks' ≤ length blocks
  pub freed : sum_by vacancies (tables width blocks') + given ≡ sum_by vacancies (tables width blocks)
  pub slots : sum_by length (tables width blocks') + given ≡ sum_by length (tables width blocks)
  pub words : map (λ (o : Occupancy). o.held.words) occupancies' ≡ map (λ (o : Occupancy). o.held.words) popped
  pub flags : map (λ (o : Occupancy). o.has_block) occupancies' ≡ map (λ (o : Occupancy). o.has_block) popped
  pub held : (part : ℕ) → part < length popped → HoldsWhereBlock popped part

module _ {T : Type 0} {width : ℕ} {blocks blocks' : List (List (Option T))} {occupancies occupancies' popped : List Occupancy} {free : ℕ} {first : Option ℕ} {given : ℕ} (r : IsReleased width blocks blocks' occupancies occupancies' popped free first given) where
  bitmaps_kept : HaveBitmaps (tables width blocks') occupancies'
  bitmaps_kept = bitmaps_relinked (tables width blocks') popped occupancies' r.words r.flags r.kept.mapped

  pub slots_left : sum_by vacancies (tables width blocks') + len (tuples_of (tables width blocks)) ≡ sum_by length (tables width blocks')
  slots_left = omega (arith, r.freed, r.slots, r.is.store.total, r.is.store.counted)

  pub IsTable-relinked : (free' : ℕ) (first' : Option ℕ) → free' ≡ sum_by length (tables width blocks') - len (tuples_of (tables width blocks))
      → IsOpenList (open_at (tables width blocks')) (next_at occupancies') (below (open_at (tables width blocks')) (length popped)) first' → IsTable width blocks' occupancies' free' first'
  IsTable-relinked free' first' e linked = record {
    wide = r.is.wide;
    fits = r.is.fits;
    laid = r.kept.laid;
    store = record {
      mapped = bitmaps_kept;
      counted = omega (arith, e, slots_left);
      total = omega (arith, e, slots_left, ap len r.tuples);
      open_count = below (open_at (tables width blocks')) (length popped);
      all_open = ap (below (open_at (tables width blocks'))) r.kept.mapped.as_many ∙ below-all (tables width blocks');
      linked = linked;
      numbered = omega (arith, r.is.store.numbered, r.fewer, length-tables width blocks, length-tables width blocks');
    };
  }

  -- a slot whose bit is set holds a tuple
  pub held_of_bit : (part slot : ℕ) → part < length blocks' → slot < 256 → is_set (words_at popped part) slot ≡ true → IsSome (get (tuples_of (tables width blocks')) (ref_to part slot))
  held_of_bit part slot within in_range bit =
      let among' : part < length (tables width blocks') = omega (arith, within, length-tables width blocks') in
      ap is_some (get-tuples_of (tables width blocks') (ref_to part slot) (small_tables width blocks')
      ∙ ap (λ k. held_in (tables width blocks') k (slot_of (ref_to part slot))) (part_of-to part slot in_range) ∙ ap (held_in (tables width blocks') part) (slot_of-to part slot in_range))
      ∙ sym ((r.kept.mapped.bits part among').bits slot in_range) ∙ bit

  -- where each partition with a block holds a tuple, there are so many free slots for each at most
  few_here : (part : ℕ) → part < length (tables width blocks') → 256 * vacancies (get_or (tables width blocks') part []) ≤ 255 * length (get_or (tables width blocks') part [])
  few_here part within = elim (cases_eq (length (get_or (tables width blocks') part [])) 0) [
    | inl none ↦ omega (arith, no_vacancy_of_none (get_or (tables width blocks') part []) none)
    | inr differs ↦
        let some : 0 < length (get_or (tables width blocks') part []) = omega (arith, differs) in
        let its = r.kept.mapped.bits part within in
        let slot = r.held part (omega (arith, within, r.kept.mapped.as_many)) (r.kept.mapped.told part within ∙ lt-ltb 0 (length (get_or (tables width blocks') part [])) some) in
        omega (arith, its.count some, vacancies_fewer (get_or (tables width blocks') part []) slot.0 (sym (its.bits slot.0 slot.1) ∙ slot.2))
  ]

  few_all : {A : Type 0} (l : Blocks A) → ((part : ℕ) → part < length l → 256 * vacancies (get_or l part []) ≤ 255 * length (get_or l part [])) → 256 * sum_by vacancies l ≤ 255 * sum_by length l
  few_all [] few = omega arith
  few_all (x ∷ l) few = omega (arith, sum_by-cons vacancies x l, sum_by-cons length x l, few 0 (omega arith), few_all l (λ part within. few (suc part) (omega (arith, within))))

  pub few_left : (free' : ℕ) → free' ≡ sum_by length (tables width blocks') - len (tuples_of (tables width blocks)) → free' ≤ 255 * len (tuples_of (tables width blocks'))
  few_left free' e = omega (arith, e, slots_left, few_all (tables width blocks') few_here, ap len r.tuples)
