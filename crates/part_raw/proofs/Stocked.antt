-- A store with its counts beside it: what is read of a slot, and a store that stays one where a slot or its count changes.
use Rattle.std.proofs.Common.{◌≡◌, ℕ, ◌+◌, ◌*◌, ◌^◌, ◌<◌, ◌≤◌, zero, suc, sum_by, nat_lt, Bool, true, false, if◌then◌else◌, List, [], ◌∷◌, map, length, get_or, set, Option, Some, None, is_some, IsSome, refl, sym, ap, ◌∙◌, inl, inr, arith, subst}
use Rattle.std.proofs.lemmas.List.{length-map, length-replicate, length-set, get_or-map}
use Rattle.std.proofs.lemmas.List.Sums.{sum_by-cons}
use Rattle.std.proofs.lemmas.Bool.{cases_lt, lt-ltb, ltb-true}
use Rattle.std.specs.FinMap.{get, insert, remove, len}
use Rattle.common_lemmas.proofs.Options.{is_some-Some}
use Rattle.part_raw.specs.declared.tuple_ref.TupleRef.{TupleRef}
use Rattle.part_raw.specs.declared.store.Occupancy.{Occupancy}
use Rattle.part_raw.specs.Counted.{number_of, seen, zeros}
use Rattle.part_raw.specs.Store.{store, with_cells, with_count}
use Rattle.part_raw.specs.Rows.{IsLaid, rows_in, rows_of, slots_of}
use Rattle.part_raw.specs.TupleRefs.{part_of, slot_of}
use Rattle.part_raw.specs.Layout.{is_set, tuples_of, IsPartition}
use Rattle.part_raw.specs.Open.{has_block_at, slots_at, tables, HaveCounts, IsTable, IsStocked}
use Rattle.part_raw.proofs.Numbers.{counts-exchanged, counts-set, number-changed, number-other, uncounted_none, with_number}
use Rattle.part_raw.proofs.Bitmaps.{mapped-read}
use Rattle.part_raw.proofs.OwnCounts.{as_many_slots, own-block, own-counts}
use Rattle.part_raw.proofs.Refs.{slot_of-within}
use Rattle.part_raw.proofs.Rows.{length-rows_in, rows_in-held, slots_of-some}
use Rattle.part_raw.proofs.Sound.{most_lengths}
use Rattle.part_raw.proofs.Tables.{Changes, length-tables, table_within, found_row, small_tables, slots-changed, bits_of_table, take_full, take_open, rows-taken, table-exchanged, rows-exchanged}

-- partitions each of which has all its slots
all_lengths : {T : Type 0} (blocks : List (List (Option T))) → ((part : ℕ) → part < length blocks → length (slots_at blocks part) ≡ 256) → sum_by length blocks ≡ 256 * length blocks
all_lengths [] full = omega arith
all_lengths (slots ∷ rest) full = omega (arith, sum_by-cons length slots rest, full 0 (omega arith), all_lengths rest (λ part within. full (suc part) (omega (arith, within))))

-- what is read with any default
pub default_read : {A : Type 0} (l : List (List A)) (k : ℕ) → k < length l → get_or l k [] ≡ get_or l k (get_or l k [])
default_read [] k within = absurd (omega (arith, within))
default_read (x ∷ l) zero within = refl
default_read (x ∷ l) (suc k) within = default_read l k (omega (arith, within))

module _ {T : Type 0} {counted : Bool} {width : ℕ} {blocks : List (List (Option T))} {counts : List (List ℕ)} {occupancies : List Occupancy} {free : ℕ} {first : Option ℕ}
    (is : IsStocked counted width blocks counts occupancies free first) where
  pub bits_here : (part : ℕ) (block : List (Option T)) (o : Occupancy) → part < length blocks → block ≡ get_or blocks part block → o ≡ get_or occupancies part o → 0 < length block → IsPartition o.held.words (rows_in width block)
  bits_here = bits_of_table width blocks occupancies free first is.table

  pub as_many : length occupancies ≡ length blocks
  as_many = is.table.store.mapped.as_many ∙ length-tables width blocks

  -- how many slots there are
  pub most_slots : len (tuples_of (tables width blocks)) + free ≤ 256 * length blocks
  most_slots = omega (arith, is.table.store.total, most_lengths (tables width blocks) (small_tables width blocks), length-tables width blocks)

  -- where each partition has its block
  all_full : ((part : ℕ) → part < length blocks → has_block_at occupancies part ≡ true) → len (tuples_of (tables width blocks)) + free ≡ 256 * length blocks
  all_full there =
      let long = length-tables width blocks in
      let full : (part : ℕ) → part < length (tables width blocks) → length (slots_at (tables width blocks) part) ≡ 256 = λ part within.
      (is.table.store.mapped.bits part within).count (ltb-true 0 (length (slots_at (tables width blocks) part)) (sym (is.table.store.mapped.told part within) ∙ there part (omega (arith, within, long)))) in
      omega (arith, is.table.store.total, all_lengths (tables width blocks) full, long)

  -- with fewer slots than a store has at most, a partition can follow on those that all have blocks
  pub room_here : len (tuples_of (tables width blocks)) + free < 4294967040 → (16777215 ≤ length blocks → (part : ℕ) → part < length blocks → has_block_at occupancies part ≡ true) → length blocks + 1 < 2 ^ 24
  room_here few there = elim (cases_lt (length blocks) 16777215) as (λ _. length blocks + 1 < 2 ^ 24) [
    | inl below ↦ omega (arith, below)
    | inr past ↦ absurd (omega (arith, past, few, all_full (there (omega (arith, past)))))
  ]

  pub few_here : length blocks < 2 ^ 24
  few_here = omega (arith, is.table.store.numbered, length-tables width blocks)

  -- ---- what is found under a reference

  module _ (r : TupleRef) {part slot : ℕ} (names : part ≡ part_of r) (names_slot : slot ≡ slot_of r) (held : IsSome (get (tuples_of (tables width blocks)) r)) where
    pub part_within : part < length blocks
    part_within = table_within width blocks r part names held

    pub slot_in_range : slot < 256
    slot_in_range = subst (λ (k : ℕ). k < 256) (sym names_slot) (slot_of-within r)

    module _ {block : List (Option T)} (read : block ≡ get_or blocks part block) where
      pub found_here : get (tuples_of (tables width blocks)) r ≡ get_or (rows_in width block) slot None
      found_here = found_row width blocks r part slot block names names_slot held read

      pub held_here : IsSome (get_or (rows_in width block) slot None)
      held_here = sym (ap is_some found_here) ∙ held

      -- the partition has its block
      pub there_here : 0 < length block
      there_here = rows_in-held width slot block held_here

      pub laid_held : IsLaid width block
      laid_held = is.table.laid part block part_within read there_here

      pub bits_held : {o : Occupancy} → o ≡ get_or occupancies part o → IsPartition o.held.words (rows_in width block)
      bits_held {o} read_bits = bits_here part block o part_within read read_bits there_here

    -- ---- a block is another

    module _ {block new : List (Option T)} (read : block ≡ get_or blocks part block) (laid : IsLaid width new) where
      stock : (occupancies' : List Occupancy) (free' : ℕ) (first' : Option ℕ) → IsTable width (set blocks part new) occupancies' free' first' → IsStocked counted width (set blocks part new) counts occupancies' free' first'
      stock occupancies' free' first' table = record {
        beside = is.beside ∙ ap (λ (n : ℕ). if counted then n else 0) (sym (length-set blocks part new));
        own = own-block blocks counts is.own part new part_within (as_many_slots blocks part block new part_within read (there_here read) laid.some);
        table = table;
      }

      -- a slot is freed
      module _ {o : Occupancy} {words : List ℕ} (read_bits : o ≡ get_or occupancies part o) (bits : IsPartition words (rows_in width new)) (slots : rows_in width new ≡ set (rows_in width block) slot None) where
        abbrev freed : Option ℕ → Occupancy
        freed next = record { held = record { words = words }; next_open = next; has_block = o.has_block }

        freeing : (next : Option ℕ) → Changes width blocks occupancies block new o (freed next) part slot None
        freeing next = record {
          within = part_within;
          read = read;
          read_bits = read_bits;
          laid = laid;
          bits = bits;
          in_range = slot_in_range;
          slots = slots;
          some = there_here read;
          same_block = refl;
        }

        pub stocked_full : ((slot : ℕ) → slot < 256 → is_set o.held.words slot ≡ true) → IsStocked counted width (set blocks part new) counts (set occupancies part (freed first)) (free + 1) (Some part)
        stocked_full full =
            let t = is_some-Some _ held in
            stock (set occupancies part (freed first)) (free + 1) (Some part)
            (take_full width blocks occupancies block new o (freed first) part slot free first t.0 is.table (freeing first) (bits_held read read_bits) (sym (found_here read) ∙ t.1) full refl)

        pub stocked_open : (((slot : ℕ) → slot < 256 → is_set o.held.words slot ≡ true) → ⊥) → IsStocked counted width (set blocks part new) counts (set occupancies part (freed o.next_open)) (free + 1) first
        stocked_open still =
            let t = is_some-Some _ held in
            stock (set occupancies part (freed o.next_open)) (free + 1) first
            (take_open width blocks occupancies block new o (freed o.next_open) part slot free first t.0 is.table (freeing o.next_open) (bits_held read read_bits) (sym (found_here read) ∙ t.1) still refl)

        pub freed_slots : sum_by length (tables width (set blocks part new)) ≡ sum_by length (tables width blocks)
        freed_slots = slots-changed width blocks block new part slot None part_within read slots

        pub freed_tuples : tuples_of (tables width (set blocks part new)) ≡ remove (tuples_of (tables width blocks)) r
        freed_tuples = rows-taken width blocks occupancies block new o (freed None) part slot r names names_slot (freeing None)

      -- its row is another
      module _ {was : List T} (cells : List T) (is_was : get (tuples_of (tables width blocks)) r ≡ Some was) (slots : rows_in width new ≡ set (rows_in width block) slot (Some cells)) where
        pub exchanged_stocked : IsStocked counted width (set blocks part new) counts occupancies free first
        exchanged_stocked =
            stock occupancies free first (table-exchanged width blocks occupancies free first is.table block new part slot was cells part_within read laid (sym (found_here read) ∙ is_was) slots)

        pub exchanged_slots : sum_by length (tables width (set blocks part new)) ≡ sum_by length (tables width blocks)
        exchanged_slots = slots-changed width blocks block new part slot (Some cells) part_within read slots

        exchanged_tuples : tuples_of (tables width (set blocks part new)) ≡ insert (tuples_of (tables width blocks)) r cells
        exchanged_tuples = rows-exchanged width blocks block new r part slot was cells names names_slot part_within read (sym (found_here read) ∙ is_was) slots

        -- the store shows it
        pub exchanged_seen : seen width (tuples_of (tables width (set blocks part new))) counts free counted ≡ with_cells (seen width (tuples_of (tables width blocks)) counts free counted) r cells
        exchanged_seen =
            ap (λ t. seen width t counts free counted) exchanged_tuples
            ∙ ap (λ c. store width (insert (tuples_of (tables width blocks)) r cells) c free counted) (counts-exchanged (tuples_of (tables width blocks)) counts r cells was is_was)

    -- ---- a count is another

    module _ (n : ℕ) where
      pub recounted_stocked : IsStocked counted width blocks (with_number counts part slot n) occupancies free first
      recounted_stocked = record {
        beside = length-set counts part (set (get_or counts part []) slot n) ∙ is.beside;
        own = own-counts blocks counts is.own part slot n part_within;
        table = is.table;
      }

      pub recounted_number : counted ≡ true → number_of (with_number counts part slot n) r ≡ n
      recounted_number kept =
          let within : part < length counts = let e = is.beside ∙ ap (λ (b : Bool). if b then length blocks else 0) kept in omega (arith, e, part_within) in
          let there = there_here (default_read blocks part part_within) in
          let long : length (get_or counts part []) ≡ 256 = is.own part within ∙ slots_of-some (get_or blocks part []) there in
          let in_range = slot_in_range in
          number-changed counts r part slot n names names_slot within (omega (arith, in_range, long))

      -- the store shows it
      pub recounted_seen : counted ≡ true → seen width (tuples_of (tables width blocks)) (with_number counts part slot n) free counted ≡ with_count (seen width (tuples_of (tables width blocks)) counts free counted) r n
      recounted_seen kept =
          let t = is_some-Some _ held in
          ap (λ c. store width (tuples_of (tables width blocks)) c free counted)
          (counts-set (tuples_of (tables width blocks)) counts (with_number counts part slot n) r n (recounted_number kept) (number-other counts r part slot n names names_slot) t.0 t.1)

  -- ---- counts of 0 beside the same blocks

  abbrev zeros_here : List (List ℕ)
  zeros_here = map zeros (map (λ (o : Occupancy). o.has_block) occupancies)

  length-zeros_here : length zeros_here ≡ length blocks
  length-zeros_here = length-map (map (λ (o : Occupancy). o.has_block) occupancies) zeros ∙ length-map occupancies (λ (o : Occupancy). o.has_block) ∙ as_many

  -- a partition has as many zeros as slots
  zeros_as_slots : (places : List (Option T)) → length (zeros (nat_lt 0 (length (rows_in width places)))) ≡ slots_of places
  unfolding rows_of
  zeros_as_slots [] = refl
  zeros_as_slots (x ∷ places) =
      ap (λ flag. length (zeros flag)) (lt-ltb 0 (length (rows_in width (x ∷ places))) (omega (arith, length-rows_in width (x ∷ places) (omega arith)))) ∙ length-replicate {A = ℕ} 256 0

  zeros_own : HaveCounts blocks zeros_here
  zeros_own part below =
      let within : part < length blocks = omega (arith, below, length-zeros_here) in
      let rows : slots_at (tables width blocks) part ≡ rows_in width (get_or blocks part []) = mapped-read (rows_in width) blocks part (get_or blocks part []) [] within (default_read blocks part within) in
      ap length (get_or-map zeros (map (λ (o : Occupancy). o.has_block) occupancies) part false [] (omega (arith, within, as_many, length-map occupancies (λ (o : Occupancy). o.has_block))))
      ∙ ap (λ flag. length (zeros flag)) (is.table.store.mapped.told part (omega (arith, within, length-tables width blocks)) ∙ ap (λ l. nat_lt 0 (length l)) rows)
      ∙ zeros_as_slots (get_or blocks part [])

  pub zeros_stocked : IsStocked true width blocks zeros_here occupancies free first
  zeros_stocked = record { beside = length-zeros_here; own = zeros_own; table = is.table }

  -- where no counts are kept each number is 0
  pub uncounted_zero : counted ≡ false → (r : TupleRef) → number_of counts r ≡ 0
  uncounted_zero uncounted r = ap (λ c. number_of c r) (uncounted_none counted blocks counts uncounted is.beside)
