-- A store with its counts beside it, as a free slot is filled, and as a partition comes.
use Rattle.std.proofs.Common.{◌≡◌, ℕ, ◌+◌, sum_by, nat_lt, ◌-◌, ◌*◌, ◌^◌, ◌<◌, ◌≤◌, Bool, true, false, if◌then◌else◌, List, [], ◌∷◌, ◌++◌, length, get_or, set, Option, Some, None, is_some, refl, sym, ap, ◌∙◌, arith, subst}
use Rattle.std.proofs.lemmas.Bool.{lt-ltb, true≢false}
use Rattle.std.proofs.lemmas.List.{length-set, length-append, length_push, length-replicate, map-set, map-append}
use Rattle.std.proofs.lemmas.List.Sums.{sum_by-cons, sum_by-append}
use Rattle.std.proofs.Math.ListN.{replicate}
use Rattle.std.specs.Prelude.{option_to_list, IfSome}
use Rattle.std.specs.FinMap.{get, insert}
use Rattle.part_raw.specs.declared.store.Occupancy.{Occupancy}
use Rattle.part_raw.specs.Rows.{IsLaid, rows_in}
use Rattle.part_raw.specs.Counted.{counts_of, number_of, zeros}
use Rattle.part_raw.specs.TupleRefs.{part_of, ref_to}
use Rattle.part_raw.specs.Layout.{is_set, vacancies, tuples_of, IsPartition, IsVacant}
use Rattle.part_raw.specs.Open.{has_block_at, tables, HaveCounts, IsStore, IsTable, IsStocked}
use Rattle.part_raw.proofs.Bitmaps.{mapped-read}
use Rattle.part_raw.proofs.Numbers.{counts-alike, counts-put, number-cleared, number-other, number-push, number-set_other, with_number}
use Rattle.part_raw.proofs.OwnCounts.{as_many_slots, own-set, own-push}
use Rattle.part_raw.proofs.Refs.{part_of-to, slot_of-to}
use Rattle.part_raw.proofs.Rows.{laid-empty, rows_in-none, slots_of-some}
use Rattle.part_raw.proofs.Sound.{IsStore-refill, refilled_tuples, refilled_lengths}
use Rattle.part_raw.proofs.Stocked.{default_read, as_many}
use Rattle.part_raw.proofs.Tables.{Changes, bare_holds_none, open_within, open_has_slot, open_has_places, slots-changed, laid-set, length-tables, table_within, fresh-put, put_full, put_open, rows-put, table-pushed, rows-pushed, IsTable-empty}

-- ---- a free slot of the first partition that has one is filled

module _ {T : Type 0} {counted : Bool} {width : ℕ} {blocks : List (List (Option T))} {counts : List (List ℕ)} {occupancies : List Occupancy} {free part : ℕ}
    (is : IsStocked counted width blocks counts occupancies free (Some part)) where
  pub first_within : part < length blocks
  first_within = open_within width blocks occupancies free part is.table

  pub first_has_slot : {block : List (Option T)} → block ≡ get_or blocks part block → 0 < vacancies (rows_in width block)
  first_has_slot {block} read = open_has_slot width blocks occupancies free part is.table block read

  pub first_there : {block : List (Option T)} → block ≡ get_or blocks part block → 0 < length block
  first_there {block} read = open_has_places width blocks occupancies free part is.table block read

  module _ {block new : List (Option T)} {o : Occupancy} {words : List ℕ} {slot : ℕ} (cells : List T) {counts' : List (List ℕ)} (wide : length cells ≡ width) (read : block ≡ get_or blocks part block) (read_bits : o ≡ get_or occupancies part o)
      (laid : IsLaid (length cells) new) (bits : IsPartition words (rows_in (length cells) new)) (in_range : slot < 256) (fresh : get_or (rows_in (length cells) block) slot None ≡ None)
      (slots : rows_in (length cells) new ≡ set (rows_in (length cells) block) slot (Some cells)) (set_is : counts' ≡ with_number counts part slot 0) where
    abbrev filled : Occupancy
    filled = record { held = record { words = words }; next_open = o.next_open; has_block = o.has_block }

    filling : Changes width blocks occupancies block new o filled part slot (Some cells)
    filling = record {
      within = first_within;
      read = read;
      read_bits = read_bits;
      laid = subst (λ (n : ℕ). IsLaid n new) wide laid;
      bits = subst (λ (n : ℕ). IsPartition words (rows_in n new)) wide bits;
      in_range = in_range;
      slots = subst (λ (n : ℕ). rows_in n new ≡ set (rows_in n block) slot (Some cells)) wide slots;
      some = first_there read;
      same_block = refl;
    }

    was_free : get_or (rows_in width block) slot None ≡ None
    was_free = subst (λ (n : ℕ). get_or (rows_in n block) slot None ≡ None) wide fresh

    stock : (occupancies' : List Occupancy) (free' : ℕ) (first' : Option ℕ) → IsTable width (set blocks part new) occupancies' free' first' → IsStocked counted width (set blocks part new) counts' occupancies' free' first'
    stock occupancies' free' first' table = record {
      beside = ap length set_is ∙ length-set counts part (set (get_or counts part []) slot 0) ∙ is.beside ∙ ap (λ (n : ℕ). if counted then n else 0) (sym (length-set blocks part new));
      own = subst (λ (c : List (List ℕ)). HaveCounts (set blocks part new) c) (sym set_is)
          (own-set blocks counts is.own part new (set (get_or counts part []) slot 0) first_within
          (λ among. length-set (get_or counts part []) slot 0 ∙ is.own part among ∙ as_many_slots blocks part block new first_within read (first_there read) laid.some));
      table = table;
    }

    pub filled_full : 0 < free → ((slot : ℕ) → slot < 256 → is_set words slot ≡ true) → IsStocked counted width (set blocks part new) counts' (set occupancies part filled) (free - 1) o.next_open
    filled_full some full =
        stock (set occupancies part filled) (free - 1) o.next_open (put_full width blocks occupancies block new o filled part slot free cells is.table filling was_free some full)

    pub filled_open : 0 < free → (((slot : ℕ) → slot < 256 → is_set words slot ≡ true) → ⊥) → IsStocked counted width (set blocks part new) counts' (set occupancies part filled) (free - 1) (Some part)
    filled_open some still =
        stock (set occupancies part filled) (free - 1) (Some part) (put_open width blocks occupancies block new o filled part slot free cells is.table filling was_free some still refl)

    pub filled_slots : sum_by length (tables width (set blocks part new)) ≡ sum_by length (tables width blocks)
    filled_slots = slots-changed width blocks block new part slot (Some cells) filling.within filling.read filling.slots

    pub filled_fresh : get (tuples_of (tables width blocks)) (ref_to part slot) ≡ None
    filled_fresh = fresh-put width blocks occupancies block new o filled part slot cells filling was_free

    pub filled_tuples : tuples_of (tables width (set blocks part new)) ≡ insert (tuples_of (tables width blocks)) (ref_to part slot) cells
    filled_tuples = rows-put width blocks occupancies block new o filled part slot cells filling

    pub filled_counts : counts_of counts' (tuples_of (tables width (set blocks part new))) ≡ insert (counts_of counts (tuples_of (tables width blocks))) (ref_to part slot) 0
    filled_counts =
        let r = ref_to part slot in
        let names = sym (part_of-to part slot in_range) in let names_slot = sym (slot_of-to part slot in_range) in
        ap (counts_of counts') filled_tuples
        ∙ counts-put (tuples_of (tables width blocks)) counts counts' r 0 cells (ap (λ c. number_of c r) set_is ∙ number-cleared counts r part slot 0 names names_slot refl)
        (λ q other. ap (λ c. number_of c q) set_is ∙ number-other counts r part slot 0 names names_slot q other)

-- ---- a partition more

module _ {T : Type 0} {counted : Bool} {width : ℕ} {blocks : List (List (Option T))} {counts : List (List ℕ)} {occupancies : List Occupancy} {free : ℕ} {first : Option ℕ}
    (stocked : IsStocked counted width blocks counts occupancies free first) (new : List (Option T)) (next : Option (List ℕ)) (empty : new ≡ replicate (256 * width) None) (made : is_some next ≡ counted) (are_zeros : IfSome next (λ its. its ≡ zeros true)) where
  abbrev vacant : IsLaid width new × IsVacant (rows_in width new)
  vacant = laid-empty width new stocked.table.wide empty

  pub pushed_stocked : (o : Occupancy) (part : ℕ) → ((slot : ℕ) → slot < 256 → is_set o.held.words slot ≡ false) → o.has_block ≡ true → o.next_open ≡ first → part ≡ length blocks
      → length blocks + 1 < 2 ^ 24 → IsStocked counted width (blocks ++ new ∷ []) (counts ++ option_to_list next) (occupancies ++ o ∷ []) (free + 256) (Some part)
  pushed_stocked o part clear block next_is at room = record {
    beside = grown counted next stocked.beside made;
    own = grown_own counted next stocked.beside made are_zeros;
    table = table-pushed width blocks occupancies new o free first part stocked.table empty clear block next_is at room;
  }
    where
      grown : (b : Bool) (n : Option (List ℕ)) → length counts ≡ (if b then length blocks else 0) → is_some n ≡ b → length (counts ++ option_to_list n) ≡ (if b then length (blocks ++ new ∷ []) else 0)
      grown true (Some n) beside made = omega (arith, beside, length-append counts (n ∷ []), length_push blocks new)
      grown true None beside made = absurd (cc)
      grown false (Some n) beside made = absurd (cc)
      grown false None beside made = let none : List (List ℕ) = [] in omega (arith, beside, length-append counts none)

      grown_own : (b : Bool) (n : Option (List ℕ)) → length counts ≡ (if b then length blocks else 0) → is_some n ≡ b → IfSome n (λ its. its ≡ zeros true) → HaveCounts (blocks ++ new ∷ []) (counts ++ option_to_list n)
      grown_own true (Some its) beside made e = own-push blocks counts stocked.own new its beside (ap length e ∙ length-replicate {A = ℕ} 256 0 ∙ sym (slots_of-some new vacant.0.some))
      grown_own true None beside made e = absurd (cc)
      grown_own false (Some its) beside made e = absurd (cc)
      grown_own false None beside made e = λ part below. let none : List (List ℕ) = [] in absurd (omega (arith, below, beside, length-append counts none))

  pub pushed_tuples : tuples_of (tables width (blocks ++ new ∷ [])) ≡ tuples_of (tables width blocks)
  pushed_tuples = rows-pushed width blocks new stocked.table.wide empty

  pub pushed_counts : counts_of (counts ++ option_to_list next) (tuples_of (tables width (blocks ++ new ∷ []))) ≡ counts_of counts (tuples_of (tables width blocks))
  pushed_counts =
      ap (counts_of (counts ++ option_to_list next)) pushed_tuples
      ∙ counts-alike (tuples_of (tables width blocks)) counts (counts ++ option_to_list next) (λ r held. number-push counts r counted blocks next stocked.beside made (table_within width blocks r (part_of r) refl held))

  pub pushed_slots : sum_by length (tables width (blocks ++ new ∷ [])) ≡ sum_by length (tables width blocks) + 256
  pushed_slots =
      ap (sum_by length) (map-append (rows_in width) blocks (new ∷ []))
      ∙ omega (arith, sum_by-append length (tables width blocks) (rows_in width new ∷ []), sum_by-cons length (rows_in width new) [], vacant.1.count)

-- ---- a partition that gave its block back gets one again

-- it has no places
pub bare_block : {T : Type 0} {counted : Bool} {width : ℕ} {blocks : List (List (Option T))} {counts : List (List ℕ)} {occupancies : List Occupancy} {free : ℕ} {first : Option ℕ} → IsStocked counted width blocks counts occupancies free first
    → (part : ℕ) → part < length blocks → has_block_at occupancies part ≡ false → get_or blocks part [] ≡ []
bare_block {width = width} {blocks = blocks} is part within bare =
    let block = get_or blocks part [] in
    let rows = mapped-read (rows_in width) blocks part block [] within (default_read blocks part within) in
    let told = is.table.store.mapped.told part (omega (arith, within, length-tables width blocks)) in
    rows_in-none width block (λ some. true≢false (sym (lt-ltb 0 (length (rows_in width block)) some) ∙ ap (λ l. nat_lt 0 (length l)) (sym rows) ∙ sym told ∙ bare))

module _ {T : Type 0} {counted : Bool} {width : ℕ} {blocks : List (List (Option T))} {counts : List (List ℕ)} {occupancies : List Occupancy} {free : ℕ} {first : Option ℕ}
    (stocked : IsStocked counted width blocks counts occupancies free first) (part : ℕ) (new : List (Option T)) (o : Occupancy) (within : part < length blocks) (read : o ≡ get_or occupancies part o) (no_block : has_block_at occupancies part ≡ false)
    (empty : new ≡ replicate (256 * width) None) (own : List ℕ) (are_zeros : own ≡ zeros counted) where
  bare : o.has_block ≡ false
  bare = sym (mapped-read (λ (x : Occupancy). x.has_block) occupancies part o false (omega (arith, within, as_many stocked)) read) ∙ no_block

  among : part < length (tables width blocks)
  among = omega (arith, within, length-tables width blocks)

  empty_rows : IsLaid width new × IsVacant (rows_in width new)
  empty_rows = laid-empty width new stocked.table.wide empty

  same_refilled : tables width (set blocks part new) ≡ set (tables width blocks) part (rows_in width new)
  same_refilled = map-set (rows_in width) blocks part new

  -- where counts are kept there is one for each slot again
  as_many_zeros : (b : Bool) → length counts ≡ (if b then length blocks else 0) → own ≡ zeros b → part < length counts → length own ≡ 256
  as_many_zeros true beside e counted_here = ap length e ∙ length-replicate {A = ℕ} 256 0
  as_many_zeros false beside e counted_here = absurd (omega (arith, beside, counted_here))

  pub refilled_stocked : (o' : Occupancy) → o'.held.words ≡ o.held.words → o'.has_block ≡ true → o'.next_open ≡ first → IsStocked counted width (set blocks part new) (set counts part own) (set occupancies part o') (free + 256) (Some part)
  refilled_stocked o' words block next = record {
    beside = length-set counts part own ∙ stocked.beside ∙ ap (λ (n : ℕ). if counted then n else 0) (sym (length-set blocks part new));
    own = own-set blocks counts stocked.own part new own within (λ among. as_many_zeros counted stocked.beside are_zeros among ∙ sym (slots_of-some new empty_rows.0.some));
    table = record {
      wide = stocked.table.wide;
      fits = stocked.table.fits;
      laid = laid-set width blocks new part within (λ some. empty_rows.0) stocked.table.laid;
      store = subst (λ (t : List (List (Option (List T)))). IsStore t (set occupancies part o') (free + 256) (Some part)) (sym same_refilled)
          (IsStore-refill (tables width blocks) occupancies (rows_in width new) o free first part stocked.table.store among read bare empty_rows.1 o' words block next);
    };
  }

  pub refill_tuples : tuples_of (tables width (set blocks part new)) ≡ tuples_of (tables width blocks)
  refill_tuples = ap tuples_of same_refilled ∙ refilled_tuples (tables width blocks) occupancies (rows_in width new) o free first part stocked.table.store among read bare empty_rows.1

  pub refill_counts : counts_of (set counts part own) (tuples_of (tables width (set blocks part new))) ≡ counts_of counts (tuples_of (tables width blocks))
  refill_counts =
      ap (counts_of (set counts part own)) refill_tuples
      ∙ counts-alike (tuples_of (tables width blocks)) counts (set counts part own) (λ r held. number-set_other counts r part own (bare_holds_none width blocks part (bare_block stocked part within no_block) r held))

  pub refill_slots : sum_by length (tables width (set blocks part new)) ≡ sum_by length (tables width blocks) + 256
  refill_slots = ap (sum_by length) same_refilled ∙ refilled_lengths (tables width blocks) occupancies (rows_in width new) o free first part stocked.table.store among read bare empty_rows.1

-- ---- a store with no partition

pub stocked_empty : {T : Type 0} (width : ℕ) → 0 < width → width ≤ 65536 → IsStocked {T = T} false width [] [] [] 0 None
stocked_empty width wide fits = record { beside = refl; own = λ part below. absurd (omega (arith, below)); table = IsTable-empty width wide fits }
