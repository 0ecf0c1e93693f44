-- The blocks of a store, and the rows that their places make: what is read of one, and a store that stays a store.
use Rattle.std.proofs.Common.{◌≡◌, ◌≢◌, ℕ, ◌+◌, ◌-◌, ◌*◌, ◌^◌, ◌<◌, ◌≤◌, zero, suc, true, false, sum_by, List, [], ◌∷◌, ◌++◌, length, get_or, set, Option, Some, None, is_some, IsSome, sym, ap, ◌∙◌, inl, inr, arith, subst}
use Rattle.std.proofs.lemmas.Bool.{cases_eq, true≢false}
use Rattle.std.proofs.lemmas.List.{length-map, length-set, length_push, get_or-set_same, get_or-set_other, get_or_push, map-set, map-append}
use Rattle.std.proofs.Math.ListN.{get_or-map, replicate}
use Rattle.std.specs.FinMap.{get, insert, remove}
use Rattle.part_raw.specs.declared.tuple_ref.TupleRef.{TupleRef}
use Rattle.part_raw.specs.declared.store.Occupancy.{Occupancy}
use Rattle.part_raw.specs.Rows.{IsLaid, rows_in, rows_of}
use Rattle.part_raw.specs.TupleRefs.{ref_to, part_of, slot_of}
use Rattle.part_raw.specs.Layout.{is_set, vacancies, tuples_of, IsPartition}
use Rattle.part_raw.specs.Open.{words_at, tables, AreLaid, IsStore, IsTable}
use Rattle.part_raw.proofs.Bitmaps.{mapped-read, get_or-push_other, bits_at, bits_in}
use Rattle.part_raw.proofs.Lookup.{AreSmall, get-tuples_of, held_in}
use Rattle.part_raw.proofs.Parts.{Blocks, Writes, held_part, found_at, found_before, tuples-written, tuples-freed, tuples-push}
use Rattle.part_raw.proofs.Refs.{ref_to-names}
use Rattle.part_raw.proofs.Rows.{slot_within, rows_in-held, rows_in-some, length-rows_in, most-rows_in, laid-empty}
use Rattle.part_raw.proofs.Slots.{no_vacancy_of_bits, bits_of_no_vacancy, IsPartition-vacant, IsPartition-rewrite, partition_of, some_of_vacancy}
use Rattle.part_raw.proofs.Sound.{Step, same_lengths, first_within, first_open, IsStore-put_full, IsStore-put_open, IsStore-take_full, IsStore-take_open, IsStore-empty, IsStore-push, IsStore-write}

-- no block has more slots than references tell apart
pub small_tables : {T : Type 0} (width : ℕ) (blocks : List (List (Option T))) → AreSmall (tables width blocks)
small_tables width [] part within = absurd (omega (arith, within))
small_tables width (block ∷ rest) zero within = most-rows_in width block
small_tables width (block ∷ rest) (suc part) within = small_tables width rest part (omega (arith, within))

module _ {T : Type 0} (width : ℕ) (blocks : List (List (Option T))) where
  pub length-tables : length (tables width blocks) ≡ length blocks
  length-tables = length-map blocks (rows_in width)

  pub rows_read : (part : ℕ) (block : List (Option T)) → part < length blocks → block ≡ get_or blocks part block → rows_in width block ≡ get_or (tables width blocks) part (rows_in width block)
  rows_read part block within read = sym (mapped-read (rows_in width) blocks part block (rows_in width block) within read)

  -- a reference under which a row is found names a partition
  pub table_within : (r : TupleRef) (part : ℕ) → part ≡ part_of r → IsSome (get (tuples_of (tables width blocks)) r) → part < length blocks
  table_within r part names held = omega (arith, names, held_part (tables width blocks) r (small_tables width blocks) held, length-tables)

  -- what is found is what the slot of the partition holds
  pub found_row : (r : TupleRef) (part slot : ℕ) (block : List (Option T)) → part ≡ part_of r → slot ≡ slot_of r → IsSome (get (tuples_of (tables width blocks)) r) → block ≡ get_or blocks part block
      → get (tuples_of (tables width blocks)) r ≡ get_or (rows_in width block) slot None
  found_row r part slot block names names_slot held read =
      let here = subst (λ (k : ℕ). rows_in width block ≡ get_or (tables width blocks) k (rows_in width block)) names (rows_read part block (table_within r part names held) read) in
      found_at (tables width blocks) (rows_in width block) r (small_tables width blocks) (held_part (tables width blocks) r (small_tables width blocks) held) here
      ∙ ap (λ k. get_or (rows_in width block) k None) (sym names_slot)

-- a partition with no places holds nothing
no_rows_at : {T : Type 0} (width : ℕ) (blocks : List (List (Option T))) (part : ℕ) → get_or blocks part [] ≡ [] → get_or (tables width blocks) part [] ≡ []
unfolding rows_of
no_rows_at width blocks part none = get_or-map (rows_in width) blocks part [] ∙ ap (rows_in width) none

pub bare_holds_none : {T : Type 0} (width : ℕ) (blocks : List (List (Option T))) (part : ℕ) → get_or blocks part [] ≡ [] → (r : TupleRef) → IsSome (get (tuples_of (tables width blocks)) r) → part_of r ≢ part
bare_holds_none width blocks part none r held names =
    let found =
    get-tuples_of (tables width blocks) r (small_tables width blocks) ∙ ap (λ k. held_in (tables width blocks) k (slot_of r)) names ∙ ap (λ rows. get_or rows (slot_of r) None) (no_rows_at width blocks part none) in
    true≢false (sym held ∙ ap is_some found)

-- each block with places is laid still where one is another
pub laid-set : {T : Type 0} (width : ℕ) (blocks : List (List (Option T))) (new : List (Option T)) (part : ℕ) → part < length blocks → (0 < length new → IsLaid width new) → AreLaid width blocks → AreLaid width (set blocks part new)
laid-set {T} width blocks new part within laid is other found below read some = elim (cases_eq other part) [
  | inl same ↦
      let there : found ≡ new = read ∙ ap (λ k. get_or (set blocks part new) k found) same ∙ get_or-set_same blocks part new found within in
      subst (λ (s : List (Option T)). IsLaid width s) (sym there) (laid (subst (λ (s : List (Option T)). 0 < length s) there some))
  | inr differs ↦ is other found (omega (arith, below, length-set blocks part new)) (read ∙ get_or-set_other blocks part other new found differs) some
]

module _ {T : Type 0} (width : ℕ) (blocks : List (List (Option T))) (occupancies : List Occupancy) (free : ℕ) (first : Option ℕ) (is : IsTable width blocks occupancies free first) where
  pub laid_at : (part : ℕ) (block : List (Option T)) → part < length blocks → block ≡ get_or blocks part block → 0 < length block → IsLaid width block
  laid_at part block within read some = is.laid part block within read some

  pub IsTable-set : (new : List (Option T)) (occupancies' : List Occupancy) (free' part : ℕ) (first' : Option ℕ) → part < length blocks → IsLaid width new
      → IsStore (set (tables width blocks) part (rows_in width new)) occupancies' free' first' → IsTable width (set blocks part new) occupancies' free' first'
  IsTable-set new occupancies' free' part first' within laid store = record {
    wide = is.wide;
    fits = is.fits;
    laid = laid-set width blocks new part within (λ some. laid) is.laid;
    store = subst (λ (tables' : Blocks (List T)). IsStore tables' occupancies' free' first') (sym (map-set (rows_in width) blocks part new)) store;
  }

  pub IsTable-push : (new : List (Option T)) (occupancies' : List Occupancy) (free' : ℕ) (first' : Option ℕ) → IsLaid width new
      → IsStore (tables width blocks ++ rows_in width new ∷ []) occupancies' free' first' → IsTable width (blocks ++ new ∷ []) occupancies' free' first'
  IsTable-push new occupancies' free' first' laid store = record {
    wide = is.wide;
    fits = is.fits;
    laid = λ other found below read some. elim (cases_eq other (length blocks)) [
      | inl same ↦ subst (λ (s : List (Option T)). IsLaid width s) (sym (read ∙ get_or_push blocks new found other (sym same))) laid
      | inr differs ↦ is.laid other found (omega (arith, below, length_push blocks new, differs)) (read ∙ get_or-push_other blocks other new found differs) some
    ];
    store = subst (λ (tables' : Blocks (List T)). IsStore tables' occupancies' free' first') (sym (map-append (rows_in width) blocks (new ∷ []))) store;
  }

-- ---- one slot of one partition changes

module _ {T : Type 0} where
  -- a block and its bitmap, as they are and as they become: the slot's row is this
  pub record Changes (width : ℕ) (blocks : List (List (Option T))) (occupancies : List Occupancy) (block new : List (Option T)) (o o' : Occupancy) (part slot : ℕ) (row : Option (List T)) : Type 0 where
    pub within : part < length blocks
    pub read : block ≡ get_or blocks part block
    pub read_bits : o ≡ get_or occupancies part o
    pub laid : IsLaid width new
    pub bits : IsPartition o'.held.words (rows_in width new)
    pub in_range : slot < 256
    pub slots : rows_in width new ≡ set (rows_in width block) slot row
    pub some : 0 < length block
    pub same_block : o'.has_block ≡ o.has_block

  pub writes_of : (width : ℕ) (blocks : List (List (Option T))) (block new : List (Option T)) (part slot : ℕ) (row : Option (List T)) → part < length blocks → block ≡ get_or blocks part block → 0 < length block → slot < 256
      → rows_in width new ≡ set (rows_in width block) slot row → Writes (tables width blocks) (rows_in width block) (rows_in width new) part slot row
  writes_of width blocks block new part slot row within read some in_range slots = record {
    small = small_tables width blocks;
    within = omega (arith, within, length-tables width blocks);
    read = rows_read width blocks part block within read;
    in_slots = omega (arith, in_range, length-rows_in width block some);
    is = slots;
  }

  -- as many slots are there as before
  pub slots-changed : (width : ℕ) (blocks : List (List (Option T))) (block new : List (Option T)) (part slot : ℕ) (row : Option (List T)) → part < length blocks → block ≡ get_or blocks part block
      → rows_in width new ≡ set (rows_in width block) slot row → sum_by length (tables width (set blocks part new)) ≡ sum_by length (tables width blocks)
  slots-changed width blocks block new part slot row within read slots =
      ap (sum_by length) (map-set (rows_in width) blocks part new)
      ∙ same_lengths (tables width blocks) part (rows_in width block) (rows_in width new) (omega (arith, within, length-tables width blocks)) (rows_read width blocks part block within read)
      (ap length slots ∙ length-set (rows_in width block) slot row)

  module _ (width : ℕ) (blocks : List (List (Option T))) (occupancies : List Occupancy) (block new : List (Option T)) (o o' : Occupancy) (part slot : ℕ) where
    pub step_of : (row : Option (List T)) → Changes width blocks occupancies block new o o' part slot row
        → Step (tables width blocks) occupancies (rows_in width block) (rows_in width new) o o' part slot row
    step_of row c = record { writes = writes_of width blocks block new part slot row c.within c.read c.some c.in_range c.slots; read = c.read_bits; bits = c.bits; same_block = c.same_block }

    -- nothing is found before where the slot is free
    pub fresh-put : (row : List T) → Changes width blocks occupancies block new o o' part slot (Some row) → get_or (rows_in width block) slot None ≡ None → get (tuples_of (tables width blocks)) (ref_to part slot) ≡ None
    fresh-put row c fresh = found_before (tables width blocks) (rows_in width block) (rows_in width new) part slot (Some row) (step_of (Some row) c).writes ∙ fresh

    -- the map of the rows follows
    pub rows-put : (row : List T) → Changes width blocks occupancies block new o o' part slot (Some row) → tuples_of (tables width (set blocks part new)) ≡ insert (tuples_of (tables width blocks)) (ref_to part slot) row
    rows-put row c = ap tuples_of (map-set (rows_in width) blocks part new) ∙ tuples-written (tables width blocks) (rows_in width block) (rows_in width new) part slot row (step_of (Some row) c).writes

    pub rows-taken : (r : TupleRef) → part ≡ part_of r → slot ≡ slot_of r → Changes width blocks occupancies block new o o' part slot None
        → tuples_of (tables width (set blocks part new)) ≡ remove (tuples_of (tables width blocks)) r
    rows-taken r names names_slot c =
        ap tuples_of (map-set (rows_in width) blocks part new) ∙ tuples-freed (tables width blocks) (rows_in width block) (rows_in width new) part slot (step_of None c).writes
        ∙ ap (remove (tuples_of (tables width blocks))) (ref_to-names r part slot names names_slot)

    module _ (free : ℕ) (row : List T) (is : IsTable width blocks occupancies free (Some part)) (c : Changes width blocks occupancies block new o o' part slot (Some row)) (fresh : get_or (rows_in width block) slot None ≡ None) (some : 0 < free) where
      pub put_full : ((slot : ℕ) → slot < 256 → is_set o'.held.words slot ≡ true) → IsTable width (set blocks part new) (set occupancies part o') (free - 1) o.next_open
      put_full full =
          IsTable-set width blocks occupancies free (Some part) is new (set occupancies part o') (free - 1) part o.next_open c.within c.laid
          (IsStore-put_full (tables width blocks) occupancies (rows_in width block) (rows_in width new) o o' free part slot row is.store (step_of (Some row) c) fresh some (no_vacancy_of_bits o'.held.words (rows_in width new) c.bits full))

      pub put_open : (((slot : ℕ) → slot < 256 → is_set o'.held.words slot ≡ true) → ⊥) → o'.next_open ≡ o.next_open → IsTable width (set blocks part new) (set occupancies part o') (free - 1) (Some part)
      put_open still next =
          IsTable-set width blocks occupancies free (Some part) is new (set occupancies part o') (free - 1) part (Some part) c.within c.laid
          (IsStore-put_open (tables width blocks) occupancies (rows_in width block) (rows_in width new) o o' free part slot row is.store (step_of (Some row) c) fresh some
          (λ none. still (bits_of_no_vacancy o'.held.words (rows_in width new) c.bits none)) next)

    module _ (free : ℕ) (first : Option ℕ) (row : List T) (is : IsTable width blocks occupancies free first) (c : Changes width blocks occupancies block new o o' part slot None) (was : IsPartition o.held.words (rows_in width block))
        (held : get_or (rows_in width block) slot None ≡ Some row) where
      pub take_full : ((slot : ℕ) → slot < 256 → is_set o.held.words slot ≡ true) → o'.next_open ≡ first → IsTable width (set blocks part new) (set occupancies part o') (free + 1) (Some part)
      take_full full next =
          IsTable-set width blocks occupancies free first is new (set occupancies part o') (free + 1) part (Some part) c.within c.laid
          (IsStore-take_full (tables width blocks) occupancies (rows_in width block) (rows_in width new) o o' free part slot first row is.store (step_of None c) held (no_vacancy_of_bits o.held.words (rows_in width block) was full) next)

      pub take_open : (((slot : ℕ) → slot < 256 → is_set o.held.words slot ≡ true) → ⊥) → o'.next_open ≡ o.next_open → IsTable width (set blocks part new) (set occupancies part o') (free + 1) first
      take_open still next =
          IsTable-set width blocks occupancies free first is new (set occupancies part o') (free + 1) part first c.within c.laid
          (IsStore-take_open (tables width blocks) occupancies (rows_in width block) (rows_in width new) o o' free part slot first row is.store (step_of None c) held
          (λ none. still (bits_of_no_vacancy o.held.words (rows_in width block) was none)) next)

  -- a partition's bitmap tells of its slots
  pub bits_of_table : (width : ℕ) (blocks : List (List (Option T))) (occupancies : List Occupancy) (free : ℕ) (first : Option ℕ) → IsTable width blocks occupancies free first
      → (part : ℕ) (block : List (Option T)) (o : Occupancy) → part < length blocks → block ≡ get_or blocks part block → o ≡ get_or occupancies part o → 0 < length block → IsPartition o.held.words (rows_in width block)
  bits_of_table width blocks occupancies free first is part block o within read read_bits some =
      partition_of _ _ (bits_at (tables width blocks) occupancies (rows_in width block) o part is.store.mapped (omega (arith, within, length-tables width blocks)) (rows_read width blocks part block within read) read_bits) (omega (arith, length-rows_in width block some))

  -- the first of the partitions with a free slot
  module _ (width : ℕ) (blocks : List (List (Option T))) (occupancies : List Occupancy) (free part : ℕ) (is : IsTable width blocks occupancies free (Some part)) where
    pub open_within : part < length blocks
    open_within = omega (arith, first_within (tables width blocks) occupancies free part is.store, length-tables width blocks)

    pub open_has_slot : (block : List (Option T)) → block ≡ get_or blocks part block → 0 < vacancies (rows_in width block)
    open_has_slot block read = first_open (tables width blocks) occupancies free (rows_in width block) part is.store (rows_read width blocks part block open_within read)

    pub open_has_places : (block : List (Option T)) → block ≡ get_or blocks part block → 0 < length block
    open_has_places block read = rows_in-some width block (some_of_vacancy (rows_in width block) (open_has_slot block read))

  pub IsTable-empty : (width : ℕ) → 0 < width → width ≤ 65536 → IsTable {T = T} width [] [] 0 None
  IsTable-empty width wide fits = record { wide = wide; fits = fits; laid = λ part found below read some. absurd (omega (arith, below)); store = IsStore-empty }

  -- ---- a new partition

  pub table-pushed : (width : ℕ) (blocks : List (List (Option T))) (occupancies : List Occupancy) (new : List (Option T)) (o : Occupancy) (free : ℕ) (first : Option ℕ) (part : ℕ)
      → IsTable width blocks occupancies free first → new ≡ replicate (256 * width) None → ((slot : ℕ) → slot < 256 → is_set o.held.words slot ≡ false) → o.has_block ≡ true → o.next_open ≡ first → part ≡ length blocks
      → length blocks + 1 < 2 ^ 24 → IsTable width (blocks ++ new ∷ []) (occupancies ++ o ∷ []) (free + 256) (Some part)
  table-pushed width blocks occupancies new o free first part is empty clear block next at room =
      let both = laid-empty width new is.wide empty in
      IsTable-push width blocks occupancies free first is new (occupancies ++ o ∷ []) (free + 256) (Some part) both.0
      (IsStore-push (tables width blocks) occupancies (rows_in width new) o free first part is.store both.1 (IsPartition-vacant _ _ clear both.1) block next (omega (arith, at, length-tables width blocks)) (omega (arith, room, length-tables width blocks)))

  pub rows-pushed : (width : ℕ) (blocks : List (List (Option T))) (new : List (Option T)) → 0 < width → new ≡ replicate (256 * width) None → tuples_of (tables width (blocks ++ new ∷ [])) ≡ tuples_of (tables width blocks)
  rows-pushed width blocks new wide empty =
      let vacant = (laid-empty width new wide empty).1 in
      ap tuples_of (map-append (rows_in width) blocks (new ∷ [])) ∙ tuples-push (tables width blocks) (rows_in width new) (small_tables width blocks) (omega (arith, vacant.count)) vacant.empty

  -- ---- a row is written over

  pub table-exchanged : (width : ℕ) (blocks : List (List (Option T))) (occupancies : List Occupancy) (free : ℕ) (first : Option ℕ) → IsTable width blocks occupancies free first
      → (block new : List (Option T)) (part slot : ℕ) (old row : List T) → part < length blocks → block ≡ get_or blocks part block → IsLaid width new
      → get_or (rows_in width block) slot None ≡ Some old → rows_in width new ≡ set (rows_in width block) slot (Some row) → IsTable width (set blocks part new) occupancies free first
  table-exchanged width blocks occupancies free first is block new part slot old row within read laid held slots =
      let in_range = slot_within width slot block (ap is_some held) in
      let some = rows_in-held width slot block (ap is_some held) in
      let writes = writes_of width blocks block new part slot (Some row) within read some in_range slots in
      let bits = partition_of _ _ (bits_in (tables width blocks) occupancies (rows_in width block) part is.store.mapped (omega (arith, within, length-tables width blocks)) (rows_read width blocks part block within read)) (omega (arith, length-rows_in width block some)) in
      IsTable-set width blocks occupancies free first is new occupancies free part first within laid
      (IsStore-write (tables width blocks) occupancies (rows_in width block) (rows_in width new) free part slot first old row is.store writes held
      (subst (λ (rows : List (Option (List T))). IsPartition (words_at occupancies part) rows) (sym slots) (IsPartition-rewrite _ _ slot row (ap is_some held) bits)))

  pub rows-exchanged : (width : ℕ) (blocks : List (List (Option T))) (block new : List (Option T)) (r : TupleRef) (part slot : ℕ) (old row : List T) → part ≡ part_of r → slot ≡ slot_of r
      → part < length blocks → block ≡ get_or blocks part block → get_or (rows_in width block) slot None ≡ Some old → rows_in width new ≡ set (rows_in width block) slot (Some row)
      → tuples_of (tables width (set blocks part new)) ≡ insert (tuples_of (tables width blocks)) r row
  rows-exchanged width blocks block new r part slot old row names names_slot within read held slots =
      let in_range = slot_within width slot block (ap is_some held) in
      let some = rows_in-held width slot block (ap is_some held) in
      ap tuples_of (map-set (rows_in width) blocks part new)
      ∙ tuples-written (tables width blocks) (rows_in width block) (rows_in width new) part slot row (writes_of width blocks block new part slot (Some row) within read some in_range slots)
      ∙ ap (λ q. insert (tuples_of (tables width blocks)) q row) (ref_to-names r part slot names names_slot)
