-- A store stays a store: after a put, a take, a write and a new partition.
use Rattle.std.proofs.Common.{◌≡◌, ◌≢◌, ℕ, zero, suc, ◌+◌, ◌-◌, ◌*◌, ◌^◌, ◌<◌, ◌≤◌, Bool, true, false, cond, List, [], ◌∷◌, ◌++◌, length, get_or, set, Option, Some, None, is_some, refl, sym, ap, ◌∙◌, inl, inr, arith, subst, count_by, sum_by, nat_lt}
use Rattle.std.proofs.lemmas.Bool.{cases_eq, true≢false, ltb-true, lt-ltb, le-ltb, ltb-false}
use Rattle.std.proofs.lemmas.List.{length-set, length_push, get_or-set_same, get_or-set_other, get_or_push, get_or_past, get_or_default}
use Rattle.std.proofs.lemmas.List.Sums.{sum_by-cons, sum_by-append, sum_by-set}
use Rattle.std.specs.FinMap.{len, len-empty}
use Rattle.part_raw.specs.declared.store.Occupancy.{Occupancy}
use Rattle.part_raw.specs.TupleRefs.{ref_cmp, ref_to}
use Rattle.part_raw.specs.Layout.{is_set, vacancies, tuples_of, tuples_from, IsPartition, IsVacant}
use Rattle.part_raw.specs.Open.{words_at, slots_at, next_at, has_vacancy, open_at, IsOpenList, HaveBitmaps, IsStore}
use Rattle.part_raw.proofs.Tuples.{len-insert_fresh, len-insert_held, len-remove_held}
use Rattle.part_raw.proofs.Slots.{vacancies-fill, vacancies-free, vacancies-rewrite, all_vacant, place_of, no_vacancy_of_none, IsPartition-vacant}
use Rattle.part_raw.proofs.Lookup.{AreSmall}
use Rattle.part_raw.proofs.Chain.{none_first, first_of, SameBeside, keep_rest, keep_all, put_first}
use Rattle.part_raw.proofs.Bitmaps.{mapped-read, mapped-set_same, mapped-set_other, mapped-push_same, mapped-push_other, get_or-push_other, bits_of, told_at, HaveBitmaps-set, HaveBitmaps-write, HaveBitmaps-push}
use Rattle.part_raw.proofs.Parts.{Blocks, Writes, read_block, small_blocks, found_before, tuples-written, tuples-freed, tuples-push, tuples-vacant}

abbrev next_of : Occupancy → Option ℕ
next_of o = o.next_open

module _ {T : Type 0} where
  abbrev one_if_open : List (Option T) → ℕ
  one_if_open slots = cond (has_vacancy slots) 1 0

  -- ---- the count of free slots and the list

  -- where no partition has a free slot none is free
  none_open : (blocks : Blocks T) → count_by has_vacancy blocks ≡ 0 → sum_by vacancies blocks ≡ 0
  none_open [] none = refl
  none_open (slots ∷ rest) none =
      let split = sum_by-cons one_if_open slots rest in
      let later = none_open rest (omega (arith, split, none)) in
      let here : vacancies slots ≡ 0 = zero_of (vacancies slots) (omega (arith, split, none)) in
      omega (arith, sum_by-cons vacancies slots rest, later, here)
    where
      zero_of : (n : ℕ) → ◌≡◌ {A = ℕ} (cond (nat_lt 0 n) 1 0) 0 → n ≡ 0
      zero_of n e = elim (nat_lt 0 n) as (λ b. nat_lt 0 n ≡ b → ◌≡◌ {A = ℕ} (cond b 1 0) 0 → n ≡ 0) [
        | true ↦ λ _ one. absurd (omega (arith, one))
        | false ↦ λ none _. omega (arith, ltb-false 0 n none)
      ] refl e

  has_vacancy_yes : (slots : List (Option T)) → 0 < vacancies slots → has_vacancy slots ≡ true
  has_vacancy_yes slots some = lt-ltb 0 (vacancies slots) some

  has_vacancy_no : (slots : List (Option T)) → vacancies slots ≡ 0 → has_vacancy slots ≡ false
  has_vacancy_no slots none = le-ltb 0 (vacancies slots) (omega arith)

  -- an open partition has a block
  open_within : (blocks : Blocks T) (part : ℕ) → open_at blocks part ≡ true → part < length blocks
  open_within [] part is = absurd (true≢false (sym is))
  open_within (slots ∷ rest) zero is = omega arith
  open_within (slots ∷ rest) (suc part) is = omega (arith, open_within rest part is)

  module _ (blocks : Blocks T) (occupancies : List Occupancy) (free : ℕ) where
    -- a store with a free slot has a partition with one first in its list
    pub first_is_some : IsStore blocks occupancies free None → free ≡ 0
    first_is_some is = is.counted ∙ none_open blocks (sym is.all_open ∙ none_first (open_at blocks) (next_at occupancies) is.open_count is.linked)

    pub first_within : (part : ℕ) → IsStore blocks occupancies free (Some part) → part < length blocks
    first_within part is = open_within blocks part (first_of (open_at blocks) (next_at occupancies) is.open_count part is.linked).2

    pub first_open : (slots : List (Option T)) (part : ℕ) → IsStore blocks occupancies free (Some part) → slots ≡ get_or blocks part slots → 0 < vacancies slots
    first_open slots part is read =
        let block = read_block blocks slots part (first_within part is) read in
        ltb-true 0 (vacancies slots) (sym (ap has_vacancy block) ∙ (first_of (open_at blocks) (next_at occupancies) is.open_count part is.linked).2)

  -- ---- one partition changes

  -- the block and its bitmap, as they are and as they become
  pub record Step (blocks : Blocks T) (occupancies : List Occupancy) (slots new : List (Option T)) (o o' : Occupancy) (part slot : ℕ) (tuple : Option T) : Type 0 where
    pub writes : Writes blocks slots new part slot tuple
    pub read : o ≡ get_or occupancies part o
    pub bits : IsPartition o'.held.words new
    pub same_block : o'.has_block ≡ o.has_block

  -- no partition has more than these
  pub most_lengths : (blocks : Blocks T) → AreSmall blocks → sum_by length blocks ≤ 256 * length blocks
  most_lengths [] small = omega arith
  most_lengths (slots ∷ rest) small = omega (arith, sum_by-cons length slots rest, small 0 (omega arith), most_lengths rest (λ part within. small (suc part) (omega (arith, within))))

  -- as many slots are there where a partition keeps its own
  pub same_lengths : (blocks : Blocks T) (part : ℕ) (slots new : List (Option T)) → part < length blocks → slots ≡ get_or blocks part slots → length new ≡ length slots → sum_by length (set blocks part new) ≡ sum_by length blocks
  same_lengths blocks part slots new within read long = let was : length (get_or blocks part slots) ≡ length slots = ap length (sym read) in omega (arith, sum_by-set length blocks part new slots within, was, long)

  IsStore-set : (blocks : Blocks T) (occupancies occupancies' : List Occupancy) (slots new : List (Option T)) (free free' part : ℕ) (first first' : Option ℕ) (count : ℕ)
      → (is : IsStore blocks occupancies free first) → part < length blocks → slots ≡ get_or blocks part slots
      → HaveBitmaps (set blocks part new) occupancies' → length new ≡ length slots
      → free' + vacancies slots ≡ free + vacancies new
      → len (tuples_of (set blocks part new)) + free' ≡ len (tuples_of blocks) + free
      → count + one_if_open slots ≡ is.open_count + one_if_open new
      → IsOpenList (open_at (set blocks part new)) (next_at occupancies') count first'
      → IsStore (set blocks part new) occupancies' free' first'
  IsStore-set blocks occupancies occupancies' slots new free free' part first first' count is within read mapped long freed total counted linked =
      let sums = sum_by-set vacancies blocks part new slots within in
      let opens = sum_by-set one_if_open blocks part new slots within in
      let lengths = same_lengths blocks part slots new within read long in
      let was : vacancies (get_or blocks part slots) ≡ vacancies slots = ap vacancies (sym read) in
      let was_open : one_if_open (get_or blocks part slots) ≡ one_if_open slots = ap one_if_open (sym read) in
      record {
        mapped = mapped;
        counted = omega (arith, sums, was, freed, is.counted);
        total = omega (arith, total, is.total, lengths);
        open_count = count;
        all_open = omega (arith, opens, was_open, counted, is.all_open);
        linked = linked;
        numbered = omega (arith, is.numbered, length-set blocks part new);
      }

  module _ (blocks : Blocks T) (occupancies : List Occupancy) (slots new : List (Option T)) (o o' : Occupancy) (free part slot : ℕ) (tuple : Option T)
      (as_many : length occupancies ≡ length blocks) (s : Step blocks occupancies slots new o o' part slot tuple) where
    same_long : length new ≡ length slots
    same_long = ap length s.writes.is ∙ length-set slots slot tuple

    kept_bitmaps : (mapped : HaveBitmaps blocks occupancies) → HaveBitmaps (set blocks part new) (set occupancies part o')
    kept_bitmaps mapped =
        HaveBitmaps-set blocks occupancies new o' part mapped s.writes.within (place_of o'.held.words new s.bits)
        (s.same_block ∙ told_at blocks occupancies slots o part mapped s.writes.within s.writes.read s.read ∙ ap (nat_lt 0) (sym same_long))

    has_map : part < length occupancies
    has_map = omega (arith, s.writes.within, as_many)

    beside : SameBeside (open_at blocks) (open_at (set blocks part new)) (next_at occupancies) (next_at (set occupancies part o')) part
    beside = record {
      opens = λ other differs. ap has_vacancy (get_or-set_other blocks part other new [] differs);
      nexts = λ other differs. mapped-set_other next_of occupancies part other o' None differs;
    }

    was_open : open_at blocks part ≡ has_vacancy slots
    was_open = ap has_vacancy (read_block blocks slots part s.writes.within s.writes.read)

    is_open : open_at (set blocks part new) part ≡ has_vacancy new
    is_open = ap has_vacancy (get_or-set_same blocks part new [] s.writes.within)

    was_next : next_at occupancies part ≡ o.next_open
    was_next = mapped-read next_of occupancies part o None has_map s.read

    is_next : next_at (set occupancies part o') part ≡ o'.next_open
    is_next = mapped-set_same next_of occupancies part o' None has_map

    -- the list stays where the partition is open as before, and names the same next
    same_list : (count : ℕ) (first : Option ℕ) → has_vacancy new ≡ has_vacancy slots → o'.next_open ≡ o.next_open
        → IsOpenList (open_at blocks) (next_at occupancies) count first → IsOpenList (open_at (set blocks part new)) (next_at (set occupancies part o')) count first
    same_list count first same next linked =
        keep_all (open_at blocks) (open_at (set blocks part new)) (next_at occupancies) (next_at (set occupancies part o')) part beside count first
        (is_open ∙ same ∙ sym was_open) (is_next ∙ next ∙ sym was_next) linked

  -- ---- a put

  module _ (blocks : Blocks T) (occupancies : List Occupancy) (slots new : List (Option T)) (o o' : Occupancy) (free part slot : ℕ) (tuple : T)
      (is : IsStore blocks occupancies free (Some part)) (s : Step blocks occupancies slots new o o' part slot (Some tuple)) (fresh : get_or slots slot None ≡ None) (some : 0 < free) where
    put_fills : vacancies new + 1 ≡ vacancies slots
    put_fills = ap (λ (xs : List (Option T)). vacancies xs + 1) s.writes.is ∙ vacancies-fill slots slot tuple s.writes.in_slots fresh

    put_adds : len (tuples_of (set blocks part new)) ≡ len (tuples_of blocks) + 1
    put_adds =
        ap len (tuples-written blocks slots new part slot tuple s.writes)
        ∙ len-insert_fresh (tuples_of blocks) (ref_to part slot) tuple (found_before blocks slots new part slot (Some tuple) s.writes ∙ fresh)

    pub IsStore-put_full : vacancies new ≡ 0 → IsStore (set blocks part new) (set occupancies part o') (free - 1) o.next_open
    IsStore-put_full full =
        let first = first_of (open_at blocks) (next_at occupancies) is.open_count part is.linked in
        let rest = subst (λ (next : Option ℕ). IsOpenList (open_at blocks) (next_at occupancies) first.0 next) (was_next blocks occupancies slots new o o' free part slot (Some tuple) is.mapped.as_many s) first.3 in
        let kept = keep_rest (open_at blocks) (open_at (set blocks part new)) (next_at occupancies) (next_at (set occupancies part o')) part
        (beside blocks occupancies slots new o o' free part slot (Some tuple) is.mapped.as_many s) is.open_count first.0 o.next_open (omega (arith, first.1)) is.linked rest in
        let opened : one_if_open slots ≡ 1 = ap (λ (b : Bool). cond b 1 0) (has_vacancy_yes slots (omega (arith, put_fills))) in
        let closed : one_if_open new ≡ 0 = ap (λ (b : Bool). cond b 1 0) (has_vacancy_no new full) in
        IsStore-set blocks occupancies (set occupancies part o') slots new free (free - 1) part (Some part) o.next_open first.0 is s.writes.within s.writes.read
        (kept_bitmaps blocks occupancies slots new o o' free part slot (Some tuple) is.mapped.as_many s is.mapped) (same_long blocks occupancies slots new o o' free part slot (Some tuple) is.mapped.as_many s)
        (omega (arith, put_fills, some)) (omega (arith, put_adds, some)) (omega (arith, first.1, opened, closed)) kept

    pub IsStore-put_open : vacancies new ≢ 0 → o'.next_open ≡ o.next_open → IsStore (set blocks part new) (set occupancies part o') (free - 1) (Some part)
    IsStore-put_open still next =
        let same : has_vacancy new ≡ has_vacancy slots = has_vacancy_yes new (omega arith) ∙ sym (has_vacancy_yes slots (omega (arith, put_fills))) in
        IsStore-set blocks occupancies (set occupancies part o') slots new free (free - 1) part (Some part) (Some part) is.open_count is s.writes.within s.writes.read
        (kept_bitmaps blocks occupancies slots new o o' free part slot (Some tuple) is.mapped.as_many s is.mapped) (same_long blocks occupancies slots new o o' free part slot (Some tuple) is.mapped.as_many s)
        (omega (arith, put_fills, some)) (omega (arith, put_adds, some)) (ap (λ (b : Bool). is.open_count + cond b 1 0) (sym same))
        (same_list blocks occupancies slots new o o' free part slot (Some tuple) is.mapped.as_many s is.open_count (Some part) same next is.linked)

  -- ---- a take

  module _ (blocks : Blocks T) (occupancies : List Occupancy) (slots new : List (Option T)) (o o' : Occupancy) (free part slot : ℕ) (first : Option ℕ) (tuple : T)
      (is : IsStore blocks occupancies free first) (s : Step blocks occupancies slots new o o' part slot None) (held : get_or slots slot None ≡ Some tuple) where
    take_frees : vacancies new ≡ vacancies slots + 1
    take_frees = ap vacancies s.writes.is ∙ vacancies-free slots slot tuple s.writes.in_slots held

    take_takes : len (tuples_of (set blocks part new)) + 1 ≡ len (tuples_of blocks)
    take_takes =
        let found = found_before blocks slots new part slot None s.writes ∙ held in
        ap (λ (n : ℕ). n + 1) (ap len (tuples-freed blocks slots new part slot s.writes)) ∙ len-remove_held (tuples_of blocks) (ref_to part slot) (ap is_some found)

    pub IsStore-take_full : vacancies slots ≡ 0 → o'.next_open ≡ first → IsStore (set blocks part new) (set occupancies part o') (free + 1) (Some part)
    IsStore-take_full full next =
        let shut = has_vacancy_no slots full in
        let opened = has_vacancy_yes new (omega (arith, take_frees)) in
        let was_closed : one_if_open slots ≡ 0 = ap (λ (b : Bool). cond b 1 0) shut in
        let is_opened : one_if_open new ≡ 1 = ap (λ (b : Bool). cond b 1 0) opened in
        let front = put_first (open_at blocks) (open_at (set blocks part new)) (next_at occupancies) (next_at (set occupancies part o')) part
        (beside blocks occupancies slots new o o' free part slot None is.mapped.as_many s) is.open_count first
        (was_open blocks occupancies slots new o o' free part slot None is.mapped.as_many s ∙ shut)
        (is_open blocks occupancies slots new o o' free part slot None is.mapped.as_many s ∙ opened)
        (is_next blocks occupancies slots new o o' free part slot None is.mapped.as_many s ∙ next) is.linked in
        IsStore-set blocks occupancies (set occupancies part o') slots new free (free + 1) part first (Some part) (suc is.open_count) is s.writes.within s.writes.read
        (kept_bitmaps blocks occupancies slots new o o' free part slot None is.mapped.as_many s is.mapped) (same_long blocks occupancies slots new o o' free part slot None is.mapped.as_many s)
        (omega (arith, take_frees)) (omega (arith, take_takes)) (omega (arith, was_closed, is_opened)) front

    pub IsStore-take_open : vacancies slots ≢ 0 → o'.next_open ≡ o.next_open → IsStore (set blocks part new) (set occupancies part o') (free + 1) first
    IsStore-take_open was next =
        let same : has_vacancy new ≡ has_vacancy slots = has_vacancy_yes new (omega (arith, take_frees)) ∙ sym (has_vacancy_yes slots (omega arith)) in
        IsStore-set blocks occupancies (set occupancies part o') slots new free (free + 1) part first first is.open_count is s.writes.within s.writes.read
        (kept_bitmaps blocks occupancies slots new o o' free part slot None is.mapped.as_many s is.mapped) (same_long blocks occupancies slots new o o' free part slot None is.mapped.as_many s)
        (omega (arith, take_frees)) (omega (arith, take_takes)) (ap (λ (b : Bool). is.open_count + cond b 1 0) (sym same))
        (same_list blocks occupancies slots new o o' free part slot None is.mapped.as_many s is.open_count first same next is.linked)

  -- ---- a write through `get_mut`

  pub IsStore-write : (blocks : Blocks T) (occupancies : List Occupancy) (slots new : List (Option T)) (free part slot : ℕ) (first : Option ℕ) (old tuple : T)
      → IsStore blocks occupancies free first → Writes blocks slots new part slot (Some tuple) → get_or slots slot None ≡ Some old
      → IsPartition (words_at occupancies part) new → IsStore (set blocks part new) occupancies free first
  IsStore-write blocks occupancies slots new free part slot first old tuple is w held bits =
      let long : length new ≡ length slots = ap length w.is ∙ length-set slots slot (Some tuple) in
      let kept : vacancies new ≡ vacancies slots = ap vacancies w.is ∙ vacancies-rewrite slots slot old tuple w.in_slots held in
      let found = found_before blocks slots new part slot (Some tuple) w ∙ held in
      let as_many = ap len (tuples-written blocks slots new part slot tuple w) ∙ len-insert_held (tuples_of blocks) (ref_to part slot) tuple (ap is_some found) in
      let same : has_vacancy new ≡ has_vacancy slots = ap (nat_lt 0) kept in
      let beside : SameBeside (open_at blocks) (open_at (set blocks part new)) (next_at occupancies) (next_at occupancies) part = record {
        opens = λ other differs. ap has_vacancy (get_or-set_other blocks part other new [] differs);
        nexts = λ other differs. refl;
      } in
      IsStore-set blocks occupancies occupancies slots new free free part first first is.open_count is w.within w.read
      (HaveBitmaps-write blocks occupancies new part is.mapped w.within (place_of _ new bits) (long ∙ ap length (sym (read_block blocks slots part w.within w.read)))) long
      (omega (arith, kept)) (omega (arith, as_many)) (ap (λ (b : Bool). is.open_count + cond b 1 0) (sym same))
      (keep_all (open_at blocks) (open_at (set blocks part new)) (next_at occupancies) (next_at occupancies) part beside is.open_count first
      (ap has_vacancy (get_or-set_same blocks part new [] w.within) ∙ same ∙ sym (ap has_vacancy (read_block blocks slots part w.within w.read))) refl is.linked)

  -- ---- a new partition, and no partition

  -- past the blocks no partition is open
  closed_past : (blocks : Blocks T) (part : ℕ) → part ≡ length blocks → open_at blocks part ≡ false
  closed_past [] part e = refl
  closed_past (slots ∷ rest) zero e = absurd (omega (arith, e))
  closed_past (slots ∷ rest) (suc part) e = closed_past rest part (omega (arith, e))

  pub IsStore-push : (blocks : Blocks T) (occupancies : List Occupancy) (new : List (Option T)) (o : Occupancy) (free : ℕ) (first : Option ℕ) (part : ℕ)
      → IsStore blocks occupancies free first → IsVacant new → IsPartition o.held.words new → o.has_block ≡ true → o.next_open ≡ first → part ≡ length blocks
      → length blocks + 1 < 2 ^ 24 → IsStore (blocks ++ new ∷ []) (occupancies ++ o ∷ []) (free + 256) (Some part)
  IsStore-push blocks occupancies new o free first part is vacant bits block next e room =
      let blocks' = blocks ++ new ∷ [] in let occupancies' = occupancies ++ o ∷ [] in
      let e' : part ≡ length occupancies = omega (arith, e, is.mapped.as_many) in
      let all : vacancies new ≡ 256 = all_vacant new vacant.empty ∙ vacant.count in
      let opened = has_vacancy_yes new (omega (arith, all)) in
      let is_opened : one_if_open new ≡ 1 = ap (λ (b : Bool). cond b 1 0) opened in
      let same = ap len (tuples-push blocks new (small_blocks blocks occupancies is.mapped) (omega (arith, vacant.count)) vacant.empty) in
      let here : get_or blocks' part [] ≡ new = get_or_push blocks new [] part (sym e) in
      let beside : SameBeside (open_at blocks) (open_at blocks') (next_at occupancies) (next_at occupancies') part = record {
        opens = λ other differs. ap has_vacancy (get_or-push_other blocks other new [] (λ at. differs (omega (arith, at, e))));
        nexts = λ other differs. mapped-push_other next_of occupancies other o None (λ at. differs (omega (arith, at, e')));
      } in
      record {
        mapped = HaveBitmaps-push blocks occupancies new o is.mapped (place_of o.held.words new bits) (block ∙ sym (lt-ltb 0 (length new) (omega (arith, vacant.count))));
        counted = omega (arith, is.counted, sum_by-append vacancies blocks (new ∷ []), sum_by-cons vacancies new [], all);
        total = omega (arith, is.total, same, sum_by-append length blocks (new ∷ []), sum_by-cons length new [], vacant.count);
        open_count = suc is.open_count;
        all_open = omega (arith, is.all_open, sum_by-append one_if_open blocks (new ∷ []), sum_by-cons one_if_open new [], is_opened);
        linked = put_first (open_at blocks) (open_at blocks') (next_at occupancies) (next_at occupancies') part beside is.open_count first
            (closed_past blocks part e) (ap has_vacancy here ∙ opened) (mapped-push_same next_of occupancies part o None e' ∙ next) is.linked;
        numbered = omega (arith, length_push blocks new, room);
      }

  -- a partition with no block gets one
  module _ (blocks : Blocks T) (occupancies : List Occupancy) (new : List (Option T)) (o : Occupancy) (free : ℕ) (first : Option ℕ) (part : ℕ) (is : IsStore blocks occupancies free first) (within : part < length blocks)
      (read : o ≡ get_or occupancies part o) (bare : o.has_block ≡ false) (vacant : IsVacant new) where
    pub no_slots : length (slots_at blocks part) ≡ 0
    no_slots = elim (cases_eq (length (slots_at blocks part)) 0) [
      | inl none ↦ none
      | inr some ↦
          let told = told_at blocks occupancies (slots_at blocks part) o part is.mapped within (sym (get_or_default blocks part (slots_at blocks part) [] within)) read in
          absurd (true≢false (sym (lt-ltb 0 (length (slots_at blocks part)) (omega (arith, some))) ∙ sym told ∙ bare))
    ]

    was_vacant : (slot : ℕ) → get_or (slots_at blocks part) slot None ≡ None
    was_vacant slot = get_or_past (slots_at blocks part) slot None (omega (arith, no_slots))

    pub refilled_tuples : tuples_of (set blocks part new) ≡ tuples_of blocks
    refilled_tuples = tuples-vacant blocks part new within (small_blocks blocks occupancies is.mapped) (omega (arith, vacant.count)) vacant.empty was_vacant

    pub refilled_lengths : sum_by length (set blocks part new) ≡ sum_by length blocks + 256
    refilled_lengths = omega (arith, sum_by-set length blocks part new [] within, no_slots, vacant.count)

    clear : (slot : ℕ) → slot < 256 → is_set o.held.words slot ≡ false
    clear slot in_range = (bits_of blocks occupancies o part is.mapped within read).bits slot in_range ∙ ap is_some (was_vacant slot)

    pub IsStore-refill : (o' : Occupancy) → o'.held.words ≡ o.held.words → o'.has_block ≡ true → o'.next_open ≡ first → IsStore (set blocks part new) (set occupancies part o') (free + 256) (Some part)
    IsStore-refill o' words block next =
        let all : vacancies new ≡ 256 = all_vacant new vacant.empty ∙ vacant.count in
        let was_free : vacancies (slots_at blocks part) ≡ 0 = no_vacancy_of_none (slots_at blocks part) no_slots in
        let opened = has_vacancy_yes new (omega (arith, all)) in
        let shut = has_vacancy_no (slots_at blocks part) was_free in
        let is_opened : one_if_open new ≡ 1 = ap (λ (b : Bool). cond b 1 0) opened in
        let was_shut : one_if_open (slots_at blocks part) ≡ 0 = ap (λ (b : Bool). cond b 1 0) shut in
        let has_map : part < length occupancies = omega (arith, within, is.mapped.as_many) in
        let beside : SameBeside (open_at blocks) (open_at (set blocks part new)) (next_at occupancies) (next_at (set occupancies part o')) part = record {
          opens = λ other differs. ap has_vacancy (get_or-set_other blocks part other new [] differs);
          nexts = λ other differs. mapped-set_other next_of occupancies part other o' None differs;
        } in
        record {
          mapped = HaveBitmaps-set blocks occupancies new o' part is.mapped within
              (place_of o'.held.words new (IsPartition-vacant o'.held.words new (λ slot in_range. ap (λ w. is_set w slot) words ∙ clear slot in_range) vacant)) (block ∙ sym (lt-ltb 0 (length new) (omega (arith, vacant.count))));
          counted = omega (arith, is.counted, sum_by-set vacancies blocks part new [] within, was_free, all);
          total = omega (arith, is.total, ap len refilled_tuples, refilled_lengths);
          open_count = suc is.open_count;
          all_open = omega (arith, is.all_open, sum_by-set one_if_open blocks part new [] within, was_shut, is_opened);
          linked = put_first (open_at blocks) (open_at (set blocks part new)) (next_at occupancies) (next_at (set occupancies part o')) part beside is.open_count first
              shut (ap has_vacancy (get_or-set_same blocks part new [] within) ∙ opened) (mapped-set_same next_of occupancies part o' None has_map ∙ next) is.linked;
          numbered = omega (arith, is.numbered, length-set blocks part new);
        }

  pub IsStore-empty : IsStore {T = T} [] [] 0 None
  unfolding tuples_from
  IsStore-empty = record {
    mapped = record { as_many = refl; bits = λ part within. absurd (omega (arith, within)); told = λ part within. absurd (omega (arith, within)) };
    counted = refl;
    total = omega (arith, len-empty ref_cmp T);
    open_count = 0;
    all_open = refl;
    linked = tt;
    numbered = omega arith;
  }
