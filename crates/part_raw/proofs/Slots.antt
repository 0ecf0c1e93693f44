-- The slots of a partition: how many are free, and that the bitmap tells which hold a tuple.
use Rattle.std.proofs.lemmas.Option.{none-some}
use Rattle.std.proofs.Common.{◌≡◌, ℕ, zero, suc, ◌+◌, ◌<◌, ◌≤◌, Bool, true, false, cond, List, [], ◌∷◌, length, get_or, set, Option, Some, None, is_some, IsSome, refl, sym, ap, ◌∙◌, inl, inr, arith}
use Rattle.std.proofs.lemmas.Bool.{cases_eq, cases_lt, true≢false}
use Rattle.std.proofs.lemmas.List.{get_or-set_same, get_or-set_other, get_or_past, length-set}
use Rattle.std.proofs.lemmas.List.Sums.{sum_by-cons, sum_by-set}
use Rattle.std.specs.Option.{is_none}
use Rattle.common_lemmas.proofs.Options.{none_from_is_some, is_some-Some}
use Rattle.part_raw.specs.Layout.{is_set, ChangesBit, IsPartition, IsPlace, IsVacant, vacancies}

module _ {T : Type 0} where
  abbrev one_if_free : Option T → ℕ
  one_if_free o = cond (is_none o) 1 0

  -- a slot that holds a tuple is one of the slots
  pub held_within : (slots : List (Option T)) (slot : ℕ) → IsSome (get_or slots slot None) → slot < length slots
  held_within [] slot held = absurd (true≢false (sym held))
  held_within (o ∷ rest) zero held = omega arith
  held_within (o ∷ rest) (suc slot) held = omega (arith, held_within rest slot held)

  -- where each slot holds a tuple none is free
  pub no_vacancy : (slots : List (Option T)) → ((slot : ℕ) → slot < length slots → is_some (get_or slots slot None) ≡ true) → vacancies slots ≡ 0
  no_vacancy [] held = refl
  no_vacancy (None ∷ rest) held = absurd (true≢false (sym (held 0 (omega arith))))
  no_vacancy (Some tuple ∷ rest) held = omega (arith, sum_by-cons one_if_free (Some tuple) rest, no_vacancy rest (λ slot within. held (suc slot) (omega arith)))

  -- where none is free each slot holds a tuple
  pub full_slot : (slots : List (Option T)) (slot : ℕ) → vacancies slots ≡ 0 → slot < length slots → is_some (get_or slots slot None) ≡ true
  full_slot [] slot none within = absurd (omega arith)
  full_slot (None ∷ rest) slot none within = absurd (omega (arith, sum_by-cons one_if_free None rest, none))
  full_slot (Some tuple ∷ rest) zero none within = refl
  full_slot (Some tuple ∷ rest) (suc slot) none within = full_slot rest slot (omega (arith, sum_by-cons one_if_free (Some tuple) rest, none)) (omega arith)

  -- where no slot holds a tuple all are free
  pub all_vacant : (slots : List (Option T)) → ((slot : ℕ) → get_or slots slot None ≡ None) → vacancies slots ≡ length slots
  all_vacant [] empty = refl
  all_vacant (None ∷ rest) empty = omega (arith, sum_by-cons one_if_free None rest, all_vacant rest (λ slot. empty (suc slot)))
  all_vacant (Some tuple ∷ rest) empty = absurd (none-some tuple (sym (empty 0)))

  -- no more are free than there are
  pub vacancies_most : (slots : List (Option T)) → vacancies slots ≤ length slots
  vacancies_most [] = omega arith
  vacancies_most (None ∷ rest) = omega (arith, sum_by-cons one_if_free None rest, vacancies_most rest)
  vacancies_most (Some tuple ∷ rest) = omega (arith, sum_by-cons one_if_free (Some tuple) rest, vacancies_most rest)

  -- a slot that was free is filled
  pub vacancies-fill : (slots : List (Option T)) (slot : ℕ) (tuple : T) → slot < length slots → get_or slots slot None ≡ None → vacancies (set slots slot (Some tuple)) + 1 ≡ vacancies slots
  vacancies-fill slots slot tuple within free =
      let counted = sum_by-set one_if_free slots slot (Some tuple) None within in
      let one : one_if_free (get_or slots slot None) ≡ 1 = ap one_if_free free in
      omega (arith, counted, one)

  -- a slot that held a tuple is freed
  pub vacancies-free : (slots : List (Option T)) (slot : ℕ) (tuple : T) → slot < length slots → get_or slots slot None ≡ Some tuple → vacancies (set slots slot None) ≡ vacancies slots + 1
  vacancies-free slots slot tuple within held =
      let counted = sum_by-set one_if_free slots slot None None within in
      let none : one_if_free (get_or slots slot None) ≡ 0 = ap one_if_free held in
      omega (arith, counted, none)

  -- fewer are free where one holds a tuple
  pub vacancies_fewer : (slots : List (Option T)) (slot : ℕ) → IsSome (get_or slots slot None) → vacancies slots < length slots
  vacancies_fewer slots slot held =
      let t = is_some-Some (get_or slots slot None) held in
      omega (arith, vacancies-free slots slot t.0 (held_within slots slot held) t.1, vacancies_most (set slots slot None), length-set slots slot None)

  -- a slot that held a tuple holds another
  pub vacancies-rewrite : (slots : List (Option T)) (slot : ℕ) (old tuple : T) → slot < length slots → get_or slots slot None ≡ Some old → vacancies (set slots slot (Some tuple)) ≡ vacancies slots
  vacancies-rewrite slots slot old tuple within held =
      let counted = sum_by-set one_if_free slots slot (Some tuple) None within in
      let none : one_if_free (get_or slots slot None) ≡ 0 = ap one_if_free held in
      omega (arith, counted, none)

  -- the slot's bit follows what it holds
  pub IsPartition-set : (words words' : List ℕ) (slots : List (Option T)) (slot : ℕ) (o : Option T) → slot < 256 → IsPartition words slots → ChangesBit words words' slot (is_some o) → IsPartition words' (set slots slot o)
  IsPartition-set words words' slots slot o within is changes =
      let in_slots : slot < length slots = omega (arith, is.count) in
      record {
        count = length-set slots slot o ∙ is.count;
        bits = λ other in_range.
            elim (cases_eq other slot) [
              | inl same ↦
                  ap (is_set words') same ∙ changes.changed
                  ∙ sym (ap is_some (ap (λ k. get_or (set slots slot o) k None) same ∙ get_or-set_same slots slot o None in_slots))
              | inr differs ↦
                  changes.others other in_range differs ∙ is.bits other in_range
                  ∙ sym (ap is_some (get_or-set_other slots slot other o None differs))
            ];
      }

  -- no more slots than a partition has
  pub place_small : (words : List ℕ) (slots : List (Option T)) → IsPlace words slots → length slots ≤ 256
  place_small words slots is = elim (cases_eq (length slots) 0) [
    | inl none ↦ omega (arith, none)
    | inr some ↦ omega (arith, is.count (omega (arith, some)))
  ]

  -- whether a slot holds a tuple is told by its bit; past the slots none does
  pub held_by_bit : (words : List ℕ) (slots : List (Option T)) (slot : ℕ) (bit : Bool) → IsPlace words slots
      → (slot < 256 → bit ≡ is_set words slot) → (256 ≤ slot → bit ≡ false) → bit ≡ is_some (get_or slots slot None)
  held_by_bit words slots slot bit is within past =
      elim (cases_lt slot 256) [
        | inl in_range ↦ within in_range ∙ is.bits slot in_range
        | inr beyond ↦ past beyond ∙ sym (ap is_some (get_or_past slots slot None (omega (arith, beyond, place_small words slots is))))
      ]

  -- a tuple that is written over leaves each bit right
  pub IsPartition-rewrite : (words : List ℕ) (slots : List (Option T)) (slot : ℕ) (tuple : T) → IsSome (get_or slots slot None) → IsPartition words slots → IsPartition words (set slots slot (Some tuple))
  IsPartition-rewrite words slots slot tuple held is =
      let in_range : slot < 256 = omega (arith, held_within slots slot held, is.count) in
      IsPartition-set words words slots slot (Some tuple) in_range is (record { changed = is.bits slot in_range ∙ held; others = λ other below differs. refl })

  -- in a partition whose bits are all set none is free
  pub no_vacancy_of_bits : (words : List ℕ) (slots : List (Option T)) → IsPartition words slots → ((slot : ℕ) → slot < 256 → is_set words slot ≡ true) → vacancies slots ≡ 0
  no_vacancy_of_bits words slots is all_set =
      no_vacancy slots (λ slot within. let in_range : slot < 256 = omega (arith, is.count) in sym (is.bits slot in_range) ∙ all_set slot in_range)

  -- in a partition in which none is free each bit is set
  pub bits_of_no_vacancy : (words : List ℕ) (slots : List (Option T)) → IsPartition words slots → vacancies slots ≡ 0 → (slot : ℕ) → slot < 256 → is_set words slot ≡ true
  bits_of_no_vacancy words slots is none slot in_range = is.bits slot in_range ∙ full_slot slots slot none (omega (arith, is.count))

  -- a slot whose bit is not set is free
  pub free_of_bit : (words : List ℕ) (slots : List (Option T)) (slot : ℕ) → IsPartition words slots → slot < 256 → is_set words slot ≡ false → get_or slots slot None ≡ None
  free_of_bit words slots slot is in_range clear = none_from_is_some _ (sym (is.bits slot in_range) ∙ clear)

  -- in a partition with no bit set each slot is free
  pub vacant_of_bits : (words : List ℕ) (slots : List (Option T)) → IsPartition words slots → ((slot : ℕ) → slot < 256 → is_set words slot ≡ false) → IsVacant slots
  vacant_of_bits words slots is clear = record {
    count = is.count;
    empty = λ slot. elim (cases_lt slot 256) [
      | inl within ↦ free_of_bit words slots slot is within (clear slot within)
      | inr past ↦ get_or_past slots slot None (omega (arith, past, is.count))
    ];
  }

  -- free slots and a clear bitmap make a partition
  pub IsPartition-vacant : (words : List ℕ) (slots : List (Option T)) → ((slot : ℕ) → slot < 256 → is_set words slot ≡ false) → IsVacant slots → IsPartition words slots
  IsPartition-vacant words slots clear is =
      record { count = is.count; bits = λ slot in_range. clear slot in_range ∙ sym (ap is_some (is.empty slot)) }

  -- ---- a partition that may have no slot

  pub place_of : (words : List ℕ) (slots : List (Option T)) → IsPartition words slots → IsPlace words slots
  place_of words slots is = record { count = λ some. is.count; bits = is.bits }

  pub partition_of : (words : List ℕ) (slots : List (Option T)) → IsPlace words slots → 0 < length slots → IsPartition words slots
  partition_of words slots is some = record { count = is.count some; bits = is.bits }

  -- where there is no slot none is free
  pub no_vacancy_of_none : (slots : List (Option T)) → length slots ≡ 0 → vacancies slots ≡ 0
  no_vacancy_of_none [] none = refl
  no_vacancy_of_none (o ∷ rest) none = absurd (omega (arith, none))

  -- what has a free slot has slots
  pub some_of_vacancy : (slots : List (Option T)) → 0 < vacancies slots → 0 < length slots
  some_of_vacancy [] some = absurd (omega (arith, some))
  some_of_vacancy (o ∷ rest) some = omega arith
