-- The counts of a store: what number a reference has as counts change, come and go, and the map of these numbers.
use Rattle.std.proofs.Common.{◌≡◌, ◌≢◌, ℕ, zero, suc, ◌<◌, Bool, true, false, if◌then◌else◌, List, [], ◌∷◌, ◌++◌, map, take, length, get_or, set, Option, Some, None, IsSome, is_some, refl, sym, ap, ◌∙◌, inl, inr, arith}
use Rattle.std.proofs.Math.ListN.{replicate}
use Rattle.std.proofs.lemmas.List.{get_or-set_same, get_or-set_other, get_or-take, get_or_append_left, append-nil}
use Rattle.std.specs.Option.{option_map, unwrap_or}
use Rattle.std.specs.Prelude.{option_to_list}
use Rattle.std.specs.FinMap.{get, insert}
use Rattle.part_raw.specs.declared.tuple_ref.TupleRef.{TupleRef}
use Rattle.part_raw.specs.Counted.{counts_of, number_of, zeros}
use Rattle.part_raw.specs.Open.{AreBeside}
use Rattle.part_raw.specs.Store.{Tuples}
use Rattle.part_raw.specs.TupleRefs.{part_of, slot_of}
use Rattle.part_raw.proofs.Lookup.{same_or_other}
use Rattle.part_raw.proofs.Mapped.{get-mapped, mapped-insert, mapped-alike}
use Rattle.part_raw.proofs.Refs.{ref_to-names}
use Rattle.part_raw.proofs.Tuples.{get-insert_same, get-insert_other, held_tuple, same_tuples, insert-twice, insert-itself}

-- ---- the number of a reference

-- where no counts are kept there are none
pub uncounted_none : {T : Type 0} (b : Bool) (blocks : List (List (Option T))) (counts : List (List ℕ)) → b ≡ false → AreBeside b blocks counts → counts ≡ []
uncounted_none b blocks [] is e = refl
uncounted_none b blocks (x ∷ counts) is e = let none : length (x ∷ counts) ≡ 0 = e ∙ ap (λ (c : Bool). if c then length blocks else 0) is in absurd (omega (arith, none))

-- a number as it is read
abbrev pub read_at : List (List ℕ) → ℕ → ℕ → ℕ
read_at counts part slot = get_or (get_or counts part []) slot 0

pub number_read : (counts : List (List ℕ)) (r : TupleRef) (part slot : ℕ) → part ≡ part_of r → slot ≡ slot_of r → read_at counts part slot ≡ number_of counts r
number_read counts r part slot names names_slot = ap (λ k. read_at counts k slot) names ∙ ap (read_at counts (part_of r)) names_slot

zero_at : (n slot : ℕ) → ◌≡◌ {A = ℕ} (get_or (replicate n 0) slot 0) 0
zero_at zero slot = refl
zero_at (suc n) zero = refl
zero_at (suc n) (suc slot) = zero_at n slot

pub number-zeros : (flags : List Bool) (r : TupleRef) → number_of (map zeros flags) r ≡ 0
number-zeros flags r = here flags (part_of r)
  where
    here : (flags : List Bool) (part : ℕ) → read_at (map zeros flags) part (slot_of r) ≡ 0
    here [] part = refl
    here (true ∷ flags) zero = zero_at 256 (slot_of r)
    here (false ∷ flags) zero = refl
    here (flag ∷ flags) (suc part) = here flags part

module _ (counts : List (List ℕ)) (r : TupleRef) where
  -- the counts of another partition are others
  pub number-set_other : (part : ℕ) (its : List ℕ) → part_of r ≢ part → number_of (set counts part its) r ≡ number_of counts r
  number-set_other part its differs = ap (λ l. get_or l (slot_of r) 0) (get_or-set_other counts part (part_of r) its [] differs)

  -- the first counts
  pub number-take : (n : ℕ) → part_of r < n → number_of (take n counts) r ≡ number_of counts r
  number-take n within = ap (λ l. get_or l (slot_of r) 0) (get_or-take n counts (part_of r) [] within)

  -- those of a partition more
  pub number-push : (b : Bool) {T : Type 0} (blocks : List (List (Option T))) (next : Option (List ℕ)) → AreBeside b blocks counts → is_some next ≡ b → part_of r < length blocks → number_of (counts ++ option_to_list next) r ≡ number_of counts r
  number-push true blocks next beside made within = ap (λ l. get_or l (slot_of r) 0) (get_or_append_left counts (option_to_list next) [] (part_of r) (omega (arith, beside, within)))
  number-push false blocks None beside made within = ap (λ c. number_of c r) (append-nil counts)
  number-push false blocks (Some its) beside made within = absurd (cc)

-- one number changes
abbrev pub with_number : List (List ℕ) → ℕ → ℕ → ℕ → List (List ℕ)
with_number counts part slot n = set counts part (set (get_or counts part []) slot n)

module _ (counts : List (List ℕ)) (r : TupleRef) (part slot n : ℕ) (names : part ≡ part_of r) (names_slot : slot ≡ slot_of r) where
  pub number-changed : part < length counts → slot < length (get_or counts part []) → number_of (with_number counts part slot n) r ≡ n
  number-changed within among =
      sym (number_read (with_number counts part slot n) r part slot names names_slot)
      ∙ ap (λ l. get_or l slot 0) (get_or-set_same counts part (set (get_or counts part []) slot n) [] within) ∙ get_or-set_same (get_or counts part []) slot n 0 among

  -- a 0 is there even where no number is kept
  pub number-cleared : n ≡ 0 → number_of (with_number counts part slot n) r ≡ 0
  number-cleared none = sym (number_read (with_number counts part slot n) r part slot names names_slot) ∙ ap (λ m. read_at (with_number counts part slot m) part slot) none ∙ here counts part
    where
      there : (its : List ℕ) (slot : ℕ) → get_or (set its slot 0) slot 0 ≡ 0
      there [] slot = refl
      there (m ∷ its) zero = refl
      there (m ∷ its) (suc slot) = there its slot

      here : (counts : List (List ℕ)) (part : ℕ) → read_at (with_number counts part slot 0) part slot ≡ 0
      here [] part = refl
      here (its ∷ counts) zero = there its slot
      here (its ∷ counts) (suc part) = here counts part

  pub number-other : (q : TupleRef) → q ≢ r → number_of (with_number counts part slot n) q ≡ number_of counts q
  number-other q differs =
      here counts part (part_of q) (λ same e. differs (sym (ref_to-names q (part_of q) (slot_of q) refl refl) ∙ ref_to-names r (part_of q) (slot_of q) (same ∙ names) (e ∙ names_slot)))
    where
      here : (counts : List (List ℕ)) (part k : ℕ) → (k ≡ part → slot_of q ≢ slot) → read_at (with_number counts part slot n) k (slot_of q) ≡ read_at counts k (slot_of q)
      here [] part k apart = refl
      here (its ∷ counts) zero zero apart = get_or-set_other its slot (slot_of q) n 0 (apart refl)
      here (its ∷ counts) zero (suc k) apart = refl
      here (its ∷ counts) (suc part) zero apart = refl
      here (its ∷ counts) (suc part) (suc k) apart = here counts part k (λ same. apart (ap suc same))

-- ---- the numbers of all references

module _ {T : Type 0} (tuples : Tuples (List T)) (counts : List (List ℕ)) where
  -- that of one that is held is found there
  pub count_seen : (r : TupleRef) → IsSome (get tuples r) → unwrap_or (get (counts_of counts tuples) r) 0 ≡ number_of counts r
  count_seen r held =
      let found = held_tuple tuples r held in
      ap (λ (o : Option ℕ). unwrap_or o 0) (get-mapped (λ q cells. number_of counts q) tuples r ∙ ap (option_map (λ (cells : List T). number_of counts r)) found.1)

  pub counts-alike : (counts' : List (List ℕ)) → ((r : TupleRef) → IsSome (get tuples r) → number_of counts' r ≡ number_of counts r) → counts_of counts' tuples ≡ counts_of counts tuples
  counts-alike counts' alike = mapped-alike _ _ tuples (λ r cells found. alike r (ap is_some found))

  -- a tuple that is held has other cells
  pub counts-exchanged : (r : TupleRef) (cells was : List T) → get tuples r ≡ Some was → counts_of counts (insert tuples r cells) ≡ counts_of counts tuples
  counts-exchanged r cells was found =
      mapped-insert (λ q cells. number_of counts q) tuples r cells
      ∙ insert-itself (counts_of counts tuples) r (number_of counts r) (get-mapped (λ q cells. number_of counts q) tuples r ∙ ap (option_map (λ (cells : List T). number_of counts r)) found)

  module _ (counts' : List (List ℕ)) (r : TupleRef) (n : ℕ) (here : number_of counts' r ≡ n) (others : (q : TupleRef) → q ≢ r → number_of counts' q ≡ number_of counts q) where
    -- one that is held has another number
    pub counts-set : (was : List T) → get tuples r ≡ Some was → counts_of counts' tuples ≡ insert (counts_of counts tuples) r n
    counts-set was found = same_tuples _ _ (λ q. elim (same_or_other q r) [
      | inl same ↦
          ap (get (counts_of counts' tuples)) same ∙ get-mapped (λ q cells. number_of counts' q) tuples r ∙ ap (option_map (λ (cells : List T). number_of counts' r)) found ∙ ap (λ m. Some m) here
          ∙ sym (get-insert_same (counts_of counts tuples) r n) ∙ ap (get (insert (counts_of counts tuples) r n)) (sym same)
      | inr other ↦
          get-mapped (λ q cells. number_of counts' q) tuples q ∙ ap (λ (m : ℕ). option_map (λ (cells : List T). m) (get tuples q)) (others q other)
          ∙ sym (get-mapped (λ q cells. number_of counts q) tuples q) ∙ sym (get-insert_other (counts_of counts tuples) r q n other)
    ])

-- one comes in with a number
pub counts-put : {T : Type 0} (tuples : Tuples (List T)) (counts counts' : List (List ℕ)) (r : TupleRef) (n : ℕ) (cells : List T) → number_of counts' r ≡ n → ((q : TupleRef) → q ≢ r → number_of counts' q ≡ number_of counts q)
    → counts_of counts' (insert tuples r cells) ≡ insert (counts_of counts tuples) r n
counts-put tuples counts counts' r n cells here others =
    counts-set (insert tuples r cells) counts counts' r n here others cells (get-insert_same tuples r cells)
    ∙ ap (λ m. insert m r n) (mapped-insert (λ q cells. number_of counts q) tuples r cells) ∙ insert-twice (counts_of counts tuples) r (number_of counts r) n
