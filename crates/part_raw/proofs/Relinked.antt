-- The list of the open partitions is made anew, from the last partition to the first.
use Rattle.std.proofs.Common.{◌≡◌, ◌≢◌, ℕ, zero, suc, ◌+◌, ◌<◌, ◌≤◌, ◌↔◌, Bool, true, false, cond, List, [], map, length, get_or, take, Option, Some, refl, sym, ap, ◌∙◌, inl, inr, arith, subst, count_by, nat_lt}
use Rattle.std.proofs.lemmas.Bool.{cases_eq, cases_lt, lt-ltb, le-ltb, ltb-true, ltb-false}
use Rattle.std.proofs.Math.Seq.{take-length}
use Rattle.std.proofs.lemmas.List.Sums.{count_by_more_yes, count_by_more_no}
use Rattle.part_raw.specs.declared.store.Occupancy.{Occupancy}
use Rattle.part_raw.specs.Layout.{is_set, vacancies}
use Rattle.part_raw.specs.Open.{IsOpenList, HaveBitmaps, Tells, has_block_at, below, has_vacancy, open_at, slots_at, words_at}
use Rattle.part_raw.proofs.Bitmaps.{mapped-read}
use Rattle.part_raw.proofs.Chain.{put_first}
use Rattle.part_raw.proofs.Slots.{no_vacancy_of_bits, no_vacancy_of_none, bits_of_no_vacancy, partition_of}
use Rattle.part_raw.proofs.Parts.{Blocks}

-- the partitions from this one on that are open
abbrev pub from : ℕ → (ℕ → Bool) → ℕ → Bool
from i is_open k = cond (nat_lt k i) false (is_open k)

module _ (is_open : ℕ → Bool) where
  below_it : (i k : ℕ) → k < i → from i is_open k ≡ false
  below_it i k less = ap (λ (b : Bool). cond b false (is_open k)) (lt-ltb k i less)

  from_it : (i k : ℕ) → i ≤ k → from i is_open k ≡ is_open k
  from_it i k more = ap (λ (b : Bool). cond b false (is_open k)) (le-ltb k i more)

  beside_it : (i k : ℕ) → k ≢ i → from i is_open k ≡ from (suc i) is_open k
  beside_it i k differs = elim (cases_lt k i) [
    | inl less ↦ below_it i k less ∙ sym (below_it (suc i) k (omega (arith, less)))
    | inr more ↦ from_it i k more ∙ sym (from_it (suc i) k (omega (arith, more, differs)))
  ]

  -- a partition that is not open is passed over
  pub passed : (next : ℕ → Option ℕ) (n part i : ℕ) (first : Option ℕ) → part ≡ suc i → is_open i ≡ false → IsOpenList (from part is_open) next n first → IsOpenList (from i is_open) next n first
  passed next n part i first at closed is =
      let same : (k : ℕ) → from (suc i) is_open k ≡ from i is_open k = λ k. elim (cases_eq k i) [
        | inl here ↦ below_it (suc i) k (omega (arith, here)) ∙ sym (from_it i k (omega (arith, here)) ∙ ap is_open here ∙ closed)
        | inr differs ↦ sym (beside_it i k differs)
      ] in
      subst (λ (f : ℕ → Bool). IsOpenList f next n first) (λ j k. same k j) (subst (λ (m : ℕ). IsOpenList (from m is_open) next n first) at is)

  -- one that is open is put in front
  pub linked : (next next' : ℕ → Option ℕ) (n part i : ℕ) (first : Option ℕ) → part ≡ suc i → is_open i ≡ true → next' i ≡ first → ((k : ℕ) → k ≢ i → next' k ≡ next k)
      → IsOpenList (from part is_open) next n first → IsOpenList (from i is_open) next' (suc n) (Some i)
  linked next next' n part i first at opened names others is =
      put_first (from (suc i) is_open) (from i is_open) next next' i (record { opens = beside_it i; nexts = others }) n first
      (below_it (suc i) i (omega arith)) (from_it i i (omega arith) ∙ opened) names (subst (λ (m : ℕ). IsOpenList (from m is_open) next n first) at is)

  pub below_yes : (part i : ℕ) → part ≡ suc i → is_open i ≡ true → below is_open part ≡ below is_open i + 1
  below_yes part i at opened = ap (below is_open) at ∙ ap (λ (b : Bool). below is_open i + cond b 1 0) opened

  pub below_no : (part i : ℕ) → part ≡ suc i → is_open i ≡ false → below is_open part ≡ below is_open i
  below_no part i at closed = let one : below is_open part ≡ below is_open i + 0 = ap (below is_open) at ∙ ap (λ (b : Bool). below is_open i + cond b 1 0) closed in omega (arith, one)

module _ {T : Type 0} (blocks : Blocks T) where
  below-take : (i : ℕ) → i ≤ length blocks → below (open_at blocks) i ≡ count_by has_vacancy (take i blocks)
  below-take zero within = refl
  below-take (suc i) within = elim (open_at blocks i) as (λ b. open_at blocks i ≡ b → below (open_at blocks) (suc i) ≡ count_by has_vacancy (take (suc i) blocks)) [
    | true ↦ λ e. below_yes (open_at blocks) (suc i) i refl e ∙ ap (λ n. n + 1) (below-take i (omega arith)) ∙ sym (count_by_more_yes has_vacancy blocks i [] (omega arith) e) ∙ ap (λ n. count_by has_vacancy (take n blocks)) {x = i + 1} {y = suc i} (omega arith)
    | false ↦ λ e. below_no (open_at blocks) (suc i) i refl e ∙ below-take i (omega arith) ∙ sym (count_by_more_no has_vacancy blocks i [] (omega arith) e) ∙ ap (λ n. count_by has_vacancy (take n blocks)) {x = i + 1} {y = suc i} (omega arith)
  ] refl

  pub below-all : below (open_at blocks) (length blocks) ≡ count_by has_vacancy blocks
  below-all = below-take (length blocks) (omega arith) ∙ ap (count_by has_vacancy) (take-length blocks)

  -- a partition has a free slot unless each of its bits is set
  pub tells : (occupancies : List Occupancy) → HaveBitmaps blocks occupancies → Tells (open_at blocks) occupancies
  tells occupancies is part within =
      let at : part < length blocks = omega (arith, within, is.as_many) in
      let told = is.told part at in (
        (λ bare. le-ltb 0 (vacancies (slots_at blocks part)) (let none = no_vacancy_of_none (slots_at blocks part) (omega (arith, ltb-false 0 (length (slots_at blocks part)) (sym told ∙ bare))) in omega (arith, none))),
        (λ there.
            let bits = partition_of _ _ (is.bits part at) (ltb-true 0 (length (slots_at blocks part)) (sym told ∙ there)) in (
              (λ shut. bits_of_no_vacancy _ _ bits (omega (arith, ltb-false 0 (vacancies (slots_at blocks part)) shut))),
              (λ full. le-ltb 0 (vacancies (slots_at blocks part)) (let none = no_vacancy_of_bits _ _ bits full in omega (arith, none))),
            )),
      )

-- the words of a bitmap that was read are those of the partition before any link was made anew
pub words_read : (occupancies first : List Occupancy) (i : ℕ) (o : Occupancy) → i < length occupancies → o ≡ get_or occupancies i o
    → map (λ (x : Occupancy). x.held.words) occupancies ≡ map (λ (x : Occupancy). x.held.words) first → words_at first i ≡ o.held.words
words_read occupancies first i o within read same = ap (λ (l : List (List ℕ)). get_or l i []) (sym same) ∙ mapped-read (λ (x : Occupancy). x.held.words) occupancies i o [] within read

-- whether it has a block likewise
pub block_read : (occupancies first : List Occupancy) (i : ℕ) (o : Occupancy) → i < length occupancies → o ≡ get_or occupancies i o
    → map (λ (x : Occupancy). x.has_block) occupancies ≡ map (λ (x : Occupancy). x.has_block) first → has_block_at first i ≡ o.has_block
block_read occupancies first i o within read same = ap (λ (l : List Bool). get_or l i false) (sym same) ∙ mapped-read (λ (x : Occupancy). x.has_block) occupancies i o false within read

same_bool : (a b : Bool) → (a ≡ false → b ≡ false) → (b ≡ false → a ≡ false) → a ≡ b
same_bool true true there back = refl
same_bool true false there back = back refl
same_bool false b there back = sym (there refl)

-- what is told of a partition that was read is whether it is open
pub told_open : (is_open : ℕ → Bool) (first : List Occupancy) → Tells is_open first → (i : ℕ) (o : Occupancy) (result : Bool) → i < length first → words_at first i ≡ o.held.words → has_block_at first i ≡ o.has_block
    → (o.has_block ≡ false → result ≡ false) → (o.has_block ≡ true → (result ≡ false) ↔ ((slot : ℕ) → slot < 256 → is_set o.held.words slot ≡ true)) → is_open i ≡ result
told_open is_open first tells i o result within words block bare full = by_block o.has_block refl
  where
    by_block : (b : Bool) → o.has_block ≡ b → is_open i ≡ result
    by_block false e = (tells i within).0 (block ∙ e) ∙ sym (bare e)
    by_block true e =
        let its = (tells i within).1 (block ∙ e) in
        same_bool (is_open i) result (λ shut. (full e).1 (λ slot in_range. ap (λ w. is_set w slot) (sym words) ∙ its.0 shut slot in_range))
        (λ shut. its.1 (λ slot in_range. ap (λ w. is_set w slot) words ∙ (full e).0 shut slot in_range))
