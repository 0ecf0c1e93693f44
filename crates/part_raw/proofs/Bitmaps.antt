-- Each block has its bitmap still: where a slot is written or freed, where a block is added, and where the last is taken away.
use Rattle.std.proofs.Common.{◌≡◌, ◌≢◌, ℕ, zero, suc, ◌<◌, Bool, false, nat_lt, List, [], ◌∷◌, ◌++◌, map, length, get_or, set, Option, refl, sym, ap, ◌∙◌, inl, inr, arith, subst}
use Rattle.std.proofs.lemmas.Bool.{cases_eq}
use Rattle.std.proofs.lemmas.List.{length-set, length_push, get_or-map, get_or-set_same, get_or-set_other, get_or_push, map-set, map-append, length-map}
use Rattle.part_raw.specs.declared.store.Occupancy.{Occupancy}
use Rattle.part_raw.specs.Layout.{IsPlace}
use Rattle.part_raw.specs.Open.{words_at, has_block_at, slots_at, HaveBitmaps}
use Rattle.part_raw.proofs.Parts.{Blocks, read_block}

-- ---- a field of each of a list

module _ {A B : Type 0} (f : A → B) where
  pub mapped-read : (l : List A) (i : ℕ) (y : A) (d : B) → i < length l → y ≡ get_or l i y → get_or (map f l) i d ≡ f y
  mapped-read l i y d within read = get_or-map f l i y d within ∙ ap f (sym read)

  pub mapped-set_same : (l : List A) (i : ℕ) (y : A) (d : B) → i < length l → get_or (map f (set l i y)) i d ≡ f y
  mapped-set_same l i y d within = ap (λ xs. get_or xs i d) (map-set f l i y) ∙ get_or-set_same (map f l) i (f y) d (omega (arith, within, length-map l f))

  pub mapped-set_other : (l : List A) (i j : ℕ) (y : A) (d : B) → j ≢ i → get_or (map f (set l i y)) j d ≡ get_or (map f l) j d
  mapped-set_other l i j y d differs = ap (λ xs. get_or xs j d) (map-set f l i y) ∙ get_or-set_other (map f l) i j (f y) d differs

  pub mapped-push_same : (l : List A) (i : ℕ) (y : A) (d : B) → i ≡ length l → get_or (map f (l ++ y ∷ [])) i d ≡ f y
  mapped-push_same l i y d e = ap (λ xs. get_or xs i d) (map-append f l (y ∷ [])) ∙ get_or_push (map f l) (f y) d i (omega (arith, e, length-map l f))

pub get_or-push_other : {A : Type 0} (l : List A) (j : ℕ) (y d : A) → j ≢ length l → get_or (l ++ y ∷ []) j d ≡ get_or l j d
get_or-push_other [] zero y d differs = absurd (differs refl)
get_or-push_other [] (suc j) y d differs = refl
get_or-push_other (x ∷ l) zero y d differs = refl
get_or-push_other (x ∷ l) (suc j) y d differs = get_or-push_other l j y d (λ e. differs (omega (arith, e)))

pub mapped-push_other : {A B : Type 0} (f : A → B) (l : List A) (j : ℕ) (y : A) (d : B) → j ≢ length l → get_or (map f (l ++ y ∷ [])) j d ≡ get_or (map f l) j d
mapped-push_other f l j y d differs =
    ap (λ xs. get_or xs j d) (map-append f l (y ∷ [])) ∙ get_or-push_other (map f l) j (f y) d (λ e. differs (omega (arith, e, length-map l f)))

-- ---- the bitmaps

abbrev words_of : Occupancy → List ℕ
words_of o = o.held.words

abbrev block_of : Occupancy → Bool
block_of o = o.has_block

module _ {T : Type 0} where
  fits : (words words' : List ℕ) (slots slots' : List (Option T)) → words' ≡ words → slots' ≡ slots → IsPlace words slots → IsPlace words' slots'
  fits words words' slots slots' w s is = subst (λ (p : List ℕ × List (Option T)). IsPlace p.0 p.1) (λ i. (sym w i, sym s i)) is

  -- the bits of a partition tell which slots of its block hold a tuple
  pub bits_in : (blocks : Blocks T) (occupancies : List Occupancy) (slots : List (Option T)) (part : ℕ) → HaveBitmaps blocks occupancies
      → part < length blocks → slots ≡ get_or blocks part slots → IsPlace (words_at occupancies part) slots
  bits_in blocks occupancies slots part is within read = fits _ _ _ _ refl (sym (read_block blocks slots part within read)) (is.bits part within)

  -- the same of the bitmap that was read
  pub bits_of : (blocks : Blocks T) (occupancies : List Occupancy) (o : Occupancy) (part : ℕ) → HaveBitmaps blocks occupancies
      → part < length blocks → o ≡ get_or occupancies part o → IsPlace o.held.words (slots_at blocks part)
  bits_of blocks occupancies o part is within read =
      fits _ _ _ _ (sym (mapped-read words_of occupancies part o [] (omega (arith, within, is.as_many)) read)) refl (is.bits part within)

  -- the same where both were read
  pub bits_at : (blocks : Blocks T) (occupancies : List Occupancy) (slots : List (Option T)) (o : Occupancy) (part : ℕ) → HaveBitmaps blocks occupancies
      → part < length blocks → slots ≡ get_or blocks part slots → o ≡ get_or occupancies part o → IsPlace o.held.words slots
  bits_at blocks occupancies slots o part is within read o_read = fits _ _ _ _ refl (sym (read_block blocks slots part within read)) (bits_of blocks occupancies o part is within o_read)

  -- whether a block is there is told
  pub told_at : (blocks : Blocks T) (occupancies : List Occupancy) (slots : List (Option T)) (o : Occupancy) (part : ℕ) → HaveBitmaps blocks occupancies
      → part < length blocks → slots ≡ get_or blocks part slots → o ≡ get_or occupancies part o → o.has_block ≡ nat_lt 0 (length slots)
  told_at blocks occupancies slots o part is within read o_read =
      sym (mapped-read block_of occupancies part o false (omega (arith, within, is.as_many)) o_read) ∙ is.told part within ∙ ap (λ (l : List (Option T)). nat_lt 0 (length l)) (read_block blocks slots part within read)

  -- a partition's slots change, and its bitmap with them
  pub HaveBitmaps-set : (blocks : Blocks T) (occupancies : List Occupancy) (new : List (Option T)) (o : Occupancy) (part : ℕ) → HaveBitmaps blocks occupancies
      → part < length blocks → IsPlace o.held.words new → o.has_block ≡ nat_lt 0 (length new) → HaveBitmaps (set blocks part new) (set occupancies part o)
  HaveBitmaps-set blocks occupancies new o part is within bits block =
      record {
        as_many = omega (arith, is.as_many, length-set blocks part new, length-set occupancies part o);
        bits = λ other in_range.
            elim (cases_eq other part) [
              | inl same ↦
                  subst (λ (k : ℕ). IsPlace (words_at (set occupancies part o) k) (slots_at (set blocks part new) k)) (sym same)
                  (fits _ _ _ _ (mapped-set_same words_of occupancies part o [] (omega (arith, within, is.as_many))) (get_or-set_same blocks part new [] within) bits)
              | inr differs ↦
                  fits _ _ _ _ (mapped-set_other words_of occupancies part other o [] differs) (get_or-set_other blocks part other new [] differs)
                  (is.bits other (omega (arith, in_range, length-set blocks part new)))
            ];
        told = λ other in_range.
            elim (cases_eq other part) [
              | inl same ↦
                  subst (λ (k : ℕ). has_block_at (set occupancies part o) k ≡ nat_lt 0 (length (slots_at (set blocks part new) k))) (sym same)
                  (mapped-set_same block_of occupancies part o false (omega (arith, within, is.as_many)) ∙ block ∙ ap (λ (l : List (Option T)). nat_lt 0 (length l)) (sym (get_or-set_same blocks part new [] within)))
              | inr differs ↦
                  mapped-set_other block_of occupancies part other o false differs ∙ is.told other (omega (arith, in_range, length-set blocks part new))
                  ∙ ap (λ (l : List (Option T)). nat_lt 0 (length l)) (sym (get_or-set_other blocks part other new [] differs))
            ];
      }

  -- a held tuple is written over, and no bit changes
  pub HaveBitmaps-write : (blocks : Blocks T) (occupancies : List Occupancy) (new : List (Option T)) (part : ℕ) → HaveBitmaps blocks occupancies
      → part < length blocks → IsPlace (words_at occupancies part) new → length new ≡ length (slots_at blocks part) → HaveBitmaps (set blocks part new) occupancies
  HaveBitmaps-write blocks occupancies new part is within bits long =
      record {
        as_many = omega (arith, is.as_many, length-set blocks part new);
        bits = λ other in_range.
            elim (cases_eq other part) [
              | inl same ↦
                  subst (λ (k : ℕ). IsPlace (words_at occupancies k) (slots_at (set blocks part new) k)) (sym same)
                  (fits _ _ _ _ refl (get_or-set_same blocks part new [] within) bits)
              | inr differs ↦
                  fits _ _ _ _ refl (get_or-set_other blocks part other new [] differs) (is.bits other (omega (arith, in_range, length-set blocks part new)))
            ];
        told = λ other in_range.
            elim (cases_eq other part) [
              | inl same ↦
                  subst (λ (k : ℕ). has_block_at occupancies k ≡ nat_lt 0 (length (slots_at (set blocks part new) k))) (sym same)
                  (is.told part within ∙ ap (nat_lt 0) (sym long ∙ ap length (sym (get_or-set_same blocks part new [] within))))
              | inr differs ↦
                  is.told other (omega (arith, in_range, length-set blocks part new)) ∙ ap (λ (l : List (Option T)). nat_lt 0 (length l)) (sym (get_or-set_other blocks part other new [] differs))
            ];
      }

  pub HaveBitmaps-push : (blocks : Blocks T) (occupancies : List Occupancy) (new : List (Option T)) (o : Occupancy) → HaveBitmaps blocks occupancies
      → IsPlace o.held.words new → o.has_block ≡ nat_lt 0 (length new) → HaveBitmaps (blocks ++ new ∷ []) (occupancies ++ o ∷ [])
  HaveBitmaps-push blocks occupancies new o is bits block =
      record {
        as_many = omega (arith, is.as_many, length_push blocks new, length_push occupancies o);
        bits = λ other in_range.
            elim (cases_eq other (length blocks)) [
              | inl at ↦
                  fits _ _ _ _ (mapped-push_same words_of occupancies other o [] (omega (arith, at, is.as_many))) (get_or_push blocks new [] other (sym at)) bits
              | inr differs ↦
                  fits _ _ _ _ (mapped-push_other words_of occupancies other o [] (λ at. differs (omega (arith, at, is.as_many)))) (get_or-push_other blocks other new [] differs)
                  (is.bits other (omega (arith, in_range, length_push blocks new)))
            ];
        told = λ other in_range.
            elim (cases_eq other (length blocks)) [
              | inl at ↦
                  mapped-push_same block_of occupancies other o false (omega (arith, at, is.as_many)) ∙ block ∙ ap (λ (l : List (Option T)). nat_lt 0 (length l)) (sym (get_or_push blocks new [] other (sym at)))
              | inr differs ↦
                  mapped-push_other block_of occupancies other o false (λ at. differs (omega (arith, at, is.as_many))) ∙ is.told other (omega (arith, in_range, length_push blocks new))
                  ∙ ap (λ (l : List (Option T)). nat_lt 0 (length l)) (sym (get_or-push_other blocks other new [] differs))
            ];
      }

  -- the last block and its bitmap
  pub bits_of_last : (blocks : Blocks T) (occupancies : List Occupancy) (slots : List (Option T)) (o : Occupancy) → HaveBitmaps (blocks ++ slots ∷ []) (occupancies ++ o ∷ []) → IsPlace o.held.words slots
  bits_of_last blocks occupancies slots o is =
      let last : length blocks < length (blocks ++ slots ∷ []) = omega (arith, length_push blocks slots) in
      let same : length blocks ≡ length occupancies = omega (arith, is.as_many, length_push blocks slots, length_push occupancies o) in
      fits _ _ _ _ (sym (mapped-push_same words_of occupancies (length blocks) o [] same)) (sym (get_or_push blocks slots [] (length blocks) refl)) (is.bits (length blocks) last)

  pub told_of_last : (blocks : Blocks T) (occupancies : List Occupancy) (slots : List (Option T)) (o : Occupancy) → HaveBitmaps (blocks ++ slots ∷ []) (occupancies ++ o ∷ []) → o.has_block ≡ nat_lt 0 (length slots)
  told_of_last blocks occupancies slots o is =
      let last : length blocks < length (blocks ++ slots ∷ []) = omega (arith, length_push blocks slots) in
      let same : length blocks ≡ length occupancies = omega (arith, is.as_many, length_push blocks slots, length_push occupancies o) in
      sym (mapped-push_same block_of occupancies (length blocks) o false same) ∙ is.told (length blocks) last ∙ ap (λ (l : List (Option T)). nat_lt 0 (length l)) (get_or_push blocks slots [] (length blocks) refl)

  -- the blocks before the last and theirs
  pub HaveBitmaps-front : (blocks : Blocks T) (occupancies : List Occupancy) (slots : List (Option T)) (o : Occupancy) → HaveBitmaps (blocks ++ slots ∷ []) (occupancies ++ o ∷ []) → HaveBitmaps blocks occupancies
  HaveBitmaps-front blocks occupancies slots o is =
      let same : length occupancies ≡ length blocks = omega (arith, is.as_many, length_push blocks slots, length_push occupancies o) in
      record {
        as_many = same;
        bits = λ part in_range.
            fits _ _ _ _ (sym (mapped-push_other words_of occupancies part o [] (λ at. absurd (omega (arith, at, same, in_range))))) (sym (get_or-push_other blocks part slots [] (λ at. absurd (omega (arith, at, in_range)))))
            (is.bits part (omega (arith, in_range, length_push blocks slots)));
        told = λ part in_range.
            sym (mapped-push_other block_of occupancies part o false (λ at. absurd (omega (arith, at, same, in_range)))) ∙ is.told part (omega (arith, in_range, length_push blocks slots))
            ∙ ap (λ (l : List (Option T)). nat_lt 0 (length l)) (get_or-push_other blocks part slots [] (λ at. absurd (omega (arith, at, in_range))));
      }
