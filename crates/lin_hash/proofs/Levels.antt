-- The buckets at a level and a mark, through an insert, a remove, a split and a fold.
use Rattle.std.proofs.Common.{◌≡◌, ◌≢◌, ℕ, ◌+◌, ◌-◌, ◌*◌, ◌%◌, ◌^◌, ◌<◌, ◌≤◌, inl, inr, List, [], ◌∷◌, ◌++◌, length, get_or, set, refl, sym, ap, ◌∙◌, arith, subst, lit<, add-one, replicate, ◌==◌}
use Rattle.std.specs.Prelude.{map}
use Rattle.std.specs.List.{All}
use Rattle.std.proofs.lemmas.List.{length-set, length-append, get_or-replicate}
use Rattle.std.specs.Int.{IsPowerOfTwo}
use Rattle.std.proofs.lemmas.Nat.{pow_pos, pow-add}
use Rattle.std.proofs.lemmas.Bool.{cases_lt, ne_eqb}
use Rattle.std.proofs.Math.Nat.{pow-suc, pow-le-pow_right}
use Rattle.mm_index.specs.Bag.{IsSameBag, with_hash}
use Rattle.lin_hash.specs.Address.{bucket_of, bucket_by, IsPlaced, IsAddressed}
use Rattle.lin_hash.proofs.Addresses.{bucket_by-lt}
use Rattle.lin_hash.proofs.Buckets.{IsPlaced-added, IsPlaced-taken, IsPlaced-split, IsPlaced-fold, IsPlaced-up, IsPlaced-down}
use Rattle.lin_hash.proofs.Joined.{joined, filter-joined}

pub double : (level : ℕ) → 4 * 2 ^ (level + 1) ≡ 2 * (4 * 2 ^ level)
double level = let e : 2 ^ (level + 1) ≡ 2 ^ level * 2 = ap (λ n. 2 ^ n) (add-one level) ∙ pow-suc 2 level in omega arith

-- the moduli are powers of two
pub short_power : (level : ℕ) → IsPowerOfTwo (4 * 2 ^ level)
short_power level = (level + 2, let p = pow-add 2 level 2 in omega arith)

pub long_power : (level : ℕ) → IsPowerOfTwo (2 * (4 * 2 ^ level))
long_power level = (level + 3, let p = pow-add 2 level 3 in omega arith)

positive : (level : ℕ) → 0 < 4 * 2 ^ level
positive level = let p = pow_pos level in omega arith

module _ {A : Type 0} (level mark : ℕ) (bs : List (List (ℕ × A))) (h : IsAddressed level mark bs) where
  -- the bucket of a hash is there
  pub bucket_of-inside : (hash i : ℕ) → i ≡ bucket_of level mark hash → i < length bs
  bucket_of-inside hash i at =
      let within : mark < 4 * 2 ^ level = h.marked in
      let l = bucket_by-lt (4 * 2 ^ level) mark hash (positive level) (omega arith) in
      let n : length bs ≡ 4 * 2 ^ level + mark = h.number in
      omega arith

  -- and so is the bucket to be split next
  pub mark-inside : mark < length bs
  mark-inside =
      let within : mark < 4 * 2 ^ level = h.marked in
      let n : length bs ≡ 4 * 2 ^ level + mark = h.number in
      omega arith

  pub IsAddressed-added : (e : ℕ × A) (i : ℕ) (new : List (ℕ × A)) → i ≡ bucket_of level mark e.0 → new ≡ e ∷ get_or bs i [] → IsAddressed level mark (set bs i new)
  IsAddressed-added e i new at is = record {
    low = h.low;
    marked = h.marked;
    number = length-set bs i new ∙ h.number;
    placed = IsPlaced-added (4 * 2 ^ level) mark bs h.placed e i new (bucket_of-inside e.0 i at) (sym at) is;
  }

  pub IsAddressed-taken : (e : ℕ × A) (i : ℕ) (new : List (ℕ × A)) → i ≡ bucket_of level mark e.0 → IsSameBag (get_or bs i []) (e ∷ new) → IsAddressed level mark (set bs i new)
  IsAddressed-taken e i new at bag = record {
    low = h.low;
    marked = h.marked;
    number = length-set bs i new ∙ h.number;
    placed = IsPlaced-taken (4 * 2 ^ level) mark bs h.placed e i new (bucket_of-inside e.0 i at) bag;
  }

  module _ (short upper : ℕ) (is_short : short ≡ 4 * 2 ^ level) (is_upper : upper ≡ length bs) (kept moved : List (ℕ × A)) (bag : IsSameBag (get_or bs mark []) (kept ++ moved)) (stays : All (λ e. e.0 % (2 * short) ≢ upper) kept) (goes : All (λ e. e.0 % (2 * short) ≡ upper) moved) where
    split_placed : IsPlaced (4 * 2 ^ level) (mark + 1) (set bs mark kept ++ moved ∷ [])
    split_placed =
        let last : upper ≡ 4 * 2 ^ level + mark = is_upper ∙ h.number in
        IsPlaced-split (4 * 2 ^ level) mark bs (positive level) h.marked kept moved h.placed h.number bag (rw (is_short, last) at stays) (rw (is_short, last) at goes)

    split_number : length (set bs mark kept ++ moved ∷ []) ≡ 4 * 2 ^ level + mark + 1
    split_number = let n = length-append (set bs mark kept) (moved ∷ []) in let m = length-set bs mark kept in let k = h.number in omega arith

    -- the mark moves on
    pub IsAddressed-split : mark + 1 ≢ short → IsAddressed level (mark + 1) (set bs mark kept ++ moved ∷ [])
    IsAddressed-split ne = record {
      low = h.low;
      marked =
          let m : mark < 4 * 2 ^ level = h.marked in
          let apart : mark + 1 ≢ 4 * 2 ^ level = λ e. ne (e ∙ sym is_short) in
          omega arith;
      number = let n = split_number in omega arith;
      placed = split_placed;
    }

    -- the level rises
    pub IsAddressed-split_up : mark + 1 ≡ short → length bs < 2 ^ 32 → IsAddressed (level + 1) 0 (set bs mark kept ++ moved ∷ [])
    IsAddressed-split_up e few =
        let whole : mark + 1 ≡ 4 * 2 ^ level = e ∙ is_short in
        let d = double level in
        let n = split_number in
        let k : length bs ≡ 4 * 2 ^ level + mark = h.number in
        record {
          low = elim (cases_lt level 30) [
            | inl below ↦ omega arith
            | inr from ↦ let p : 2 ^ 30 ≤ 2 ^ level = pow-le-pow_right (lit< tt) from in absurd (omega arith)
          ];
          marked = let p = positive level in omega arith;
          number = omega arith;
          placed = rw d (IsPlaced-up (4 * 2 ^ level) (set bs mark kept ++ moved ∷ []) (positive level) (subst (λ m. IsPlaced (4 * 2 ^ level) m (set bs mark kept ++ moved ∷ [])) (e ∙ is_short) split_placed));
        }

-- what the buckets were before the last split: `mark` is the bucket that it shared out
pub record IsSplit {A : Type 0} (level mark : ℕ) (bs : List (List (ℕ × A))) : Type 0 where
  pub low : level ≤ 30
  pub marked : mark < 4 * 2 ^ level
  pub number : length bs ≡ 4 * 2 ^ level + (mark + 1)
  pub placed : IsPlaced (4 * 2 ^ level) (mark + 1) bs

module _ {A : Type 0} (level mark : ℕ) (bs : List (List (ℕ × A))) where
  -- the mark was one lower
  pub IsSplit-back : 0 < mark → IsAddressed level mark bs → IsSplit level (mark - 1) bs
  IsSplit-back pos h =
      let m : mark < 4 * 2 ^ level = h.marked in
      let back : mark - 1 + 1 ≡ mark = omega arith in
      record {
        low = h.low;
        marked = omega arith;
        number = rw back h.number;
        placed = rw back h.placed;
      }

  -- or the level was one lower, and the mark at its last bucket
  pub IsSplit-down : (below : ℕ) → level ≡ below + 1 → mark ≡ 0 → IsAddressed level mark bs → IsSplit below (4 * 2 ^ below - 1) bs
  IsSplit-down below e z h =
      let p = positive below in
      let d = double below in
      let back : 4 * 2 ^ below - 1 + 1 ≡ 4 * 2 ^ below = omega arith in
      let l : level ≤ 30 = h.low in
      let n : length bs ≡ 2 * (4 * 2 ^ below) + 0 = h.number ∙ (rw (e, z, d) refl) in
      let q : IsPlaced (2 * (4 * 2 ^ below)) 0 bs = rw (e, z, d) at h.placed in
      record {
        low = omega arith;
        marked = omega arith;
        number = omega arith;
        placed = rw back (IsPlaced-down (4 * 2 ^ below) bs p q);
      }

-- the last split is undone
pub IsAddressed-fold : {A : Type 0} (level mark : ℕ) (bs : List (List (ℕ × A))) (last new : List (ℕ × A)) → IsSplit level mark (bs ++ last ∷ []) → IsSameBag new (last ++ get_or bs mark []) → IsAddressed level mark (set bs mark new)
IsAddressed-fold level mark bs last new h bag =
    let n = length-append bs (last ∷ []) in
    let k : length (bs ++ last ∷ []) ≡ 4 * 2 ^ level + (mark + 1) = h.number in
    let number : length bs ≡ 4 * 2 ^ level + mark = omega arith in
    record {
      low = h.low;
      marked = h.marked;
      number = length-set bs mark new ∙ number;
      placed = IsPlaced-fold (4 * 2 ^ level) mark bs (positive level) h.marked last new h.placed number bag;
    }

-- four empty buckets
none_in : {A : Type 0} (P : A → Type 0) (xs : List A) → xs ≡ [] → All P xs
none_in P xs e = λ k d l. let z : k < 0 = rw e at l in absurd (omega arith)

pub IsAddressed-new : {A : Type 0} → IsAddressed {A = A} 0 0 (replicate 4 [])
IsAddressed-new {A} = record {
  low = omega arith;
  marked = lit< tt;
  number = refl;
  placed = record { at = λ i inside. none_in (λ e. bucket_by 4 0 e.0 ≡ i) (get_or (replicate 4 []) i []) (get_or-replicate 4 i [] [] inside) };
}

-- a hash's entries all stand in its bucket
pub with_hash-bucket : {A : Type 0} (level mark : ℕ) (bs : List (List (ℕ × A))) → IsAddressed level mark bs → (hash i : ℕ) → i ≡ bucket_of level mark hash → with_hash hash (get_or bs i []) ≡ with_hash hash (joined bs)
with_hash-bucket level mark bs h hash i at =
    ap (map (λ e. e.1))
    (sym (filter-joined (λ e. e.0 == hash) bs i (bucket_of-inside level mark bs h hash i at)
    (λ k inside ne j d l.
    ne_eqb (get_or (get_or bs k []) j d).0 hash
    (λ same. ne (sym (h.placed.at k inside j d l) ∙ ap (bucket_of level mark) same ∙ sym at)))))
