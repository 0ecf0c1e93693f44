-- Rows of values that cells are, one after the other.
use Rattle.std.proofs.Common.{◌≡◌, ◌∙◌, ◌+◌, ◌*◌, ◌<◌, ◌++◌, ◌∷◌, ℕ, List, [], ap, arith, drop, length, map, set, subst, suc, sym, take}
use Rattle.std.specs.Prelude.{slice_index_or}
use Rattle.std.specs.List.{All, flat_map}
use Rattle.std.proofs.Math.Nat.{suc-mul}
use Rattle.std.proofs.Math.Seq.{take-suc, take-suc-set}
use Rattle.std.proofs.lemmas.Grind.{flat_map-append}
use Rattle.std.proofs.lemmas.List.{append-nil, append_assoc, map-append, take-append-drop}
use Rattle.std.proofs.lemmas.List.Elements.{All-append, All-cons, All-nil}
use Rattle.plain_tables.specs.declared.value.Value.{Value}

-- one place more is taken
taken-more : {X : Type 0} (xs : List X) (k : ℕ) (d : X) → k < length xs → take (k + 1) xs ≡ take k xs ++ slice_index_or xs k d ∷ []
taken-more xs k d within = let next : suc k ≡ k + 1 = omega arith in ap (λ j. take j xs) (sym next) ∙ take-suc xs k d within

-- what holds of those before a place and of its item holds of all of these
pub all-more : {X : Type 0} (P : X → Type 0) (xs : List X) (k : ℕ) (d : X) → k < length xs → All P (take k xs) → P (slice_index_or xs k d) → All P (take (k + 1) xs)
all-more P xs k d within before here =
    subst (All P) (sym (taken-more xs k d within)) (All-append P (take k xs) (slice_index_or xs k d ∷ []) before (All-cons P (slice_index_or xs k d) [] here (All-nil P)))

-- one more value is set, as that of one more cell
pub set-more : {X : Type 0} (f : X → Value) (row : List Value) (cells : List X) (k : ℕ) (d : X) → k < length cells → length row ≡ length cells
    → take k row ≡ map f (take k cells) → take (k + 1) (set row k (f (slice_index_or cells k d))) ≡ map f (take (k + 1) cells)
set-more f row cells k d within same before =
    let next : suc k ≡ k + 1 = omega arith in
    let inside : k < length row = omega (arith, same, within) in
    let x = slice_index_or cells k d in
    ap (λ j. take j (set row k (f x))) (sym next) ∙ take-suc-set row k (f x) inside ∙ ap (λ l. l ++ f x ∷ []) before
    ∙ sym (map-append f (take k cells) (x ∷ [])) ∙ ap (map f) (sym (taken-more cells k d within))

-- a row more, and fewer cells behind it
pub row-more : {X : Type 0} (f : X → Value) (cells rest : List X) (rows : List (List Value)) (n : ℕ) → map f cells ≡ flat_map (λ row. row) rows ++ map f rest
    → map f cells ≡ flat_map (λ row. row) (rows ++ map f (take n rest) ∷ []) ++ map f (drop n rest)
row-more f cells rest rows n all =
    let before = flat_map (λ (row : List Value). row) rows in
    let here = map f (take n rest) in
    let behind = map f (drop n rest) in
    all
    ∙ ap (λ l. before ++ l) (ap (map f) (sym (take-append-drop n rest)) ∙ map-append f (take n rest) (drop n rest))
    ∙ sym (append_assoc before here behind)
    ∙ ap (λ l. l ++ behind) (sym (flat_map-append (λ (row : List Value). row) rows (here ∷ []) ∙ ap (λ l. before ++ l) (append-nil here)))

-- so many values has one row more
pub row-count : (n m places : ℕ) → m ≡ n + 1 → m * places ≡ n * places + places
row-count n m places more = let next : m ≡ suc n = omega (arith, more) in ap (λ k. k * places) next ∙ suc-mul n places
