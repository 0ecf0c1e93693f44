-- Cells: what they are as more texts come.
use Rattle.std.proofs.Common.{◌≡◌, ℕ, ◌+◌, ◌-◌, ◌≤◌, length, arith, List, [], ◌∷◌, ◌++◌, refl, ap, ◌∙◌, append-nil, take, drop, map}
use Rattle.std.proofs.lemmas.Bool.{false≢true}
use Rattle.std.specs.Prelude.{Result, Ok, Err, IsOk, is_ok, if◌then◌else◌, slice_range}
use Rattle.std.specs.List.{All}
use Rattle.std.proofs.lemmas.List.{map-append, take-append-le, drop-append-le, length-drop}
use Rattle.std.proofs.Math.Seq.{drop-append_seam, take-length}
use Rattle.std.proofs.lemmas.List.Concat.{flat_map-append}
use Rattle.std.proofs.lemmas.List.Elements.{All-tail, All-head}
use Rattle.mm_cells.specs.Reading.{cell_value, IsReadable, text_of, texts_of}
use Rattle.mm_cells.specs.declared.cells.ResultCell.{ResultCell}
use Rattle.plain_tables.specs.declared.value.Value.TheVariants as value

range-kept : (texts more : List ℕ) (a b : ℕ) → a ≤ b → b ≤ length texts → slice_range (texts ++ more) a b ≡ slice_range texts a b
range-kept texts more a b order within =
    ap (take (b - a)) (drop-append-le a texts more (omega arith))
    ∙ take-append-le (b - a) (drop a texts) more (let n = length-drop a texts in omega arith)

range-new : (texts more : List ℕ) → slice_range (texts ++ more) (length texts) (length texts + length more) ≡ more
range-new texts more =
    let n : length texts + length more - length texts ≡ length more = omega arith in
    ap (λ k. take k (drop (length texts) (texts ++ more))) n
    ∙ ap (take (length more)) (drop-append_seam texts more) ∙ take-length more

value-kept : (texts more : List ℕ) (c : ResultCell) → IsReadable texts c → cell_value (texts ++ more) c ≡ cell_value texts c
value-kept texts more c readable = rw (range-kept texts more c.at (c.at + c.length) (omega arith) readable.within) refl

-- what was read is read still once more texts have come
pub values-kept : (texts more : List ℕ) (cells : List ResultCell) → All (IsReadable texts) cells
    → map (cell_value (texts ++ more)) cells ≡ map (cell_value texts) cells
values-kept texts more [] all = refl
values-kept texts more (c ∷ cells) all =
    rw (value-kept texts more c (All-head (IsReadable texts) c cells all), values-kept texts more cells (All-tail (IsReadable texts) c cells all)) refl

-- a text behind the others is read as itself
pub text-read : (texts more : List ℕ) (cells : List ResultCell) (c : ResultCell) → All (IsReadable texts) cells → c.kind ≡ 2 → c.at ≡ length texts → c.length ≡ length more
    → map (cell_value (texts ++ more)) (cells ++ c ∷ []) ≡ map (cell_value texts) cells ++ value.Text more ∷ []
text-read texts more cells c all kind at long =
    map-append (cell_value (texts ++ more)) cells (c ∷ [])
    ∙ ap (λ vs. vs ++ cell_value (texts ++ more) c ∷ []) (values-kept texts more cells all)
    ∙ ap (λ v. map (cell_value texts) cells ++ v ∷ []) (rw (kind, at, long, range-new texts more) refl)

-- the texts of all are those before, and the text that stands behind them
pub texts-in-turn : (texts more : List ℕ) (cells : List ResultCell) (c : ResultCell) → All (IsReadable texts) cells → texts_of (map (cell_value texts) cells) ≡ texts
    → c.kind ≡ 2 → c.at ≡ length texts → c.length ≡ length more → texts_of (map (cell_value (texts ++ more)) (cells ++ c ∷ [])) ≡ texts ++ more
texts-in-turn texts more cells c all turn kind at long =
    ap texts_of (text-read texts more cells c all kind at long)
    ∙ flat_map-append text_of (map (cell_value texts) cells) (value.Text more ∷ [])
    ∙ ap (λ before. before ++ (more ++ [])) turn ∙ ap (λ rest. texts ++ rest) (append-nil more)

-- what is pushed where there is room stands behind the others
pub pushed-behind : {A E : Type 0} (r : Result A E) (old new : List ResultCell) (c : ResultCell) → IsOk r → new ≡ (if is_ok r then old ++ c ∷ [] else old) → new ≡ old ++ c ∷ []
pushed-behind (Ok a) old new c ok is = is
pushed-behind (Err e) old new c ok is = absurd (false≢true ok)
