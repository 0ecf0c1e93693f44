-- Lemmas on records that are put together from their ends.
use Rattle.std.proofs.Common.{◌≡◌, ◌++◌, ◌∷◌, [], ◌+◌, ◌<◌, ℕ, List, false, sym, drop, length, append_assoc, arith}
use Rattle.std.specs.List.{flat_map, list_any}
use Rattle.plain_tables.specs.Csv.{needs_quotes, record_text}
use Rattle.mm_csv.proofs.PlainFields.{record-plain}

shows : (field : List ℕ) (fields : List (List ℕ)) (bytes : List ℕ) → bytes ≡ 44 ∷ (field ++ (flat_map (λ f. 44 ∷ f) fields ++ 10 ∷ []))
    → 2 < length bytes → 0 < length field + length fields
shows [] [] bytes is long = absurd (omega (arith, rw is at long))
shows [] (other ∷ fields) bytes is long = omega arith
shows (b ∷ field) fields bytes is long = omega arith

pub record-behind : (fields : List (List ℕ)) (bytes : List ℕ) → 0 < length fields → bytes ≡ flat_map (λ f. 44 ∷ f) fields ++ 10 ∷ []
    → list_any needs_quotes fields ≡ false → 2 < length bytes → drop 1 bytes ≡ record_text fields
record-behind [] bytes some is plain long = absurd (omega (arith, some))
record-behind (field ∷ fields) bytes some is plain long =
    let whole : bytes ≡ 44 ∷ (field ++ (flat_map (λ f. 44 ∷ f) fields ++ 10 ∷ [])) = rw (append_assoc field (flat_map (λ f. 44 ∷ f) fields) (10 ∷ [])) at is in
    rw whole (sym (record-plain field fields plain (shows field fields bytes whole long)))
