-- What is said of both ends of a few bytes.
use Rattle.std.proofs.Common.{◌≡◌, ◌∙◌, ◌++◌, ◌-◌, ◌≤◌, ◌||◌, ℕ, List, drop, false, length, take, refl, sym, ap, arith}
use Rattle.std.proofs.lemmas.Bool.{or_parts}
use Rattle.std.proofs.lemmas.List.{take-append-drop, take-append-le, length-take}
use Rattle.std.proofs.lemmas.List.Folds.{list_any-append}
use Rattle.plain_tables.specs.Csv.{calls_for_quotes, needs_quotes}
use Rattle.mm_csv.specs.Ends.{AreEndsOf}

module _ (bytes first last : List ℕ) (ends : AreEndsOf bytes first last) where
  -- the bytes before the last eight are among the first eight
  before : take (length bytes - 8) first ≡ take (length bytes - 8) bytes
  before =
      let inside : length bytes - 8 ≤ length (take 8 bytes) = rw (length-take 8 bytes) (omega (arith, ends.few, ends.enough)) in
      ap (take (length bytes - 8)) ends.front ∙ sym (take-append-le (length bytes - 8) (take 8 bytes) (drop 8 bytes) inside)
      ∙ ap (take (length bytes - 8)) (take-append-drop 8 bytes)

  pub ends-join : take (length bytes - 8) first ++ last ≡ bytes
  ends-join =
      ap (λ xs. take (length bytes - 8) first ++ xs) ends.back ∙ ap (λ xs. xs ++ drop (length bytes - 8) bytes) before ∙ take-append-drop (length bytes - 8) bytes

  pub ends-plain : needs_quotes first ≡ false → needs_quotes last ≡ false → needs_quotes bytes ≡ false
  ends-plain one other =
      let front = take (length bytes - 8) first in
      let rest = drop (length bytes - 8) first in
      let parted : (needs_quotes front || needs_quotes rest) ≡ false = sym (list_any-append calls_for_quotes front rest) ∙ ap needs_quotes (take-append-drop (length bytes - 8) first) ∙ one in
      let plain = or_parts (needs_quotes front) (needs_quotes rest) parted in
      sym (ap needs_quotes ends-join) ∙ list_any-append calls_for_quotes front last ∙ rw (plain.0, other) refl
