-- What is kept of a line says what the line is.
use Rattle.std.proofs.Common.{◌≡◌, ℕ, true, false, cond, Bool, List, [], ◌∷◌, ◌++◌, length, drop, leb, refl, sym, subst, arith, length-append}
use Rattle.std.proofs.lemmas.Bool.Decides.{nat_tests}
use Rattle.std.proofs.lemmas.List.{take-append-drop}
use Rattle.std.proofs.lemmas.List.Elements.{Contains-append_left}
use Rattle.std.specs.List.{Contains}
use Rattle.std.specs.Prelude.{slice_index, take, ◌-◌, ◌==◌}
use Rattle.plain_streams.specs.Division.{IsUnbroken}
use Rattle.plain_streams.specs.Requests.{without_return}
use Rattle.mm_session.specs.Buffers.{KeptLine, PartOfLine, LongLine, kept_of, grown, is_start}

part : (b : Bool) (x l : List ℕ) → cond b (PartOfLine x) LongLine ≡ PartOfLine l → l ≡ x
part true x l h = cc
part false x l h = cc

pub kept_of-part : (x l : List ℕ) → kept_of x ≡ PartOfLine l → l ≡ x
kept_of-part x l = part (leb (length x) 8193) x l

pub grown-kept_of : (rest more : List ℕ) → grown (kept_of rest) more ≡ kept_of (rest ++ more)
grown-kept_of rest more =
    elim (leb (length rest) 8193) as (λ b. leb (length rest) 8193 ≡ b → grown (cond b (PartOfLine rest) LongLine) more ≡ kept_of (rest ++ more)) [
      | true ↦ λ h. refl
      | false ↦ λ h.
          let longer : leb (length (rest ++ more)) 8193 ≡ false = grind (arith, nat_tests, length-append rest more) in
          rw longer refl
    ] refl

pub start : (kept : KeptLine) (rest : List ℕ) → is_start kept ≡ true → kept ≡ kept_of rest → [] ≡ rest
start (PartOfLine []) rest h is = kept_of-part rest [] (sym is)
start (PartOfLine (b ∷ bs)) rest h is = cc
start LongLine rest h is = cc

pub start-nothing : (kept : KeptLine) → is_start kept ≡ true → kept ≡ PartOfLine []
start-nothing (PartOfLine []) h = refl
start-nothing (PartOfLine (b ∷ bs)) h = cc
start-nothing LongLine h = cc

-- a line without its carriage return has no line feed where the line has none
pub without_return-unbroken : (line : List ℕ) → IsUnbroken line → IsUnbroken (without_return line)
without_return-unbroken line unbroken =
    let last = length line - 1 in
    elim (slice_index line last == 13) as (λ b. IsUnbroken (cond b (take last line) line)) [
      | true ↦ λ found. unbroken (subst (λ l. Contains l 10) (take-append-drop last line) (Contains-append_left (take last line) (drop last line) 10 found))
      | false ↦ unbroken
    ]
