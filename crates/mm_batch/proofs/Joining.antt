-- Bytes that readers give, one behind the other.
use Prim.Native.Nat.{zero}
use Rattle.std.proofs.Common.{◌≡◌, ℕ, suc, ◌<◌, ◌≤◌, ◌-◌, ◌∙◌, Bool, true, false, nat_eq, List, [], ◌∷◌, ◌++◌, length, take, set, Option, Some, None, get_or, refl, ap, append_assoc, arith}
use Rattle.std.specs.Prelude.{not, option_map}
use Rattle.std.specs.Io.KnownBytes.{Consumes, IsAtEnd}
use Rattle.mm_batch.specs.Joining.{ends_inside, joined, all_known, joined_known}

ends_inside-append : (inside : Bool) (a b : List ℕ) → ends_inside inside (a ++ b) ≡ ends_inside (ends_inside inside a) b
ends_inside-append inside [] b = refl
ends_inside-append inside (x ∷ a) b = ends_inside-append (not (nat_eq x 10)) a b

ends_inside-front : (inside : Bool) (bytes : List ℕ) (n : ℕ) → n < length bytes → ends_inside inside (take (suc n) bytes) ≡ not (nat_eq (get_or bytes n 0) 10)
ends_inside-front inside [] n within = absurd (omega arith)
ends_inside-front inside (b ∷ bytes) zero within = refl
ends_inside-front inside (b ∷ bytes) (suc n) within = ends_inside-front (not (nat_eq b 10)) bytes n (omega arith)

-- bytes end inside a line where the last of them is no line feed
pub ends_inside-last : (inside : Bool) (bytes : List ℕ) (n : ℕ) → 0 < n → n ≤ length bytes
    → ends_inside inside (take n bytes) ≡ not (nat_eq (get_or bytes (n - 1) 0) 10)
ends_inside-last inside bytes zero some within = absurd (omega arith)
ends_inside-last inside bytes (suc n) some within = let e : suc n - 1 ≡ n = omega arith in rw e (ends_inside-front inside bytes n (omega arith))

pub take-line_feed : (bytes : List ℕ) → 0 < length bytes → take 1 (set bytes 0 10) ≡ 10 ∷ []
take-line_feed [] some = absurd (omega arith)
take-line_feed (b ∷ bytes) some = refl

joined-append : (inside : Bool) (a b : List ℕ) (others : List (List ℕ)) → joined inside ((a ++ b) ∷ others) ≡ a ++ joined (ends_inside inside a) (b ∷ others)
joined-append inside a b [] = refl
joined-append inside a b (next ∷ others) = rw (ends_inside-append inside a b) (append_assoc a b _)

-- the first reader gives bytes
pub gives : (inside : Bool) (before after : Option (List ℕ)) (others : List (Option (List ℕ))) (bytes : List ℕ) → Consumes before after bytes
    → Consumes (joined_known inside (before ∷ others)) (joined_known (ends_inside inside bytes) (after ∷ others)) bytes
gives inside None after others bytes gave = tt
gives inside (Some xs) None others bytes gave = absurd gave
gives inside (Some xs) (Some ys) others bytes gave = with (all_known others) where
  with : (known : Option (List (List ℕ)))
      → Consumes (option_map (joined inside) (option_map (λ k. xs ∷ k) known)) (option_map (joined (ends_inside inside bytes)) (option_map (λ k. ys ∷ k) known)) bytes
  with None = tt
  with (Some k) = ap (λ all. joined inside (all ∷ k)) gave ∙ joined-append inside bytes ys k

-- the first reader has ended, and a line feed comes before the next
pub feeds_line : (before after next : Option (List ℕ)) (others : List (Option (List ℕ))) → Consumes before after [] → IsAtEnd after
    → Consumes (joined_known true (before ∷ next ∷ others)) (joined_known false (next ∷ others)) (10 ∷ [])
feeds_line None after next others gave ended = tt
feeds_line (Some xs) None next others gave ended = absurd gave
feeds_line (Some xs) (Some ys) None others gave ended = tt
feeds_line (Some xs) (Some ys) (Some zs) others gave ended = with (all_known others) where
  with : (known : Option (List (List ℕ)))
      → Consumes (option_map (joined true) (option_map (λ k. xs ∷ k) (option_map (λ k. zs ∷ k) known))) (option_map (joined false) (option_map (λ k. zs ∷ k) known)) (10 ∷ [])
  with None = tt
  with (Some k) = ap (λ all. joined true (all ∷ zs ∷ k)) (gave ∙ ended)
