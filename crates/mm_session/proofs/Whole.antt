-- Which lines and blocks are whole requests.
use Rattle.std.proofs.Common.{◌≡◌, ◌≢◌, ℕ, List, ◌∷◌, ◌++◌, true, false, length, Option, Some, None, refl, subst, Bor, arith}
use Rattle.std.specs.Prelude.{MatchOption, unwrap_or, is_some}
use Rattle.std.proofs.lemmas.List.Elements.{Contains-append_right}
use Rattle.plain_streams.specs.Division.{IsUnbroken, IsWhole}
use Rattle.plain_streams.specs.Requests.{Takes, asked, unasked}
use Rattle.plain_streams.proofs.Asking.{takes_one}
use Rattle.mm_session.proofs.Asks.{AsksAs}

-- what a line takes, by what it asks for
pub takes-asked : (line : List ℕ) (length : Option ℕ) → AsksAs line length → Takes line (unwrap_or length 0)
takes-asked line None none = unasked none
takes-asked line (Some n) asks = asked n asks

-- the line before the first line feed, and what stands behind that, if there is one
abbrev IsSplit : List ℕ → Option (Bor (List ℕ) × Bor (List ℕ)) → Type 0
IsSplit line parts = MatchOption parts (IsUnbroken line) (λ p. IsUnbroken p.0.now × (line ≡ p.0.now ++ 10 ∷ p.1.now))

pub unsplit : (line : List ℕ) (parts : Option (Bor (List ℕ) × Bor (List ℕ))) → IsSplit line parts → is_some parts ≡ false → IsUnbroken line
unsplit line None unbroken none = unbroken
unsplit line (Some p) split none = cc

pub split-broken : (line : List ℕ) (parts : Option (Bor (List ℕ) × Bor (List ℕ))) → IsSplit line parts → is_some parts ≡ true → ¬ (IsUnbroken line)
split-broken line None split some = cc
split-broken line (Some p) split some =
    λ unbroken. unbroken (rw split.1 (Contains-append_right p.0.now (10 ∷ p.1.now) 10 (0, omega arith, refl)))

-- A line with no line feed is whole with the block that it takes, and with no other.
pub whole-with : (line block : List ℕ) (n : ℕ) → IsUnbroken line → Takes line n → n ≡ length block → IsWhole (record { line = line; block = block })
whole-with line block n unbroken takes same = record { line = unbroken; block = subst (Takes line) same takes }

pub not_whole-with : (line block : List ℕ) (n : ℕ) → Takes line n → n ≢ length block → ¬ (IsWhole (record { line = line; block = block }))
not_whole-with line block n takes differ whole = differ (takes_one line n (length block) takes whole.block)
