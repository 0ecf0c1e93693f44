use Rattle.std.proofs.Common.{◌≡◌, ℕ, ◌<◌, ◌≤◌, length}
use Rattle.std.specs.Option.{option_map}
use Rattle.mm_prepared.specs.Kept.{named, unresolved}
use Rattle.mm_prepared.proofs.kept.Statements.forget.Given as goal

abbrev pub invariant-loop-number : goal.invariant-loop-number
invariant-loop-number l = record {
  before : (k : ℕ) → k < l.number → named l.self k ≡ option_map unresolved (named l.fn.self k);
  behind : (k : ℕ) → l.number ≤ k → named l.self k ≡ named l.fn.self k;
  as_many : length l.self.kept.slots ≡ length l.fn.self.kept.slots;
}
