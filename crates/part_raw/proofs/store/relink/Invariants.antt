use Rattle.std.proofs.Common.{◌≡◌, ℕ, Bool, ◌+◌, ◌≤◌, length, map}
use Rattle.part_raw.specs.Open.{IsOpenList, Tells, below, next_at}
use Rattle.part_raw.proofs.Relinked.{from}
use Rattle.part_raw.proofs.store.relink.Given as goal

abbrev pub invariant-loop-part : goal.invariant-loop-part
invariant-loop-part l = record {
  held : map (λ o. o.held.words) l.occupancies.items ≡ map (λ o. o.held.words) l.fn.occupancies.items;
  blocks : map (λ o. o.has_block) l.occupancies.items ≡ map (λ o. o.has_block) l.fn.occupancies.items;
  within : l.part ≤ length l.fn.occupancies.items;
  linked : (is_open : ℕ → Bool) → Tells is_open l.fn.occupancies.items
      → (n : ℕ) × (below is_open l.part + n ≡ below is_open (length l.fn.occupancies.items)) × IsOpenList (from l.part is_open) (next_at l.occupancies.items) n l.first_open;
}

abbrev pub decreases-loop-part : goal.decreases-loop-part
decreases-loop-part l = l.part
