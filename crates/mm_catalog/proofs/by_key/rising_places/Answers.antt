use Rattle.std.proofs.Common.{List, map, subst}
use Rattle.std.specs.List.Sorted.{IsPermutation}
use Rattle.std.proofs.lemmas.List.Sorted.{IsPermutation-map}
use Rattle.mm_catalog.specs.LoadOrder.{KeyPlace, row_at}
use Rattle.mm_catalog.proofs.by_key.rising_places.Goals as goal

pub returns-then-is_sorted_by-2 : goal.returns-then-is_sorted_by-2
returns-then-is_sorted_by-2 c =
    let rows = c.args.rows.now in
    let keys : List KeyPlace = c.in_ok-keys.keys.items in
    let sorted : List KeyPlace = c.sort_unstable_by.new.self.items in
    subst (λ rs. IsPermutation rs (map (row_at rows) sorted)) c.in_ok-keys.ensures (IsPermutation-map (row_at rows) keys sorted c.sort_unstable_by.ensures.permutation)
