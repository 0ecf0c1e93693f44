use Rattle.std.proofs.Common.{◌≡◌, ◌++◌, ◌∷◌, [], false, drop, map}
use Rattle.std.specs.List.{flat_map, list_any}
use Rattle.plain_tables.specs.Csv.{needs_quotes, value_field}
use Rattle.mm_csv.proofs.ending.Ending.record_of.Given as goal

abbrev pub invariant-loop-place : goal.invariant-loop-place
invariant-loop-place l =
    let fields = map value_field (map (λ v. v.now) (drop l.place l.values)) in
    (l.self ≡ flat_map (λ f. 44 ∷ f) fields ++ 10 ∷ []) × (list_any needs_quotes fields ≡ false)
