-- What is known of the rows in the order of their keys as they come one by one, and of a hash that they come into.
use Rattle.std.proofs.Common.{◌≡◌, ◌≢◌, ◌∙◌, ◌<◌, ◌≤◌, ◌+◌, ◌^◌, ℕ, List, [], ◌∷◌, ◌++◌, IsSome, refl, sym, ap, arith, subst, length, map}
use Rattle.std.specs.List.{AllPairs, Contains}
use Rattle.std.proofs.lemmas.List.{length-append, length-map, get_or_append_left, get_or_at}
use Rattle.std.proofs.lemmas.List.Elements.{All-contains, Contains-append_right}
use Rattle.std.specs.FinMap.{get, len}
use Rattle.part_raw.specs.declared.tuple_ref.TupleRef.{TupleRef}
use Rattle.part_raw.specs.Store.{Tuples}
use Rattle.mm_index.specs.Bag.{IsSameBag}
use Rattle.mm_index.proofs.Bags.{IsSameBag-sym, IsSameBag-trans, IsSameBag-cons, IsSameBag-push, length-same_bag}
use Rattle.mm_relation.specs.Rows.{Row}
use Rattle.mm_relation.specs.Reading.{Keys, hash_at}
use Rattle.mm_relation.specs.State.{IsKeyed, HashServes}
use Rattle.mm_relation.proofs.Listings.{keyed_listing}
use Rattle.mm_relation.proofs.Serving.{hash_serves_bag, from_entries}

module _ (rows : Tuples Row) (list came rest : List TupleRef) (r : TupleRef) (keyed : IsKeyed rows list) (split : list ≡ came ++ r ∷ rest) where
  pub next_held : IsSome (get rows r)
  next_held = All-contains (λ q. IsSome (get rows q)) list r keyed.lists.held (subst (λ xs. Contains xs r) (sym split) (Contains-append_right came (r ∷ rest) r (0, omega arith, refl)))

  came_few : len rows ≤ 16777216 → length came < 2 ^ 32
  came_few few =
      let all : length list ≡ length (came ++ r ∷ rest) = ap length split in
      let parts : length (came ++ r ∷ rest) ≡ length came + length (r ∷ rest) = length-append came (r ∷ rest) in
      omega (arith, keyed.lists.count, few)

  -- a hash of those that came holds few entries
  pub entries_few : (keys : Keys) (column : ℕ) (entries : List (ℕ × TupleRef)) → len rows ≤ 16777216 → HashServes keys rows came (column, entries) → length entries < 2 ^ 32
  entries_few keys column entries few serves =
      let entry : TupleRef → ℕ × TupleRef = λ q. (hash_at keys column rows q, q) in
      let same : length entries ≡ length (map entry came) = length-same_bag entries (map entry came) serves in
      let mapped : length (map entry came) ≡ length came = length-map came entry in
      omega (arith, came_few few)

  not_come : Contains came r → ⊥
  not_come there =
      let once : AllPairs (λ a b. a ≢ b) (came ++ r ∷ rest) = subst (λ xs. AllPairs (λ a b. a ≢ b) xs) split (keyed_listing rows list keyed).distinct in
      let inside : length came < length (came ++ r ∷ rest) = omega (arith, length-append came (r ∷ rest)) in
      once there.0 (length came) r there.1 inside (get_or_append_left came (r ∷ rest) r there.0 there.1 ∙ there.2 ∙ sym (get_or_at came r rest r (length came) refl))

  -- a hash of those that came has no entry of it
  pub not_entered : (keys : Keys) (column : ℕ) (entries : List (ℕ × TupleRef)) → HashServes keys rows came (column, entries) → (hash : ℕ) → Contains entries (hash, r) → ⊥
  not_entered keys column entries serves hash there = not_come (from_entries keys rows came column entries hash r serves there)

-- one row more is served
pub hash_serves_next : (keys : Keys) (rows : Tuples Row) (column : ℕ) (came : List TupleRef) (r : TupleRef) (old new : List (ℕ × TupleRef)) → IsSameBag new ((hash_at keys column rows r, r) ∷ old) → HashServes keys rows came (column, old) → HashServes keys rows (came ++ r ∷ []) (column, new)
hash_serves_next keys rows column came r old new inserted serves =
    hash_serves_bag keys rows (r ∷ came) (came ++ r ∷ []) (column, new) (IsSameBag-sym (IsSameBag-push came r)) (IsSameBag-trans inserted (IsSameBag-cons (hash_at keys column rows r, r) serves))
