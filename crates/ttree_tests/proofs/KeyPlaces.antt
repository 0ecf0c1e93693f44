-- Where a key stands to a range of keys.
use Rattle.std.proofs.Common.{◌<◌, ◌≤◌, ℕ, List, cond, ltb, sym, arith, Ordering}
use Rattle.std.specs.declared.cmp.Ordering.TheVariants.{Less, Equal, Greater}
use Rattle.std.specs.Ordering.{nat_cmp, ordering_index}
use Rattle.std.proofs.lemmas.Cmp.{ranked}
use Rattle.std.proofs.lemmas.Grind.{common_steps}
use Rattle.part_raw.specs.declared.tuple_ref.TupleRef.{TupleRef}
use Rattle.mm_index.specs.Order.{IsRising}
use Rattle.mm_index.specs.Range.{NeverFalls}
use Rattle.mm_index.proofs.Listed.{NeverFalls-from_rising}

abbrev pub key_place : ℕ → ℕ → ℕ → Ordering
key_place low high key = cond (ltb key low) Less (cond (ltb high key) Greater Equal)

key_place-rises : (low high a b : ℕ) → a < b → ordering_index (key_place low high a) ≤ ordering_index (key_place low high b)
key_place-rises low high a b l = grind (arith, common_steps)

pub NeverFalls-keys : (low high : ℕ) (xs : List TupleRef) → IsRising (λ a b. nat_cmp a.number b.number) xs → NeverFalls (λ r. key_place low high r.number) xs
NeverFalls-keys low high xs =
    NeverFalls-from_rising (λ (a b : TupleRef). nat_cmp a.number b.number) (λ (r : TupleRef). key_place low high r.number) xs
    (λ p q _ _ h. key_place-rises low high p.number q.number (ranked p.number q.number Less (sym h)))
