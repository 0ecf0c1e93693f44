-- The tree of the key lists each row once.
use Rattle.std.proofs.Common.{◌≡◌, ◌≢◌, List, sym, ap, ◌∙◌, ◌++◌, ◌∷◌, arith, length, subst, get_or}
use Rattle.std.specs.List.{AllPairs, Contains}
use Rattle.std.proofs.lemmas.List.Elements.{Contains-append_right}
use Rattle.std.specs.Cmp.{IsTotalOrder}
use Rattle.std.specs.Ordering.{ordering_reverse}
use Rattle.std.specs.declared.cmp.Ordering.{Ordering}
use Rattle.std.specs.declared.cmp.Ordering.TheVariants.{Less, Greater}
use Rattle.part_raw.specs.declared.tuple_ref.TupleRef.{TupleRef}
use Rattle.part_raw.specs.Store.{Tuples}
use Rattle.mm_index.specs.Listing.{IsListing}
use Rattle.mm_index.specs.Order.{IsRising}
use Rattle.mm_relation.specs.Rows.{Row}
use Rattle.mm_relation.specs.Order.{column_cmp, column_cmp_total}
use Rattle.mm_relation.specs.State.{IsKeyed, no_keys}

-- what a walk gives next is among all that it goes over
pub next_listed : {A : Type 0} (ys rest more : List A) (x : A) → rest ≡ x ∷ more → Contains (ys ++ rest) x
next_listed ys rest more x steps = Contains-append_right ys rest x (0, omega (arith, ap length steps), ap (λ xs. get_or xs 0 x) steps)

-- a list that rises has each element once
pub rising_apart : {A : Type 0} (cmp : A → A → Ordering) → IsTotalOrder cmp → (xs : List A) → IsRising cmp xs → AllPairs (λ a b. a ≢ b) xs
rising_apart {A} cmp total xs rising i j d below within e =
    let x = get_or xs i d in
    let less : cmp x x ≡ Less = subst (λ (y : A). cmp x y ≡ Less) (sym e) (rising i j d below within) in
    let more : Less ≡ Greater = sym less ∙ total.antisymm x x ∙ ap ordering_reverse less in
    absurd (cc)

-- the rows in the order of their keys are a listing of the store
pub keyed_listing : (rows : Tuples Row) (list : List TupleRef) → IsKeyed rows list → IsListing rows list
keyed_listing rows list keyed = record {
  distinct = rising_apart (column_cmp no_keys 0 rows) (column_cmp_total no_keys 0 rows) list keyed.rising;
  held = keyed.lists.held;
  listed = keyed.lists.listed;
}
