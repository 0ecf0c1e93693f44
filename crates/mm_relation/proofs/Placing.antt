-- Places of one value along a list that rises by a column.
use Rattle.std.proofs.Common.{◌≡◌, ◌≤◌, ℕ, List, Option, Some, None, refl, sym, ap, ◌∙◌, arith, IfSome, inl, inr}
use Rattle.std.specs.Option.{option_cmp}
use Rattle.std.specs.Ordering.{ordering_index, ordering_reverse}
use Rattle.std.specs.declared.cmp.Ordering.{Ordering}
use Rattle.std.specs.declared.cmp.Ordering.TheVariants.{Less, Equal, Greater}
use Rattle.std.specs.Cmp.{IsTotalOrder}
use Rattle.std.specs.Cmp.Lexicographic.{options_total}
use Rattle.common_lemmas.proofs.Orders.{ordering_index_within, then_first}
use Rattle.std.proofs.lemmas.Cmp.{tied_itself}
use Rattle.part_raw.specs.declared.tuple_ref.TupleRef.{TupleRef}
use Rattle.part_raw.specs.Store.{Tuples}
use Rattle.mm_index.specs.Order.{IsRising}
use Rattle.mm_index.specs.Range.{NeverFalls}
use Rattle.mm_index.proofs.Listed.{NeverFalls-from_rising}
use Rattle.plain_tables.specs.declared.value.Value.{Value}
use Rattle.plain_tables.specs.Values.{value_cmp, value_cmp_total}
use Rattle.mm_relation.specs.Rows.{Row}
use Rattle.mm_relation.specs.Reading.{Keys, value_at, key_at}
use Rattle.mm_relation.specs.Order.{column_cmp, option_exact}

module _ {A : Type 0} (cmp : A → A → Ordering) (total : IsTotalOrder cmp) where
  greater_back : (x y : A) → cmp x y ≡ Less → cmp y x ≡ Greater
  greater_back x y e = total.antisymm y x ∙ ap ordering_reverse e

  -- what stands below stands no higher beside a third
  pub rises_beside : (x y s : A) → cmp x y ≡ Less → ordering_index (cmp x s) ≤ ordering_index (cmp y s)
  rises_beside x y s l = elim (cmp y s) as (λ o. cmp y s ≡ o → ordering_index (cmp x s) ≤ ordering_index o) [
    | Less ↦ λ e. rw (total.trans x y s l e) (omega arith)
    | Equal ↦ λ e.
        let back : cmp s x ≡ Greater = sym (total.congr y s x e) ∙ greater_back x y l in
        let below : cmp x s ≡ Less = total.antisymm x s ∙ ap ordering_reverse back in
        rw below (omega arith)
    | Greater ↦ λ e. ordering_index_within (cmp x s)
  ] refl

pub NeverFalls-value : (keys : Keys) (column : ℕ) (tuples : Tuples Row) (sought : Option Value) (xs : List TupleRef) → IsRising (column_cmp keys column tuples) xs → NeverFalls (λ r. option_cmp value_cmp (value_at keys column tuples r) sought) xs
NeverFalls-value keys column tuples sought xs rising =
    let total : IsTotalOrder (option_cmp value_cmp) = options_total value_cmp_total in
    let value : TupleRef → Option Value = value_at keys column tuples in
    let key : TupleRef → Option Value = key_at tuples in
    NeverFalls-from_rising (column_cmp keys column tuples) (λ r. option_cmp value_cmp (value r) sought) xs
    (λ p q _ _ h.
    elim (then_first (option_cmp value_cmp (value p) (value q)) (option_cmp value_cmp (key p) (key q)) h) [
      | inl below ↦ rises_beside (option_cmp value_cmp) total (value p) (value q) sought below
      | inr same ↦ rw (total.congr (value p) (value q) sought same) (omega arith)
    ])
    rising

pub option_cmp-self : (x : Option Value) → option_cmp value_cmp x x ≡ Equal
option_cmp-self x = tied_itself (options_total value_cmp_total) x

pub value_found : (F : TupleRef → Option Value) (o : Option TupleRef) (sought : Option Value) → IfSome o (λ r. option_cmp value_cmp (F r) sought ≡ Equal) → IfSome o (λ r. F r ≡ sought)
value_found F (Some r) sought h = option_exact (F r) sought h
value_found F None sought h = tt
