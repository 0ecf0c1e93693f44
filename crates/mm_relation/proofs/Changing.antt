-- A row's coming and going, under the key's tree and all declared indexes.
use Rattle.std.proofs.Common.{◌≡◌, ◌<◌, ◌^◌, ℕ, List, ◌∷◌, None, IsSome, sym, ap, ◌∙◌, arith, subst, inl, inr}
use Rattle.std.specs.List.{Contains}
use Rattle.std.specs.Option.{option_and_then}
use Rattle.std.proofs.lemmas.List.Elements.{All-contains}
use Rattle.std.specs.FinMap.{get, insert, remove, len}
use Rattle.common_lemmas.proofs.Elements.{Contains-cons_cases}
use Rattle.part_raw.specs.declared.tuple_ref.TupleRef.{TupleRef}
use Rattle.part_raw.specs.Store.{Tuples}
use Rattle.part_raw.proofs.Tuples.{get-insert_same, get-remove_other}
use Rattle.mm_index.specs.Bag.{IsSameBag}
use Rattle.mm_index.proofs.Bags.{IsSameBag-sym}
use Rattle.mm_relation.specs.Rows.{Row}
use Rattle.mm_relation.specs.Reading.{Keys, value_at, row_value}
use Rattle.mm_relation.specs.Order.{KeysDiffer}
use Rattle.mm_relation.specs.State.{IsKeyed}
use Rattle.mm_relation.specs.Indexes.{Indexes, Await, Gain, Have, Lose, Serve, HaveRoom, Cover, CanRead, CanReadRow, IsColumn}
use Rattle.mm_relation.proofs.KeyOrder.{unlisted, same_elsewhere, not_taken}
use Rattle.mm_relation.proofs.Serving.{all_agree, all_gain, all_lose, all_bag, all_await, all_have}

module _ (keys : Keys) (rows : Tuples Row) (list : List TupleRef) (all : Indexes) (keyed : IsKeyed rows list) (read : CanRead keys rows all) (serves : Serve keys rows list all) where
  held_in_list : (q : TupleRef) → Contains list q → IsSome (get rows q)
  held_in_list q h = All-contains (λ x. IsSome (get rows x)) list q keyed.lists.held h

  -- a row comes in under a reference that was free
  module _ (r : TupleRef) (t : Row) (fresh : get rows r ≡ None) (row_read : CanReadRow keys t all) where
    value_elsewhere : (c : ℕ) (q : TupleRef) → Contains list q → value_at keys c (insert rows r t) q ≡ value_at keys c rows q
    value_elsewhere c q h = ap (option_and_then (row_value keys c)) (same_elsewhere rows list r t keyed fresh q h)

    served_beside : Serve keys (insert rows r t) list all
    served_beside = all_agree keys rows (insert rows r t) list value_elsewhere all serves

    readable_with : (c : ℕ) (q : TupleRef) → IsColumn all c → Contains (r ∷ list) q → IsSome (value_at keys c (insert rows r t) q)
    readable_with c q column h = elim (Contains-cons_cases r list q h) [
      | inl same ↦ subst IsSome (sym (ap (value_at keys c (insert rows r t)) same ∙ ap (option_and_then (row_value keys c)) (get-insert_same rows r t))) (row_read c column)
      | inr there ↦ subst IsSome (sym (value_elsewhere c q there)) (read c q column (held_in_list q there))
    ]

    pub awaits : len rows < 2 ^ 32 → KeysDiffer (insert rows r t) → HaveRoom 1 all → Cover r all → Await keys (insert rows r t) r all
    awaits few differ room covers =
        all_await keys (insert rows r t) differ list all all served_beside r (unlisted rows list r t keyed fresh) (omega (arith, keyed.lists.count, few)) room covers readable_with

    pub served_with : (now : List TupleRef) (new : Indexes) → KeysDiffer (insert rows r t) → IsSameBag now (r ∷ list) → Await keys (insert rows r t) r all → Gain keys (insert rows r t) r all new → Serve keys (insert rows r t) now new
    served_with now new differ bag await gains =
        all_bag keys (insert rows r t) differ (r ∷ list) new new (all_gain keys (insert rows r t) differ list all new served_beside r await gains) now (IsSameBag-sym bag)

  -- a row goes out
  module _ (r : TupleRef) (held : IsSome (get rows r)) where
    pub have : Have keys rows r all
    have = all_have keys rows keyed.keys_differ list all all serves r (keyed.lists.listed r held) (λ c q column h. read c q column (held_in_list q h))

    pub served_without : (rest : List TupleRef) (new : Indexes) → IsSameBag list (r ∷ rest) → IsKeyed (remove rows r) rest → Lose keys rows r all new → Serve keys (remove rows r) rest new
    served_without rest new bag left loses =
        all_agree keys rows (remove rows r) rest
        (λ c q h. ap (option_and_then (row_value keys c)) (get-remove_other rows r q (not_taken rows list r keyed held q (All-contains (λ x. IsSome (get (remove rows r) x)) rest q left.lists.held h))))
        new (all_lose keys rows keyed.keys_differ list all new serves r rest bag have loses)
