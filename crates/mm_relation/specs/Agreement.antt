-- Keys that agree on the links of a relation's rows serve it alike.
pub use Rattle.mm_relation.specs.Order.{OrdersAlike}
use Rattle.std.specs.Prelude.{◌≡◌, ℕ, List, Option, IsSome, map}
use Rattle.mm_index.specs.Bag.{IsSameBag}
use Rattle.part_raw.specs.declared.tuple_ref.TupleRef.{TupleRef}
use Rattle.part_raw.specs.Store.{Tuples}
use Rattle.std.proofs.Common.{sym, subst}
use Rattle.std.specs.Option.{option_and_then}
use Rattle.mm_relation.specs.Rows.{Row}
use Rattle.mm_relation.specs.Reading.{Keys, AgreeOnLinks, row_value, value_at, hash_of_value}
use Rattle.mm_relation.specs.Order.{value_at-agree, orders_alike}
use Rattle.mm_relation.specs.State.{RelationState, tree_list, IsCurrent, HashServes}

-- Law: what is current under the keys that links lead to is current under any others that agree on the links of the rows.
abbrev pub StaysCurrent : Type 0
StaysCurrent = (keys others : Keys) (s : RelationState) → AgreeOnLinks s.rows keys others → IsCurrent keys s → IsCurrent others s

-- Law: each row has the same value in each column.
abbrev pub ReadsAlike : Type 0
ReadsAlike = (keys others : Keys) (rows : Tuples Row) (column : ℕ) (r : TupleRef) → AgreeOnLinks rows keys others → value_at others column rows r ≡ value_at keys column rows r

pub reads_alike : ReadsAlike
reads_alike keys others rows column r agree = value_at-agree keys others column rows agree r

-- Law: a hash that serves references serves them still.
abbrev pub HashesAlike : Type 0
HashesAlike = (keys others : Keys) (rows : Tuples Row) (refs : List TupleRef) (h : ℕ × List (ℕ × TupleRef)) → AgreeOnLinks rows keys others → HashServes keys rows refs h → HashServes others rows refs h

pub hashed_alike : HashesAlike
hashed_alike keys others rows refs h agree hashed =
    let P : (TupleRef → Option _) → Type 0 = λ f. IsSameBag h.1 (map (λ r. (hash_of_value (f r), r)) refs) in
    let same : value_at keys h.0 rows ≡ value_at others h.0 rows = λ i r. sym (value_at-agree keys others h.0 rows agree r) i in
    subst P same hashed

pub stays_current : StaysCurrent
stays_current keys others s agree current = record {
  readable = λ r t e c inside.
      let same = value_at-agree keys others c s.rows agree r in
      subst IsSome (sym (subst (λ o. option_and_then (row_value others c) o ≡ option_and_then (row_value keys c) o) e same)) (current.readable r t e c inside);
  trees = λ k d l. record { bag = (current.trees k d l).bag; rising = orders_alike keys others _ s.rows _ agree (current.trees k d l).rising };
  hashes = λ k d l. hashed_alike keys others s.rows (tree_list s.by_key) _ agree (current.hashes k d l);
}
