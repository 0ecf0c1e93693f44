-- The list that a select makes.
use Rattle.std.proofs.Common.{◌≡◌, ℕ, zero, suc, ◌<◌, List, [], ◌∷◌, Some, IsSome, length, map, get_or, refl, sym, subst}
use Rattle.std.specs.Prelude.{slice_get}
use Rattle.std.specs.List.{All}
use Rattle.std.specs.FinMap as finite
use Rattle.std.proofs.lemmas.List.Elements.{All-nil, All-cons, All-map}
use Rattle.std.proofs.lemmas.Option.{slice_get_within, same_Some}
use Rattle.part_raw.specs.declared.tuple_ref.TupleRef.{TupleRef}
use Rattle.plain_tables.specs.declared.resolved.Test.{Test}
use Rattle.mm_index.proofs.Bags.{IsSameBag-map}
use Rattle.mm_relation.specs.State.{RelationState}
use Rattle.temp_list.specs.Lists.{ListState, IsOver, IsRowOver, HasPlace, relation_of}
use Rattle.temp_list.specs.Selecting.{AreSelected, IsSelected}
use Rattle.temp_list.proofs.Lists.{same_at}

-- the list of these rows
abbrev pub listing : ℕ → List TupleRef → ListState
listing table rows = record { sources = table ∷ []; rows = map (λ r. r ∷ []) rows; columns = [] }

module _ (relations : List RelationState) (table : ℕ) (s : RelationState) (lent : slice_get relations table ≡ Some s) where
  row_over_one : (r : TupleRef) → IsSome (finite.get s.rows r) → IsRowOver relations (table ∷ []) (r ∷ [])
  row_over_one r held = record { width = refl; held = at }
    where
      at : (source : ℕ) (t : RelationState) (q : TupleRef) → relation_of relations (table ∷ []) source ≡ Some t → slice_get (r ∷ []) source ≡ Some q → IsSome (finite.get t.rows q)
      at zero t q from is =
          let one : s ≡ t = same_at (slice_get relations table) s t lent from in
          let same : r ≡ q = same_Some r q is in
          subst (λ (u : RelationState). IsSome (finite.get u.rows q)) one (subst (λ (x : TupleRef). IsSome (finite.get s.rows x)) same held)
      at (suc k) t q from is = cc

  listing_over : (rows : List TupleRef) → All (λ r. IsSome (finite.get s.rows r)) rows → IsOver relations (listing table rows)
  listing_over rows held = record {
    sources = All-cons (λ n. n < length relations) table [] (slice_get_within relations table s lent) (All-nil (λ n. n < length relations));
    rows = All-map (IsRowOver relations (table ∷ [])) (λ (r : TupleRef). r ∷ []) rows (λ k d l. row_over_one (get_or rows k d) (held k d l));
    columns = All-nil (HasPlace relations (table ∷ []));
  }

  pub listed : (tests : List Test) (rows : List TupleRef) → AreSelected relations s tests rows → (list : ListState) → list ≡ listing table rows → IsSelected relations table s tests list
  listed tests rows so list is =
      subst (IsSelected relations table s tests) (sym is)
      (record { sources = refl; columns = refl; over = listing_over rows so.held; rows = IsSameBag-map (λ (r : TupleRef). r ∷ []) so.bag })
