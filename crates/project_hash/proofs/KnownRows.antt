-- Rows of a table that are known by the hashes of what is shown of them.
use Rattle.std.proofs.Common.{◌≡◌, ◌==◌, ℕ, true, false, cond, List, [], ◌∷◌, ◌++◌, IsSome, map, get_or, ap, ◌∙◌, sym, subst, arith}
use Rattle.std.specs.List.{All, Contains, filter, list_any, IsDistinct}
use Rattle.std.specs.FinMap as finite
use Rattle.std.specs.Ordering.{is_eq}
use Rattle.std.specs.Cmp.{IsEquivalence, eq_by_cmp_equiv}
use Rattle.std.proofs.lemmas.Cmp.{on_total, tied_itself}
use Rattle.std.proofs.lemmas.List.{map-append}
use Rattle.std.proofs.lemmas.List.Elements.{All-nil, All-push, All-map, All-contains, All-contains_itself}
use Rattle.std.proofs.lemmas.List.Folds.{list_any_at, list_any_none}
use Rattle.std.proofs.lemmas.Map.Keys.{IsDistinct-push, IsDistinct-from_apart}
use Rattle.std.proofs.lemmas.Map.Views.{tells_apart}
use Rattle.common_lemmas.proofs.Elements.{Contains-filter, Contains-from_filter, Contains-map}
use Rattle.std.proofs.lemmas.Bool.{eq-eqb}
use Rattle.indexmap.specs.IndexSet.{insert_key}
use Rattle.part_raw.specs.declared.tuple_ref.TupleRef.{TupleRef}
use Rattle.mm_index.specs.Bag.{IsSameBag, with_hash}
use Rattle.mm_index.proofs.Bags.{IsSameBag-refl, IsSameBag-trans, IsSameBag-sym, IsSameBag-cons, IsSameBag-push, IsSameBag-from_same, IsSameBag-with_hash}
use Rattle.mm_index.proofs.Refs.{Contains-same_refs}
use Rattle.std.proofs.lemmas.Bool.{false_from_ne_true}
use Rattle.temp_list.proofs.Searches.{with_hash-map}
use Rattle.project_hash.specs.Alike.{values_cmp-exact}
use Rattle.project_hash.specs.Distinct.{values_cmp, values_cmp_total}
use Rattle.project_hash.specs.Hashes.{hash_of_values}
use Rattle.project_hash.specs.Known.{AreKnown, hashed, row_states}
use Rattle.project_hash.specs.Shown.{ShownState, alike}
use Rattle.project_hash.specs.Table.{TableState, row_state}

-- rows that show the same are alike
alike_same : (x y : ShownState) → x.values ≡ y.values → alike x y ≡ true
alike_same x y same = ap is_eq (ap (values_cmp x.values) (sym same) ∙ tied_itself values_cmp_total x.values)

alike_laws : IsEquivalence alike
alike_laws = eq_by_cmp_equiv (on_total (λ (r : ShownState). r.values) values_cmp_total)

pub alike_flips : (x y : ShownState) → alike x y ≡ alike y x
alike_flips = alike_laws.symm

-- a row that is put in among rows of which none shows the same, or one does
pub key_more : (rows : List ShownState) (row : ShownState) → list_any (alike row) rows ≡ false → insert_key alike rows row ≡ rows ++ row ∷ []
key_more rows row none = ap (λ b. cond b rows (rows ++ row ∷ [])) none

pub key_there : (rows : List ShownState) (row : ShownState) → list_any (alike row) rows ≡ true → insert_key alike rows row ≡ rows
key_there rows row some = ap (λ b. cond b rows (rows ++ row ∷ [])) some

pub none_known : (t : TableState) → AreKnown t [] []
none_known t = record {
  held = All-nil (λ r. IsSome (finite.get t.relation.rows r));
  apart = IsDistinct-from_apart alike [] (λ i j d below within. absurd (omega (arith, within)));
  found = IsSameBag-refl [];
}

module _ (t : TableState) (rows : List TupleRef) (by_hash : List (ℕ × TupleRef)) (known : AreKnown t rows by_hash) where
  abbrev hash_of_row : TupleRef → ℕ
  hash_of_row r = hash_of_values (row_state t r).values

  module _ (hash : ℕ) (chain : List TupleRef) (bag : IsSameBag chain (with_hash hash by_hash)) where
    -- the chain of a hash has those that are known and have this hash
    listed : IsSameBag chain (filter (λ r. hash_of_row r == hash) rows)
    listed = IsSameBag-trans bag (IsSameBag-trans (IsSameBag-with_hash hash known.found) (IsSameBag-from_same (with_hash hash (map (hashed t) rows)) (filter (λ r. hash_of_row r == hash) rows) (with_hash-map hash_of_row hash rows)))

    chain_known : (r : TupleRef) → Contains chain r → Contains rows r
    chain_known r there = (Contains-from_filter (λ q. hash_of_row q == hash) rows r (Contains-same_refs chain (filter (λ q. hash_of_row q == hash) rows) r listed there)).0

    chain_has : (r : TupleRef) → Contains rows r → hash_of_row r ≡ hash → Contains chain r
    chain_has r there is = Contains-same_refs (filter (λ q. hash_of_row q == hash) rows) chain r (IsSameBag-sym listed) (Contains-filter (λ q. hash_of_row q == hash) rows r there (eq-eqb (hash_of_row r) hash is))

    pub chain_held : (r : TupleRef) → Contains chain r → IsSome (finite.get t.relation.rows r)
    chain_held r there = All-contains (λ q. IsSome (finite.get t.relation.rows q)) rows r known.held (chain_known r there)

    -- a row is known where one of the chain shows the same
    pub some_alike : (row : ShownState) (r : TupleRef) → Contains chain r → row.values ≡ (row_state t r).values → list_any (alike row) (row_states t rows) ≡ true
    some_alike row r there same =
        let among = Contains-map (row_state t) rows r (chain_known r there) in
        list_any_at (alike row) (row_states t rows) among.0 (row_state t r) among.1 (alike_same row (get_or (row_states t rows) among.0 (row_state t r)) (same ∙ ap (λ (x : ShownState). x.values) (sym among.2)))

    -- and else it is not
    pub none_alike : (row : ShownState) → hash ≡ hash_of_values row.values → All (λ r. row.values ≡ (row_state t r).values → ⊥) chain → list_any (alike row) (row_states t rows) ≡ false
    none_alike row is others =
        list_any_none (alike row) (row_states t rows) (All-map (λ x. alike row x ≡ false) (row_state t) rows (λ k d l.
        let r : TupleRef = get_or rows k d in
        false_from_ne_true (alike row (row_state t r)) (λ e.
        let same : row.values ≡ (row_state t r).values = tells_apart values_cmp-exact row.values (row_state t r).values e in
        All-contains (λ q. row.values ≡ (row_state t q).values → ⊥) chain r others (chain_has r (All-contains_itself rows k d l) (ap hash_of_values (sym same) ∙ sym is)) same)))

  -- one row more
  module _ (r : TupleRef) (held : IsSome (finite.get t.relation.rows r)) (apart : list_any (alike (row_state t r)) (row_states t rows) ≡ false) (more : List (ℕ × TupleRef)) (bag : IsSameBag more (hashed t r ∷ by_hash)) where
    pub known_more : AreKnown t (rows ++ r ∷ []) more
    known_more = record {
      held = All-push (λ q. IsSome (finite.get t.relation.rows q)) rows r known.held held;
      apart = subst (IsDistinct alike) (sym (map-append (row_state t) rows (r ∷ []))) (IsDistinct-push alike_laws (row_states t rows) (row_state t r) known.apart apart);
      found = IsSameBag-trans bag (IsSameBag-trans (IsSameBag-cons (hashed t r) known.found)
          (IsSameBag-trans (IsSameBag-sym (IsSameBag-push (map (hashed t) rows) (hashed t r)))
          (IsSameBag-from_same (map (hashed t) rows ++ hashed t r ∷ []) (map (hashed t) (rows ++ r ∷ [])) (sym (map-append (hashed t) rows (r ∷ []))))));
    }
