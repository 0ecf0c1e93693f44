-- Rows that are hidden one after another, or shown again.
use Rattle.std.proofs.Common.{◌≡◌, ◌≢◌, ℕ, ◌+◌, ◌<◌, ◌≤◌, ◌++◌, true, false, List, [], ◌∷◌, Option, Some, None, IsSome, is_some, refl, sym, ap, ◌∙◌, subst, arith, length, take, drop, get_or, zero-add, inl, inr}
use Rattle.std.specs.List.{All, AllPairs, Contains}
use Rattle.std.specs.Option.{option_and_then, unwrap_or}
use Rattle.std.specs.FinMap.{get, insert, len, remove}
use Rattle.std.proofs.lemmas.Bool.{false≢true}
use Rattle.std.proofs.lemmas.List.{take-append-drop, take_more}
use Rattle.std.proofs.lemmas.List.Elements.{All-contains, Contains-append_left, Contains-get_or, Contains-push, Contains-push_cases}
use Rattle.std.proofs.lemmas.List.Sums.{count_by-le-length}
use Rattle.part_raw.specs.Store.{Tuples}
use Rattle.part_raw.specs.declared.tuple_ref.TupleRef.{TupleRef}
use Rattle.part_raw.proofs.Lookup.{same_or_other}
use Rattle.part_raw.proofs.Tuples.{get-insert_other, get-insert_same, get-remove_other, get-remove_same, len-insert_fresh, len-insert_held}
use Rattle.mm_relation.specs.Changes.{IsHidden, IsShown}
use Rattle.mm_relation.specs.Order.{KeysDiffer}
use Rattle.mm_relation.specs.Rows.{Row, referrers_at}
use Rattle.mm_relation.specs.State.{HasKey, IsKept, RelationState, linked_keys}
use Rattle.mm_relation.proofs.Setting.{not_before}
use Rattle.mm_catalog.specs.Counted.{AreCountedBy, naming, none}
use Rattle.mm_catalog.specs.Deleted.{AreRemoved, IsGone}
use Rattle.mm_catalog.specs.Hidden.{AreHidden, AreLinked, AreShown, IsMore}
use Rattle.mm_catalog.specs.Linked.{is_link_to, relation_links, row_links}
use Rattle.mm_catalog.specs.Outline.{is_among, with_those, without}
use Rattle.mm_catalog.specs.Recounted.{AreRecounted}
use Rattle.mm_catalog.proofs.Bounded.{length-row_links}
use Rattle.mm_catalog.proofs.Counted.{counted_none, up_then}
use Rattle.mm_catalog.proofs.Counting.{links_inserted}
use Rattle.mm_catalog.proofs.HiddenRows.{with_among, with_other}
use Rattle.mm_catalog.proofs.Outlined.{among_contains, gone_without, none_among, still_without, without_is}
use Rattle.mm_catalog.proofs.Removing.{held_from_key, recounted_keys, still_there}

-- what is among the first is among all
pub among_all : (refs : List TupleRef) (i : ℕ) (q : TupleRef) → Contains (take i refs) q → Contains refs q
among_all refs i q there = subst (λ xs. Contains xs q) (take-append-drop i refs) (Contains-append_left (take i refs) (drop i refs) q there)

-- the keys that are read beside relations whose numbers of referrers changed
pub keys_once : (s t : RelationState) (old new : List RelationState) → t.targets ≡ s.targets → AreRecounted old new → linked_keys t.targets new ≡ linked_keys s.targets old
keys_once s t old new same h = recounted_keys t.targets old new h ∙ ap (λ targets. linked_keys targets old) same

module _ (refs : List TupleRef) (i : ℕ) (r : TupleRef) (within : i < length refs) (is : get_or refs i r ≡ r) (once : AllPairs (λ q x. q ≢ x) refs) where
  next : take (i + 1) refs ≡ take i refs ++ r ∷ []
  next = take_more refs i r within ∙ ap (λ q. take i refs ++ q ∷ []) is

  pub not_yet : Contains (take i refs) r → ⊥
  not_yet there = not_before refs i r within once (subst (Contains (take i refs)) (sym is) there)

  pub is_one : Contains refs r
  is_one = subst (Contains refs) is (Contains-get_or refs i r within)

  -- each reference so far is one of those before, or the next
  cases : (P : TupleRef → Type 0) → ((q : TupleRef) → q ≢ r → Contains (take i refs) q → P q) → P r → (q : TupleRef) → Contains (take (i + 1) refs) q → P q
  cases P before here q there = elim (same_or_other q r) [
    | inl same ↦ subst P (sym same) here
    | inr other ↦ elim (Contains-push_cases (take i refs) r q (subst (λ xs. Contains xs q) next there)) [
      | inl earlier ↦ before q other earlier
      | inr same ↦ absurd (other (sym same))
    ]
  ]

  -- no other is
  pub others_than : (q : TupleRef) → (Contains (take (i + 1) refs) q → ⊥) → (q ≢ r) × (Contains (take i refs) q → ⊥)
  others_than q other = (
    λ same. other (subst (λ xs. Contains xs q) (sym next) (subst (Contains (take i refs ++ r ∷ [])) (sym same) (Contains-push (take i refs) r))),
    λ there. other (subst (λ xs. Contains xs q) (sym next) (Contains-append_left (take i refs) (r ∷ []) q there)),
  )

  -- ---- a row more is hidden

  pub hidden_more : (s t u : RelationState) (row : Row) → get t.rows r ≡ Some row → IsHidden t u r row → AreRemoved s t (take i refs) → AreHidden s t (take i refs) → AreHidden s u (take (i + 1) refs)
  hidden_more s t u row at hidden removed so_far =
      let other : (q : TupleRef) → q ≢ r → get u.hidden q ≡ get t.hidden q = λ q ne. ap (λ rows. get rows q) hidden.keeps.hidden ∙ get-insert_other t.hidden r q row ne in
      record {
        hidden = cases (λ q. get u.hidden q ≡ get s.rows q) (λ q ne there. other q ne ∙ so_far.hidden q there)
            (ap (λ rows. get rows r) hidden.keeps.hidden ∙ get-insert_same t.hidden r row ∙ sym at ∙ still_there s t refs i r within is once removed);
        others = λ q no. let parts = others_than q no in other q parts.0 ∙ so_far.others q parts.1;
      }

  -- ---- a row more is shown

  module _ (s t u : RelationState) (row : Row) (at : get t.hidden r ≡ Some row) (shown : IsShown t u r row) (apart : get s.rows r ≡ None) (so_far : AreShown s t (take i refs)) where
    pub shown_one : IsMore t u r row
    shown_one = record {
      free = so_far.others r not_yet ∙ apart;
      rows = shown.rows;
      referrers = shown.referrers;
      keeps = record { schema = shown.keeps.schema; targets = shown.keeps.targets; declared = shown.keeps.declared; counted = shown.keeps.counted };
    }

    pub shown_more : AreShown s u (take (i + 1) refs)
    shown_more =
        let rows : (q : TupleRef) → q ≢ r → get u.rows q ≡ get t.rows q = λ q ne. ap (λ all. get all q) shown.rows ∙ get-insert_other t.rows r q row ne in
        let hidden : (q : TupleRef) → q ≢ r → get u.hidden q ≡ get t.hidden q = λ q ne. ap (λ all. get all q) shown.keeps.hidden ∙ get-remove_other t.hidden r q ne in
        let numbers : (q : TupleRef) → q ≢ r → referrers_at u.referrers q ≡ referrers_at t.referrers q =
        λ q ne. ap (λ (all : Tuples ℕ). referrers_at all q) shown.referrers ∙ ap (λ (o : Option ℕ). unwrap_or o 0) (get-insert_other t.referrers r q 0 ne) in
        record {
          shown = cases (λ q. get u.rows q ≡ get s.hidden q) (λ q ne there. rows q ne ∙ so_far.shown q there)
              (ap (λ all. get all r) shown.rows ∙ get-insert_same t.rows r row ∙ sym at ∙ so_far.hidden r not_yet);
          apart = cases (λ q. get s.rows q ≡ None) (λ q ne there. so_far.apart q there) apart;
          gone = cases (λ q. get u.hidden q ≡ None) (λ q ne there. hidden q ne ∙ so_far.gone q there)
              (ap (λ all. get all r) shown.keeps.hidden ∙ get-remove_same t.hidden r);
          free = cases (λ q. referrers_at u.referrers q ≡ 0) (λ q ne there. numbers q ne ∙ so_far.free q there)
              (ap (λ (all : Tuples ℕ). referrers_at all r) shown.referrers ∙ ap (λ (o : Option ℕ). unwrap_or o 0) (get-insert_same t.referrers r 0));
          others = λ q no. let parts = others_than q no in rows q parts.0 ∙ so_far.others q parts.1;
          hidden = λ q no. let parts = others_than q no in hidden q parts.0 ∙ so_far.hidden q parts.1;
          counts = λ q no. let parts = others_than q no in numbers q parts.0 ∙ so_far.counts q parts.1;
          keeps = record {
            schema = shown.keeps.schema ∙ so_far.keeps.schema;
            targets = shown.keeps.targets ∙ so_far.keeps.targets;
            declared = shown.keeps.declared ∙ so_far.keeps.declared;
            counted = shown.keeps.counted ∙ so_far.keeps.counted;
          };
        }

  -- its key is new, since no two rows of all have one
  pub new_key : (s t : RelationState) (row : Row) → AreShown s t (take i refs) → All (λ q. IsSome (get s.hidden q)) refs → ((q : TupleRef) → Contains refs q → get s.rows q ≡ None) → KeysDiffer (with_those refs s.hidden s.rows)
      → get s.hidden r ≡ Some row → HasKey t.rows row.key → ⊥
  new_key s t row so_far hidden apart keys at has =
      let all = with_those refs s.hidden s.rows in
      let held = held_from_key t.rows has.0 (ap is_some has.1) in
      let one : get all has.0 ≡ get t.rows has.0 = elim (is_among (take i refs) has.0) as (λ b. is_among (take i refs) has.0 ≡ b → get all has.0 ≡ get t.rows has.0) [
        | true ↦ λ e.
            let there = among_contains (take i refs) has.0 e in
            let within' = among_all refs i has.0 there in
            with_among s.hidden s.rows refs has.0 within' (All-contains (λ q. IsSome (get s.hidden q)) refs has.0 hidden within') ∙ sym (so_far.shown has.0 there)
        | false ↦ λ e.
            let still = so_far.others has.0 (none_among (take i refs) has.0 e) in
            with_other s.hidden s.rows refs has.0 (λ there. false≢true (sym (ap is_some (still ∙ apart has.0 there)) ∙ held)) ∙ sym still
      ] refl in
      let other : get all r ≡ Some row = with_among s.hidden s.rows refs r is_one (ap is_some at) ∙ at in
      let same : has.0 ≡ r =
      keys.apart has.0 r (ap is_some one ∙ held) (ap is_some other)
      (ap (option_and_then (λ (x : Row). Some x.key)) one ∙ has.1 ∙ sym (ap (option_and_then (λ (x : Row). Some x.key)) other)) in
      false≢true (sym (ap is_some (ap (get t.rows) same ∙ so_far.others r not_yet ∙ apart r is_one)) ∙ held)

-- ---- a hidden row more is dropped

pub dropped_none : (rows : Tuples Row) → without [] rows ≡ rows
dropped_none rows = without_is [] rows rows (λ q there. absurd (omega (arith, there.1))) (λ q no. refl)

pub dropped_more : (rows : Tuples Row) (refs : List TupleRef) (i : ℕ) (r : TupleRef) → i < length refs → get_or refs i r ≡ r → AllPairs (λ q x. q ≢ x) refs → remove (without (take i refs) rows) r ≡ without (take (i + 1) refs) rows
dropped_more rows refs i r within is once =
    sym (without_is (take (i + 1) refs) rows (remove (without (take i refs) rows) r)
    (cases refs i r within is once (λ q. get (remove (without (take i refs) rows) r) q ≡ None)
    (λ q ne there. get-remove_other (without (take i refs) rows) r q ne ∙ gone_without (take i refs) rows q there)
    (get-remove_same (without (take i refs) rows) r))
    (λ q no.
    let parts = others_than refs i r within is once q no in
    get-remove_other (without (take i refs) rows) r q parts.0 ∙ still_without (take i refs) rows q parts.1))

pub hidden_none : (s : RelationState) → AreHidden s s []
hidden_none s = record { hidden = λ r there. absurd (omega (arith, there.1)); others = λ r no. refl }

pub shown_none : (s : RelationState) → AreShown s s []
shown_none s = record {
  shown = λ r there. absurd (omega (arith, there.1));
  apart = λ r there. absurd (omega (arith, there.1));
  gone = λ r there. absurd (omega (arith, there.1));
  free = λ r there. absurd (omega (arith, there.1));
  others = λ r no. refl;
  hidden = λ r no. refl;
  counts = λ r no. refl;
  keeps = record { schema = refl; targets = refl; declared = refl; counted = refl };
}

-- a row that is hidden is gone
pub hidden_gone : (t u : RelationState) (r : TupleRef) (row : Row) → IsHidden t u r row → IsGone t u r
hidden_gone t u r row hidden = record {
  rows = hidden.rows;
  referrers = hidden.referrers;
  keeps = record { schema = hidden.keeps.schema; targets = hidden.keeps.targets; declared = hidden.keeps.declared; counted = hidden.keeps.counted };
}

-- ---- what the links of rows do elsewhere

pub linked_none : (relations : List RelationState) (s : RelationState) → All IsKept relations → AreLinked relations relations s s 0
linked_none relations s kept = record {
  more = none;
  few = λ table r. omega arith;
  counted = counted_none relations kept;
  links = λ table r. zero-add (naming (relation_links s) table r);
}

pub linked_more : (old mid new : List RelationState) (s t u : RelationState) (r : TupleRef) (row : Row) (i : ℕ) → IsKept t → IsKept u → IsMore t u r row → (HasKey t.rows row.key → ⊥) → t.targets ≡ s.targets → AreLinked old mid s t i
    → AreCountedBy mid new (naming (row_links u.targets row)) none → AreLinked old new s u (i + 1)
linked_more old mid new s t u r row i kept now more absent same so_far counted = record {
  more = λ table q. so_far.more table q + naming (row_links t.targets row) table q;
  few = λ table q. omega (arith, so_far.few table q, count_by-le-length (is_link_to table q) (row_links t.targets row), length-row_links t.targets row, ap length same);
  counted = up_then old mid new so_far.more (naming (row_links t.targets row)) _ (λ table q. refl) so_far.counted
      (subst (λ targets. AreCountedBy mid new (naming (row_links targets row)) none) more.keeps.targets counted);
  links = λ table q. omega (arith, so_far.links table q, links_inserted t u kept now r row more absent (is_link_to table q));
}

-- a row more at most
pub len-insert_most : (rows : Tuples Row) (r : TupleRef) (row : Row) → len (insert rows r row) ≤ len rows + 1
len-insert_most rows r row =
    elim (get rows r) as (λ o. get rows r ≡ o → len (insert rows r row) ≤ len rows + 1) [
      | None ↦ λ e. omega (arith, len-insert_fresh rows r row e)
      | Some x ↦ λ e. omega (arith, len-insert_held rows r row (ap is_some e))
    ] refl
