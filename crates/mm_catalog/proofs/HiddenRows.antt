-- What becomes of a catalog's outline as rows are hidden, shown again and dropped.
use Rattle.std.proofs.Common.{◌≡◌, ◌≢◌, ℕ, ◌+◌, ◌-◌, Bool, true, false, List, [], ◌∷◌, Some, None, IsSome, is_some, refl, sym, ap, ◌∙◌, subst, arith, length, map, get_or, inl, inr}
use Rattle.std.specs.List.{All, AllPairs, Contains}
use Rattle.std.specs.Option.{option_and_then, option_map_or}
use Rattle.std.specs.FinMap.{get, insert, len}
use Rattle.std.proofs.lemmas.Bool.{false≢true}
use Rattle.std.proofs.lemmas.List.Elements.{All-contains, All-contains_itself, All-head, All-tail}
use Rattle.common_lemmas.proofs.Elements.{Contains-cons, Contains-cons_cases, Contains-head}
use Rattle.common_lemmas.proofs.Pairs.{AllPairs-head, AllPairs-tail}
use Rattle.part_raw.specs.Store.{Tuples}
use Rattle.part_raw.specs.declared.tuple_ref.TupleRef.{TupleRef}
use Rattle.part_raw.proofs.Lookup.{same_or_other}
use Rattle.part_raw.proofs.Tuples.{get-insert_other, get-insert_same, held_tuple, len-insert_fresh, same_tuples}
use Rattle.mm_relation.specs.Rows.{Row}
use Rattle.mm_relation.specs.State.{RelationState}
use Rattle.mm_catalog.specs.State.{CatalogState}
use Rattle.mm_catalog.specs.Deleted.{AllFree}
use Rattle.mm_catalog.specs.Hidden.{AreHiddenAt, AreShownAt}
use Rattle.mm_catalog.specs.Outline.{HasRowsHidden, changed_at, is_among, outline_of, relation_outline, shown, with_shown, with_those, without}
use Rattle.mm_catalog.specs.Recounted.{IsRewritten}
use Rattle.mm_catalog.proofs.Elsewhere.{rewritten_from}
use Rattle.mm_catalog.proofs.Outlined.{among_contains, changed_back, changed_forth, deleted_rewritten, none_among, outline_here, without_is}

-- ---- rows with those that others have under some references

module _ (others rows : Tuples Row) where
  -- one reference more gives a row under itself at most
  with_next : (refs : List TupleRef) (r q : TupleRef) → q ≢ r → get (with_those (r ∷ refs) others rows) q ≡ get (with_those refs others rows) q
  with_next refs r q other =
      elim (get others r) as (λ o. get (option_map_or (λ x. insert (with_those refs others rows) r x) o (with_those refs others rows)) q ≡ get (with_those refs others rows) q) [
        | None ↦ refl
        | Some row ↦ get-insert_other (with_those refs others rows) r q row other
      ]

  pub with_among : (refs : List TupleRef) (q : TupleRef) → Contains refs q → IsSome (get others q) → get (with_those refs others rows) q ≡ get others q
  with_among [] q there some = absurd (omega (arith, there.1))
  with_among (r ∷ refs) q there some =
      let rest = with_those refs others rows in
      elim (same_or_other q r) [
        | inl same ↦
            let row = held_tuple others r (subst (λ x. IsSome (get others x)) same some) in
            ap (λ o. get (option_map_or (λ x. insert rest r x) o rest) q) row.1 ∙ ap (get (insert rest r row.0)) same ∙ get-insert_same rest r row.0
            ∙ sym row.1 ∙ ap (get others) (sym same)
        | inr other ↦
            with_next refs r q other ∙ with_among refs q (elim (Contains-cons_cases r refs q there) [
              | inl same ↦ absurd (other same)
              | inr behind ↦ behind
            ]) some
      ]

  pub with_other : (refs : List TupleRef) (q : TupleRef) → (Contains refs q → ⊥) → get (with_those refs others rows) q ≡ get rows q
  with_other [] q other = refl
  with_other (r ∷ refs) q other =
      with_next refs r q (λ same. other (subst (Contains (r ∷ refs)) (sym same) (Contains-head r refs)))
      ∙ with_other refs q (λ there. other (Contains-cons r refs q there))

  -- rows of which just these are others'
  pub with_is : (refs : List TupleRef) (all : Tuples Row) → All (λ r. IsSome (get others r)) refs → ((q : TupleRef) → Contains refs q → get all q ≡ get others q)
      → ((q : TupleRef) → (Contains refs q → ⊥) → get all q ≡ get rows q) → with_those refs others rows ≡ all
  with_is refs all some come stay = same_tuples (with_those refs others rows) all (λ q. by_member q (is_among refs q) refl)
    where
      by_member : (q : TupleRef) (among : Bool) → is_among refs q ≡ among → get (with_those refs others rows) q ≡ get all q
      by_member q true e =
          let there = among_contains refs q e in
          with_among refs q there (All-contains (λ r. IsSome (get others r)) refs q some there) ∙ sym (come q there)
      by_member q false e = with_other refs q (none_among refs q e) ∙ sym (stay q (none_among refs q e))

  -- they are as many more
  pub with_more : (refs : List TupleRef) → All (λ r. IsSome (get others r)) refs → AllPairs (λ q r. q ≢ r) refs → ((r : TupleRef) → IsSome (get others r) → get rows r ≡ None)
      → len (with_those refs others rows) ≡ len rows + length refs
  with_more [] some once apart = omega arith
  with_more (r ∷ refs) some once apart =
      let rest = with_those refs others rows in
      let here = All-head (λ x. IsSome (get others x)) r refs some in
      let row = held_tuple others r here in
      let fresh : get rest r ≡ None = with_other refs r (λ there. All-contains (λ q. r ≢ q) refs r (AllPairs-head (λ q x. q ≢ x) r refs once) there refl) ∙ apart r here in
      let more : len (with_those (r ∷ refs) others rows) ≡ len rest + 1 = ap (λ o. len (option_map_or (λ x. insert rest r x) o rest)) row.1 ∙ len-insert_fresh rest r row.0 fresh in
      let behind = with_more refs (All-tail (λ x. IsSome (get others x)) r refs some) (AllPairs-tail (λ q x. q ≢ x) r refs once) apart in
      omega (arith, more, behind)

-- ---- rows that were hidden

module _ (c d : CatalogState) (n : ℕ) (refs : List TupleRef) (h : AreHiddenAt c.relations d.relations n refs) (same : d ≡ record c { relations = d.relations })
    (free : AllFree c.relations n refs) (held : All (λ r. IsSome (get h.deleted.before.rows r)) refs) (once : AllPairs (λ q r. q ≢ r) refs) where
  abbrev b : RelationState
  b = h.deleted.before

  abbrev a : RelationState
  a = h.deleted.after

  was_row : (q : TupleRef) → Contains refs q → IsSome (get b.rows q)
  was_row q there = All-contains (λ r. IsSome (get b.rows r)) refs q held there

  now_hidden : (q : TupleRef) → Contains refs q → IsSome (get a.hidden q)
  now_hidden q there = ap is_some (h.hidden.hidden q there) ∙ was_row q there

  all_hidden : All (λ r. IsSome (get a.hidden r)) refs
  all_hidden k d l = now_hidden (get_or refs k d) (All-contains_itself refs k d l)

  not_hidden : (q : TupleRef) → Contains refs q → get b.hidden q ≡ None
  not_hidden q there =
      elim (get b.hidden q) as (λ o. get b.hidden q ≡ o → o ≡ None) [
        | None ↦ λ e. refl
        | Some row ↦ λ e. absurd (false≢true (ap is_some (sym (h.apart q (ap is_some e))) ∙ was_row q there))
      ] refl

  rows_again : with_those refs a.hidden a.rows ≡ b.rows
  rows_again = with_is a.hidden a.rows refs b.rows all_hidden (λ q there. sym (h.hidden.hidden q there)) (λ q no. sym (h.deleted.removed.others q no))

  hidden_again : without refs a.hidden ≡ b.hidden
  hidden_again = without_is refs a.hidden b.hidden not_hidden (λ q no. sym (h.hidden.others q no))

  owed_again : a.owed - length refs ≡ b.owed
  owed_again = omega (arith, h.owed)

  again : shown refs (relation_outline a) ≡ relation_outline b
  again =
      let schema = h.deleted.removed.keeps.schema in
      let targets = h.deleted.removed.keeps.targets in
      let declared = h.deleted.removed.keeps.declared in
      let counted = h.deleted.removed.keeps.counted in
      λ i. record { schema = schema i; targets = targets i; declared = declared i; counted = counted i; rows = rows_again i; hidden = hidden_again i; owed = owed_again i }

  rewritten : IsRewritten c.relations d.relations n b a
  rewritten = deleted_rewritten c.relations d.relations n refs h.deleted free

  pub hidden_outlined : HasRowsHidden (outline_of c) (outline_of d) n refs
  hidden_outlined =
      let limits = ap (λ (x : CatalogState). x.limits) same in
      let names = ap (λ (x : CatalogState). x.names) same in
      let relations = changed_back c.relations d.relations n b a rewritten (shown refs) again in
      record {
        hides = record {
          relation = relation_outline a;
          there = outline_here c.relations d.relations n b a rewritten;
          hidden = all_hidden;
          once = once;
          owed = omega (arith, ap len hidden_again, h.few, h.owed);
        };
        others = λ i. record { limits = limits i; names = names i; relations = relations i };
      }

-- ---- rows that are shown again

module _ (old new : List RelationState) (n : ℕ) (refs : List TupleRef) (h : AreShownAt old new n refs) where
  -- the keys of the rows that were there are as they were
  pub shown_rewritten : IsRewritten old new n h.before h.after
  shown_rewritten =
      subst (λ rs. IsRewritten old rs n h.before h.after) (sym h.list)
      (rewritten_from old h.front n h.before h.after h.there h.linked.counted.recounted h.shown.keeps
      (λ q held some. ap (option_and_then (λ (u : Row). Some u.key)) (h.shown.others q (λ there. false≢true (ap is_some (sym (h.shown.apart q there)) ∙ held)))))

  shown_outline : All (λ r. IsSome (get h.before.hidden r)) refs → relation_outline h.after ≡ shown refs (relation_outline h.before)
  shown_outline hidden =
      let schema = h.shown.keeps.schema in
      let targets = h.shown.keeps.targets in
      let declared = h.shown.keeps.declared in
      let counted = h.shown.keeps.counted in
      let rows = with_is h.before.hidden h.before.rows refs h.after.rows hidden h.shown.shown h.shown.others in
      let gone = without_is refs h.before.hidden h.after.hidden h.shown.gone h.shown.hidden in
      λ i. record { schema = schema i; targets = targets i; declared = declared i; counted = counted i; rows = sym rows i; hidden = sym gone i; owed = h.owed i }

  pub shown_relations : All (λ r. IsSome (get h.before.hidden r)) refs → map relation_outline new ≡ changed_at (shown refs) n (map relation_outline old)
  shown_relations hidden = changed_forth old new n h.before h.after shown_rewritten (shown refs) (shown_outline hidden)

pub shown_outlined : (c : CatalogState) (relations : List RelationState) (n : ℕ) (refs : List TupleRef) (h : AreShownAt c.relations relations n refs) → All (λ r. IsSome (get h.before.hidden r)) refs
    → outline_of (record c { relations = relations }) ≡ with_shown n refs (outline_of c)
shown_outlined c relations n refs h hidden = λ i. record { limits = c.limits; names = c.names; relations = shown_relations c.relations relations n refs h hidden i }
