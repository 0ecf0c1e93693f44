-- Rows that go out of a relation one after another, and the links that go with them.
use Rattle.std.proofs.Common.{◌≡◌, ◌≢◌, ℕ, suc, ◌<◌, ◌≤◌, ◌+◌, Bool, List, [], ◌∷◌, ◌++◌, Option, Some, None, IsSome, is_some, refl, sym, ap, ◌∙◌, subst, arith, length, get_or, take, drop, zero-add, inl, inr}
use Rattle.std.specs.List.{range_with_len, All, AllPairs, Contains, count_by, slice_get, sum_by}
use Rattle.std.specs.Option.{option_and_then, option_map_or, unwrap_or}
use Rattle.std.specs.FinMap.{get, remove}
use Rattle.std.proofs.lemmas.List.{take_more}
use Rattle.std.proofs.lemmas.List.Elements.{Contains-push, Contains-push_cases, Contains-append_left}
use Rattle.std.proofs.lemmas.List.Sums.{get_or-le-sum_by, sum_by-append, sum_by-cons, sum_by-drop_more, sum_by-take-drop}
use Rattle.std.proofs.lemmas.Option.{get_or_from_slice_get, none-some, slice_get_within}
use Rattle.common_lemmas.proofs.Places.{slice_get-inside}
use Rattle.common_lemmas.proofs.Counts.{count_by-flat_map}
use Rattle.part_raw.specs.declared.tuple_ref.TupleRef.{TupleRef}
use Rattle.part_raw.specs.Store.{Tuples}
use Rattle.part_raw.proofs.Lookup.{same_or_other}
use Rattle.part_raw.proofs.Tuples.{get-remove_same, get-remove_other, held_tuple}
use Rattle.mm_index.proofs.Placed.{remove_by_member}
use Rattle.mm_relation.specs.Rows.{Row, referrers_at}
use Rattle.mm_relation.specs.Order.{column_cmp, column_cmp_strict}
use Rattle.mm_relation.specs.Reading.{key_at, row_value, value_at}
use Rattle.mm_relation.specs.State.{tree_list, RelationState, IsKept, IsCurrent, IsReadable, linked_keys, no_keys}
use Rattle.mm_relation.proofs.KeyOrder.{key_readable}
use Rattle.mm_relation.proofs.Setting.{not_before}
use Rattle.mm_catalog.specs.Linked.{links, Linked, target_at, link_at, row_links, relation_links, is_link_to}
use Rattle.mm_catalog.specs.Recounted.{AreRecounted}
use Rattle.mm_catalog.specs.Counted.{IsHeldIn, HaveAtLeast, AreCountedBy, naming, none, LeadIntoCounted}
use Rattle.mm_catalog.specs.Deleted.{AreRemoved, AreUnlinked, IsGone}
use Rattle.mm_catalog.proofs.Keyed.{keys_removed}
use Rattle.mm_catalog.proofs.LinksHeld.{linked_value, target_within}
use Rattle.mm_catalog.proofs.RowLinks.{All-filter_map, link_parts}
use Rattle.mm_catalog.proofs.Counted.{counted_none, down_then, enough_left}
use Rattle.mm_catalog.proofs.Recounting.{key_recounted}
use Rattle.std.specs.Prelude.{IsTrue}

-- ---- the links of a relation, row by row

sum_alike : {A : Type 0} (f g : A → ℕ) (xs : List A) → All (λ x. f x ≡ g x) xs → sum_by f xs ≡ sum_by g xs
sum_alike f g [] same = refl
sum_alike f g (x ∷ xs) same =
    sum_by-cons f x xs ∙ ap (λ n. n + sum_by f xs) (same 0 x (omega arith))
    ∙ ap (λ n. g x + n) (sum_alike f g xs (λ k d l. same (suc k) d (omega arith))) ∙ sym (sum_by-cons g x xs)

-- how many of a row's links pass
abbrev passing : (Linked → Bool) → RelationState → TupleRef → ℕ
passing test s r = count_by test (option_map_or (row_links s.targets) (get s.rows r) [])

links_by_row : (test : Linked → Bool) (s : RelationState) → count_by test (relation_links s) ≡ sum_by (passing test s) (tree_list s.by_key)
unfolding relation_links
links_by_row test s = count_by-flat_map test (λ r. option_map_or (row_links s.targets) (get s.rows r) []) (tree_list s.by_key)

passing_row : (test : Linked → Bool) (s : RelationState) (r : TupleRef) (row : Row) → get s.rows r ≡ Some row → passing test s r ≡ count_by test (row_links s.targets row)
passing_row test s r row at = ap (λ o. count_by test (option_map_or (row_links s.targets) o [])) at

-- a row's links are some of its relation's
pub row_links_within : (test : Linked → Bool) (s : RelationState) (r : TupleRef) (row : Row) → IsKept s → get s.rows r ≡ Some row → count_by test (row_links s.targets row) ≤ count_by test (relation_links s)
row_links_within test s r row kept at =
    let listed = kept.keyed.lists.listed r (ap is_some at) in
    let part = get_or-le-sum_by (passing test s) (tree_list s.by_key) listed.0 r listed.1 in
    let here : passing test s (get_or (tree_list s.by_key) listed.0 r) ≡ count_by test (row_links s.targets row) = ap (passing test s) listed.2 ∙ passing_row test s r row at in
    omega (arith, part, here, links_by_row test s)

-- the links of one relation are some of all
pub links_within : (test : Linked → Bool) (relations : List RelationState) (n : ℕ) (s : RelationState) → slice_get relations n ≡ Some s → count_by test (relation_links s) ≤ count_by test (links relations)
unfolding links
links_within test relations n s there =
    let part = get_or-le-sum_by (λ t. count_by test (relation_links t)) relations n s (slice_get_within relations n s there) in
    let it : count_by test (relation_links (get_or relations n s)) ≡ count_by test (relation_links s) = ap (λ t. count_by test (relation_links t)) (get_or_from_slice_get relations n s s there) in
    omega (arith, part, it, count_by-flat_map test relation_links relations)

module _ (old new : RelationState) (kept : IsKept old) (now : IsKept new) (r : TupleRef) (row : Row) (at : get old.rows r ≡ Some row) (removed : IsGone old new r) (test : Linked → Bool) where
  left : (k : ℕ) (d : TupleRef) → k < length (tree_list new.by_key) → get new.rows (get_or (tree_list new.by_key) k d) ≡ get old.rows (get_or (tree_list new.by_key) k d)
  left k d l =
      let q = get_or (tree_list new.by_key) k d in
      ap (λ (tuples : Tuples Row). get tuples q) removed.rows
      ∙ elim (same_or_other q r) [
        | inl same ↦
            let none : get new.rows q ≡ None = ap (λ (tuples : Tuples Row). get tuples q) removed.rows ∙ ap (get (remove old.rows r)) same ∙ get-remove_same old.rows r in
            let some = held_tuple new.rows q (now.keyed.lists.held k d l) in
            absurd (none-some some.0 (sym none ∙ some.1))
        | inr other ↦ get-remove_other old.rows r q other
      ]

  same_passing : All (λ q. passing test new q ≡ passing test old q) (tree_list new.by_key)
  same_passing k d l =
      ap (λ targets. count_by test (option_map_or (row_links targets) (get new.rows (get_or (tree_list new.by_key) k d)) [])) removed.keeps.targets
      ∙ ap (λ o. count_by test (option_map_or (row_links old.targets) o [])) (left k d l)

  -- the row's links are those that go
  pub links_removed : count_by test (row_links old.targets row) + count_by test (relation_links new) ≡ count_by test (relation_links old)
  links_removed =
      let held : IsSome (get old.rows r) = ap is_some at in
      let there = kept.keyed.lists.listed r held in
      let f = passing test old in
      let xs = (tree_list old.by_key) in
      let list : (tree_list new.by_key) ≡ take there.0 xs ++ drop (there.0 + 1) xs =
      keys_removed old new kept now r held removed
      ∙ remove_by_member (λ q. IsSome (value_at no_keys 0 old.rows q)) (column_cmp no_keys 0 old.rows) (column_cmp_strict no_keys 0 old.rows kept.keyed.keys_differ) r xs
      (λ k d l. key_readable old.rows (get_or xs k d) (kept.keyed.lists.held k d l)) (key_readable old.rows r held) kept.keyed.rising there in
      let rest : count_by test (relation_links new) ≡ sum_by f (take there.0 xs) + sum_by f (drop (there.0 + 1) xs) =
      links_by_row test new ∙ sum_alike (passing test new) f (tree_list new.by_key) same_passing ∙ ap (sum_by f) list ∙ sum_by-append f (take there.0 xs) (drop (there.0 + 1) xs) in
      let here : f (get_or xs there.0 r) ≡ count_by test (row_links old.targets row) = ap f there.2 ∙ passing_row test old r row at in
      omega (arith, rest, here, links_by_row test old, sum_by-take-drop f xs there.0, sum_by-drop_more f xs there.0 r there.1)

-- ---- rows that go

pub AreRemoved-none : (s : RelationState) → AreRemoved s s []
AreRemoved-none s = record {
  gone = λ r h. absurd (omega (arith, h.1));
  others = λ r h. refl;
  counts = λ r h. refl;
  keeps = record { schema = refl; targets = refl; declared = refl; counted = refl };
}

pub AreRemoved-more : (s t u : RelationState) (refs : List TupleRef) (i : ℕ) (r : TupleRef) → i < length refs → get_or refs i r ≡ r → AreRemoved s t (take i refs) → IsGone t u r → AreRemoved s u (take (i + 1) refs)
AreRemoved-more s t u refs i r within is so_far removed =
    let list : take (i + 1) refs ≡ take i refs ++ r ∷ [] = take_more refs i r within ∙ ap (λ q. take i refs ++ q ∷ []) is in
    let other : (q : TupleRef) → q ≢ r → get u.rows q ≡ get t.rows q = λ q ne. ap (λ (tuples : Tuples Row). get tuples q) removed.rows ∙ get-remove_other t.rows r q ne in
    let itself : get u.rows r ≡ None = ap (λ (tuples : Tuples Row). get tuples r) removed.rows ∙ get-remove_same t.rows r in
    subst (AreRemoved s u) (sym list) (record {
      gone = λ q h. elim (same_or_other q r) [
        | inl same ↦ ap (get u.rows) same ∙ itself
        | inr ne ↦ elim (Contains-push_cases (take i refs) r q h) [
          | inl before ↦ other q ne ∙ so_far.gone q before
          | inr same ↦ absurd (ne (sym same))
        ]
      ];
      others = λ q h. elim (same_or_other q r) [
        | inl same ↦ absurd (h (subst (Contains (take i refs ++ r ∷ [])) (sym same) (Contains-push (take i refs) r)))
        | inr ne ↦ other q ne ∙ so_far.others q (λ before. h (Contains-append_left (take i refs) (r ∷ []) q before))
      ];
      counts = λ q h. elim (same_or_other q r) [
        | inl same ↦ absurd (h (subst (Contains (take i refs ++ r ∷ [])) (sym same) (Contains-push (take i refs) r)))
        | inr ne ↦
            ap (λ (numbers : Tuples ℕ). referrers_at numbers q) removed.referrers ∙ ap (λ (o : Option ℕ). unwrap_or o 0) (get-remove_other t.referrers r q ne)
            ∙ so_far.counts q (λ before. h (Contains-append_left (take i refs) (r ∷ []) q before))
      ];
      keeps = record {
        schema = removed.keeps.schema ∙ so_far.keeps.schema;
        targets = removed.keeps.targets ∙ so_far.keeps.targets;
        declared = removed.keeps.declared ∙ so_far.keeps.declared;
        counted = removed.keeps.counted ∙ so_far.keeps.counted;
      };
    })

-- the next row is still there
pub still_there : (s t : RelationState) (refs : List TupleRef) (i : ℕ) (r : TupleRef) → i < length refs → get_or refs i r ≡ r → AllPairs (λ p q. p ≢ q) refs → AreRemoved s t (take i refs) → get t.rows r ≡ get s.rows r
still_there s t refs i r within is once so_far =
    so_far.others r (λ h. not_before refs i r within once (subst (Contains (take i refs)) (sym is) h))

-- ---- what their links do elsewhere

pub AreUnlinked-none : (relations : List RelationState) (s : RelationState) → All IsKept relations → AreUnlinked relations relations s s
AreUnlinked-none relations s kept = record { fewer = none; counted = counted_none relations kept; links = λ table r. zero-add (naming (relation_links s) table r) }

pub AreUnlinked-more : (old mid new : List RelationState) (s t u : RelationState) (r : TupleRef) (row : Row) → IsKept t → IsKept u → get t.rows r ≡ Some row → IsGone t u r → AreUnlinked old mid s t → AreCountedBy mid new none (naming (row_links t.targets row)) → AreUnlinked old new s u
AreUnlinked-more old mid new s t u r row kept now at removed so_far counted = record {
  fewer = λ table q. so_far.fewer table q + naming (row_links t.targets row) table q;
  counted = down_then old mid new so_far.fewer (naming (row_links t.targets row)) _ (λ table q. refl) so_far.counted counted;
  links = λ table q. omega (arith, so_far.links table q, links_removed t u kept now r row at removed (is_link_to table q));
}

-- each row that is named has as many referrers as links of the row name it
pub enough_for_row : (old mid : List RelationState) (s t : RelationState) (r : TupleRef) (row : Row) → HaveAtLeast old (naming (relation_links s)) → AreUnlinked old mid s t → IsKept t → get t.rows r ≡ Some row → HaveAtLeast mid (naming (row_links t.targets row))
enough_for_row old mid s t r row enough so_far kept at =
    enough_left old mid so_far.fewer (naming (row_links t.targets row)) (naming (relation_links s)) so_far.counted
    (λ table q. omega (arith, row_links_within (is_link_to table q) t r row kept at, so_far.links table q)) enough

-- ---- what keys are read where numbers of referrers change

recounted_keys_at : (old new : List RelationState) (to : TupleRef) → AreRecounted old new → (target : Option ℕ) → option_and_then (λ s. key_at s.rows to) (option_and_then (slice_get new) target) ≡ option_and_then (λ s. key_at s.rows to) (option_and_then (slice_get old) target)
recounted_keys_at old new to h None = refl
recounted_keys_at old new to h (Some n) = at (slice_get old n) (slice_get new n) refl refl
  where
    at : (o p : Option RelationState) → slice_get old n ≡ o → slice_get new n ≡ p → option_and_then (λ s. key_at s.rows to) p ≡ option_and_then (λ s. key_at s.rows to) o
    at None None e f = refl
    at None (Some t) e f = let s = slice_get-inside old n (omega (arith, h.count, slice_get_within new n t f)) in absurd (none-some s.0 (sym e ∙ s.1))
    at (Some s) None e f = let t = slice_get-inside new n (omega (arith, h.count, slice_get_within old n s e)) in absurd (none-some t.0 (sym f ∙ t.1))
    at (Some s) (Some t) e f = key_recounted s t (h.each n s t e f) to

pub recounted_keys : (targets : List (Option ℕ)) (old new : List RelationState) → AreRecounted old new → linked_keys targets new ≡ linked_keys targets old
recounted_keys targets old new h = λ i column to. recounted_keys_at old new to h (target_at targets column) i

-- ---- rows that are named are held

pub held_from_key : (rows : Tuples Row) (to : TupleRef) → IsSome (key_at rows to) → IsSome (get rows to)
held_from_key rows to h = some_from (get rows to) h
  where
    some_from : (o : Option Row) → IsSome (option_and_then (λ (row : Row). Some row.key) o) → IsSome o
    some_from None h = h
    some_from (Some row) h = refl

named_at : (relations : List RelationState) (to : TupleRef) (n : ℕ) → ((s : RelationState) → slice_get relations n ≡ Some s → IsTrue s.counted) → IsSome (option_and_then (λ s. key_at s.rows to) (slice_get relations n)) → IsHeldIn relations (n, to)
named_at relations to n counted h = at (slice_get relations n) refl h
  where
    at : (o : Option RelationState) → slice_get relations n ≡ o → IsSome (option_and_then (λ s. key_at s.rows to) o) → IsHeldIn relations (n, to)
    at None e h = absurd (cc)
    at (Some s) e h = (s, e, held_from_key s.rows to h, counted s e)

-- each link of a row that can be read names a row that is held
pub link_read_at : (relations : List RelationState) (targets : List (Option ℕ)) (row : Row) → IsReadable (linked_keys targets relations) (length targets) row → LeadIntoCounted relations targets → (column : ℕ) (link : Linked) → link_at targets row column ≡ Some link → IsHeldIn relations link
link_read_at relations targets row readable counted column link e =
    let parts = link_parts targets row column link e in
    let read : IsSome (row_value (linked_keys targets relations) column row) = readable column (target_within targets column link.0 parts.0) in
    let key : IsSome (linked_keys targets relations column link.1) = subst IsSome (linked_value (linked_keys targets relations) column row link.1 parts.1) read in
    named_at relations link.1 link.0 (λ t. counted column link.0 t parts.0) (subst (λ o. IsSome (option_and_then (λ t. key_at t.rows link.1) (option_and_then (slice_get relations) o))) parts.0 key)

pub links_read : (relations : List RelationState) (targets : List (Option ℕ)) (row : Row) → IsReadable (linked_keys targets relations) (length targets) row → LeadIntoCounted relations targets → All (IsHeldIn relations) (row_links targets row)
unfolding row_links
links_read relations targets row readable counted = All-filter_map (IsHeldIn relations) (link_at targets row) (range_with_len 0 (length targets)) (λ column link _. link_read_at relations targets row readable counted column link)

-- so does each link of a row of a relation that is current
pub link_held_at : (relations : List RelationState) (s : RelationState) (r : TupleRef) (row : Row) → IsCurrent (linked_keys s.targets relations) s → LeadIntoCounted relations s.targets → get s.rows r ≡ Some row → (column : ℕ) (link : Linked) → link_at s.targets row column ≡ Some link → IsHeldIn relations link
link_held_at relations s r row current counted at = link_read_at relations s.targets row (current.readable r row at) counted

pub links_held : (relations : List RelationState) (s : RelationState) (r : TupleRef) (row : Row) → IsCurrent (linked_keys s.targets relations) s → LeadIntoCounted relations s.targets → get s.rows r ≡ Some row → All (IsHeldIn relations) (row_links s.targets row)
links_held relations s r row current counted at = links_read relations s.targets row (current.readable r row at) counted

-- the keys that are read beside relations whose numbers of referrers change twice
pub keys_still : (s t : RelationState) (old mid new : List RelationState) → t.targets ≡ s.targets → AreRecounted old mid → AreRecounted mid new → linked_keys t.targets new ≡ linked_keys s.targets old
keys_still s t old mid new same a b = recounted_keys t.targets mid new b ∙ recounted_keys t.targets old mid a ∙ ap (λ targets. linked_keys targets old) same
