-- The first rows that pass, of a walk of the tree of the key from the first row that no bound on the key keeps out.
use Rattle.std.proofs.Common.{◌≡◌, ◌≤◌, ◌<◌, ◌+◌, ℕ, Bool, true, false, List, [], ◌∷◌, ◌++◌, IsSome, filter, get_or, inl, inr, length, take, refl, sym, ap, ◌∙◌, subst, arith, append-nil, Ordering}
use Rattle.std.specs.declared.cmp.Ordering.TheVariants.{Equal, Greater}
use Rattle.std.specs.Cmp.{first_so}
use Rattle.std.specs.Ordering.{is_ge, is_gt}
use Rattle.std.proofs.lemmas.Bool.{cases_Bool}
use Rattle.std.proofs.lemmas.List.{get_or-append-add, length-append, take_all}
use Rattle.std.specs.FinMap as finite
use Rattle.std.proofs.lemmas.List.Elements.{All-filter, filter-append}
use Rattle.std.proofs.Math.Seq.{get_or-append_seam, take-append_seam}
use Rattle.common_lemmas.proofs.Filters.{filter_none}
use Rattle.common_lemmas.proofs.Orders.{Greater-above, is_eq-Equal, is_gt-Greater}
use Rattle.part_raw.specs.declared.tuple_ref.TupleRef.{TupleRef}
use Rattle.plain_tables.specs.declared.resolved.Test.{Test}
use Rattle.mm_index.specs.Range.{NeverFalls, from_range}
use Rattle.mm_relation.specs.State.{RelationState, IsKept, IsCurrent, linked_keys, tree_list}
use Rattle.temp_list.specs.Ranges.{place_between}
use Rattle.temp_list.specs.Reading.{is_between, passing, row_passes, unbounded, value_in}
use Rattle.temp_list.proofs.Keeping.{passes_unbounded}
use Rattle.temp_list.proofs.Neighbours.{from_in_order}
use Rattle.temp_list.proofs.Ranges.{between_stands}
use Rattle.temp_list.proofs.Searches.{between_in_order, filter_inner}
use Rattle.temp_list.proofs.Walks.{holds_next}

module _ (relations : List RelationState) (s : RelationState) (tests : List Test) where
  abbrev place : TupleRef → Ordering
  place r = place_between 0 tests (value_in relations s 0 r)

  abbrev passes : TupleRef → Bool
  passes = row_passes relations s tests

  abbrev all : List TupleRef
  all = tree_list s.by_key

  abbrev walked : List TupleRef
  walked = from_range place all

  -- one that passes stands within the bounds on its key
  within_bounds : (r : TupleRef) → passes r ≡ true → place r ≡ Equal
  within_bounds r so =
      is_eq-Equal (place r)
      (between_stands 0 tests (value_in relations s 0 r)
      ∙ first_so (is_between 0 tests (value_in relations s 0 r)) (row_passes relations s (unbounded 0 tests) r) (passes_unbounded relations s 0 r tests ∙ so))

  -- and one above them does not pass
  above_fails : (r : TupleRef) → place r ≡ Greater → passes r ≡ false
  above_fails r above =
      elim (cases_Bool (passes r)) [
        | inl so ↦ absurd (let same : Greater ≡ Equal = sym above ∙ within_bounds r so in cc)
        | inr fails ↦ fails
      ]

  at_least : (o : Ordering) → o ≡ Equal → is_ge o ≡ true
  at_least o same = ap is_ge same

  -- so those of the walk that pass are all that do
  walked_pass : filter passes walked ≡ passing relations s tests
  walked_pass = filter_inner passes (λ r. is_ge (place r)) all (λ k d l so. at_least (place (get_or all k d)) (within_bounds (get_or all k d) so))

  split_pass : (yielded rest : List TupleRef) → walked ≡ yielded ++ rest → passing relations s tests ≡ filter passes yielded ++ filter passes rest
  split_pass yielded rest split = sym walked_pass ∙ ap (filter passes) split ∙ filter-append passes yielded rest

  -- where no other is left that passes
  whole : (most : ℕ) (yielded rest : List TupleRef) → walked ≡ yielded ++ rest → filter passes rest ≡ [] → length (filter passes yielded) ≤ most → filter passes yielded ≡ take most (passing relations s tests)
  whole most yielded rest split none few =
      let same : passing relations s tests ≡ filter passes yielded = split_pass yielded rest split ∙ ap (λ ys. filter passes yielded ++ ys) none ∙ append-nil (filter passes yielded) in
      sym (ap (take most) same ∙ take_all most (filter passes yielded) few)

  -- the walk ended
  pub found_all : (most : ℕ) (yielded : List TupleRef) → walked ≡ yielded ++ [] → length (filter passes yielded) ≤ most → filter passes yielded ≡ take most (passing relations s tests)
  found_all most yielded split few = whole most yielded [] split refl few

  -- or as many were found as were asked for
  pub found_enough : (most : ℕ) (yielded rest : List TupleRef) → walked ≡ yielded ++ rest → length (filter passes yielded) ≡ most → filter passes yielded ≡ take most (passing relations s tests)
  found_enough most yielded rest split full =
      sym (ap (take most) (split_pass yielded rest split)
      ∙ ap (λ n. take n (filter passes yielded ++ filter passes rest)) (sym full)
      ∙ take-append_seam (filter passes yielded) (filter passes rest))

  -- the next row of the walk is held
  pub next_held : IsKept s → (yielded : List TupleRef) (r : TupleRef) (rest : List TupleRef) → walked ≡ yielded ++ r ∷ rest → IsSome (finite.get s.rows r)
  next_held kept yielded r rest split =
      holds_next (λ q. IsSome (finite.get s.rows q)) walked yielded rest r split
      (All-filter (λ q. is_ge (place q)) (λ q. IsSome (finite.get s.rows q)) all kept.keyed.lists.held)

  module _ (kept : IsKept s) (current : IsCurrent (linked_keys s.targets relations) s) (key : 0 < length s.schema.columns) where
    rising : NeverFalls place walked
    rising = from_in_order place all (between_in_order relations s 0 kept current key refl tests)

    none_above : (yielded : List TupleRef) (r : TupleRef) (rest : List TupleRef) → walked ≡ yielded ++ r ∷ rest → place r ≡ Greater → filter passes (r ∷ rest) ≡ []
    none_above yielded r rest split above =
        let up : NeverFalls place (yielded ++ r ∷ rest) = subst (NeverFalls place) split rising in
        filter_none passes (r ∷ rest)
        (λ k d l.
        let here : get_or (yielded ++ r ∷ rest) (length yielded + k) d ≡ get_or (r ∷ rest) k d = get_or-append-add yielded (r ∷ rest) k d in
        let first : get_or (yielded ++ r ∷ rest) (length yielded) d ≡ r = get_or-append_seam yielded r rest d in
        let long : length (yielded ++ r ∷ rest) ≡ length yielded + length (r ∷ rest) = length-append yielded (r ∷ rest) in
        let higher = up (length yielded) (length yielded + k) d (omega arith) (omega (arith, long, l)) in
        above_fails (get_or (r ∷ rest) k d)
        (ap place (sym here) ∙ Greater-above (place (get_or (yielded ++ r ∷ rest) (length yielded + k) d)) (place (get_or (yielded ++ r ∷ rest) (length yielded) d)) (ap place first ∙ above) higher))

    -- or the next stands above the bounds
    pub found_below : (most : ℕ) (yielded : List TupleRef) (r : TupleRef) (rest : List TupleRef) → walked ≡ yielded ++ r ∷ rest → is_gt (place r) ≡ true → length (filter passes yielded) ≤ most → filter passes yielded ≡ take most (passing relations s tests)
    found_below most yielded r rest split above few = whole most yielded (r ∷ rest) split (none_above yielded r rest split (is_gt-Greater (place r) above)) few
