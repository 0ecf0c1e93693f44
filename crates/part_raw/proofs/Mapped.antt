-- What is found in a map whose tuples are seen as something else, and how it follows the map.
use Rattle.std.proofs.Common.{◌≡◌, true, false, cond, List, [], ◌∷◌, map, length, Option, Some, None, IsSome, is_some, refl, sym, ap, ◌∙◌, subst, inl, inr}
use Rattle.std.specs.Prelude.{◌&&◌, T}
use Rattle.std.specs.Option.{option_map}
use Rattle.std.specs.Ordering.{is_lt}
use Rattle.std.specs.FinMap.{find, is_sorted, entries, entries_sorted, entries-from_sorted, get, get-entries, insert, remove, empty, empty_of_len, len, len-entries, len-empty}
use Rattle.std.specs.FinMap.Entries.{below_all}
use Rattle.std.proofs.lemmas.List.{length-map}
use Rattle.part_raw.specs.declared.tuple_ref.TupleRef.{TupleRef}
use Rattle.part_raw.specs.TupleRefs.{ref_cmp}
use Rattle.part_raw.specs.Store.{Tuples}
use Rattle.part_raw.specs.Mapped.{mapped}
use Rattle.common_lemmas.proofs.Options.{is_some-option_map}
use Rattle.part_raw.proofs.Lookup.{same_or_other}
use Rattle.part_raw.proofs.Tuples.{same_ref, same_ref_true, get-insert_same, get-insert_other, get-remove_same, get-remove_other, same_tuples}

module _ {X Y : Type 0} (f : TupleRef → X → Y) where
  abbrev seen : List (TupleRef × X) → List (TupleRef × Y)
  seen es = map (λ e. (e.0, f e.0 e.1)) es

  below-seen : (r : TupleRef) (es : List (TupleRef × X)) → below_all ref_cmp r (seen es) ≡ below_all ref_cmp r es
  below-seen r [] = refl
  below-seen r (e ∷ es) = ap (λ b. is_lt (ref_cmp r e.0) && b) (below-seen r es)

  sorted-seen : (es : List (TupleRef × X)) → is_sorted ref_cmp (seen es) ≡ is_sorted ref_cmp es
  sorted-seen [] = refl
  sorted-seen (e ∷ es) = λ i. below-seen e.0 es i && sorted-seen es i

  find-seen : (q : TupleRef) (es : List (TupleRef × X)) → find ref_cmp q (seen es) ≡ option_map (f q) (find ref_cmp q es)
  find-seen q [] = refl
  find-seen q (e ∷ es) = elim (same_ref q e.0) as (λ b. same_ref q e.0 ≡ b → cond b (Some (f e.0 e.1)) (find ref_cmp q (seen es)) ≡ option_map (f q) (cond b (Some e.1) (find ref_cmp q es))) [
    | true ↦ λ is. ap (λ r. Some (f r e.1)) (sym (same_ref_true q e.0 is))
    | false ↦ λ is. find-seen q es
  ] refl

  entries-mapped : (tuples : Tuples X) → entries (mapped f tuples) ≡ seen (entries tuples)
  unfolding mapped
  entries-mapped tuples = entries-from_sorted ref_cmp (seen (entries tuples)) (subst T (sym (sorted-seen (entries tuples))) (entries_sorted tuples))

  -- under a reference the same is found, seen so
  pub get-mapped : (tuples : Tuples X) (q : TupleRef) → get (mapped f tuples) q ≡ option_map (f q) (get tuples q)
  get-mapped tuples q = get-entries (mapped f tuples) q ∙ ap (find ref_cmp q) (entries-mapped tuples) ∙ find-seen q (entries tuples) ∙ ap (option_map (f q)) (sym (get-entries tuples q))

  -- and there are as many
  pub len-mapped : (tuples : Tuples X) → len (mapped f tuples) ≡ len tuples
  len-mapped tuples = len-entries (mapped f tuples) ∙ ap length (entries-mapped tuples) ∙ length-map (entries tuples) _ ∙ sym (len-entries tuples)

  pub mapped-empty : mapped f empty ≡ empty
  mapped-empty = empty_of_len (mapped f empty) (len-mapped empty ∙ len-empty ref_cmp X)

  pub mapped-insert : (tuples : Tuples X) (r : TupleRef) (x : X) → mapped f (insert tuples r x) ≡ insert (mapped f tuples) r (f r x)
  mapped-insert tuples r x = same_tuples _ _ (λ q. get-mapped (insert tuples r x) q ∙ elim (same_or_other q r) [
    | inl same ↦ ap (λ p. option_map (f p) (get (insert tuples r x) p)) same ∙ ap (option_map (f r)) (get-insert_same tuples r x) ∙ sym (get-insert_same (mapped f tuples) r (f r x)) ∙ ap (get (insert (mapped f tuples) r (f r x))) (sym same)
    | inr other ↦ ap (option_map (f q)) (get-insert_other tuples r q x other) ∙ sym (get-mapped tuples q) ∙ sym (get-insert_other (mapped f tuples) r q (f r x) other)
  ])

  pub mapped-remove : (tuples : Tuples X) (r : TupleRef) → mapped f (remove tuples r) ≡ remove (mapped f tuples) r
  mapped-remove tuples r = same_tuples _ _ (λ q. get-mapped (remove tuples r) q ∙ elim (same_or_other q r) [
    | inl same ↦ ap (λ p. option_map (f p) (get (remove tuples r) p)) same ∙ ap (option_map (f r)) (get-remove_same tuples r) ∙ sym (get-remove_same (mapped f tuples) r) ∙ ap (get (remove (mapped f tuples) r)) (sym same)
    | inr other ↦ ap (option_map (f q)) (get-remove_other tuples r q other) ∙ sym (get-mapped tuples q) ∙ sym (get-remove_other (mapped f tuples) r q other)
  ])

  -- what is held there is held in the map
  pub held-mapped : (tuples : Tuples X) (r : TupleRef) → IsSome (get (mapped f tuples) r) → IsSome (get tuples r)
  held-mapped tuples r held = sym (is_some-option_map (f r) (get tuples r)) ∙ ap is_some (sym (get-mapped tuples r)) ∙ held

-- the same of the tuples, and the same is made of each
pub mapped-alike : {X Y : Type 0} (f g : TupleRef → X → Y) (tuples : Tuples X) → ((r : TupleRef) (x : X) → get tuples r ≡ Some x → f r x ≡ g r x) → mapped f tuples ≡ mapped g tuples
mapped-alike {X} {Y} f g tuples alike = same_tuples _ _ (λ q. get-mapped f tuples q ∙ each q (get tuples q) (alike q) ∙ sym (get-mapped g tuples q))
  where
    each : (q : TupleRef) (o : Option X) → ((x : X) → o ≡ Some x → f q x ≡ g q x) → option_map (f q) o ≡ option_map (g q) o
    each q None alike = refl
    each q (Some x) alike = ap (λ (y : Y). Some y) (alike x refl)
