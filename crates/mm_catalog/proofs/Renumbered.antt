-- The relations once one of them goes, to which no links lead: links lead to the same rows, by the numbers that those have then.
use Rattle.std.proofs.Common.{◌≡◌, ◌≢◌, ℕ, zero, suc, ◌+◌, ◌<◌, ◌&&◌, Bool, cond, List, [], ◌∷◌, ◌++◌, Option, Some, None, refl, sym, ap, ◌∙◌, arith, length, map, take, drop, get_or}
use Rattle.std.specs.List.{slice_get, remove, zip, filter_map, cons_option, flat_map, count_by, range_with_len}
use Rattle.std.specs.Option.{option_and_then, option_map, option_map_or}
use Rattle.std.specs.Ordering.{is_eq}
use Rattle.std.specs.FinMap as finite
use Rattle.std.proofs.lemmas.List.{length-map, map-append, take-append-drop}
use Rattle.std.proofs.lemmas.List.Folds.{flat_map-map, map_fixed}
use Rattle.std.proofs.lemmas.List.Sums.{sum_by-append}
use Rattle.std.proofs.lemmas.Option.{none-some, same_Some, slice_get-map, slice_get-get_or}
use Rattle.part_raw.specs.TupleRefs.{ref_cmp}
use Rattle.part_raw.specs.declared.tuple_ref.TupleRef.{TupleRef}
use Rattle.plain_tables.specs.Tables.{Table}
use Rattle.mm_relation.specs.Rows.{Row}
use Rattle.mm_relation.specs.Reading.{Keys, key_at, link_in}
use Rattle.mm_relation.specs.State.{tree_list, RelationState, IsKept, IsCurrent, linked_keys}
use Rattle.mm_catalog.specs.State.{CatalogState}
use Rattle.mm_catalog.specs.Seen.{database_of, table_of, rows_of, plain_index}
use Rattle.mm_catalog.specs.Linked.{Linked, target_at, link_at, row_links, relation_links, links, is_link_to, links_to}
use Rattle.mm_catalog.specs.Dropped.{moved_down, moved_up, renumbered}
use Rattle.mm_catalog.proofs.Lists.{get-taken, same_by_get}
use Rattle.mm_catalog.proofs.Gone.{moved_up-same, get-remove, get-removed}

-- the relations without that one
abbrev pub less_one : List RelationState → ℕ → List RelationState
less_one relations gone = map (renumbered (moved_up gone)) (remove relations gone)

-- no links lead into it
abbrev pub LeadElsewhere : List (Option ℕ) → ℕ → Type 0
LeadElsewhere targets gone = (column t : ℕ) → target_at targets column ≡ Some t → t ≢ gone

-- ---- where links lead

flattened : {A B : Type 0} (f : A → B) (o : Option (Option A)) → option_and_then (λ t. t) (option_map (option_map f) o) ≡ option_map f (option_and_then (λ t. t) o)
flattened f None = refl
flattened f (Some t) = refl

pub target_at-map : (f : ℕ → ℕ) (targets : List (Option ℕ)) (column : ℕ) → target_at (map (option_map f) targets) column ≡ option_map f (target_at targets column)
target_at-map f targets column =
    ap (option_and_then (λ (t : Option ℕ). t)) (slice_get-map (option_map f) targets column) ∙ flattened f (slice_get targets column)

-- ---- links that lead where they led

stays : (moved : ℕ → ℕ) (target : Option ℕ) → ((t : ℕ) → target ≡ Some t → moved t ≡ t) → option_map moved target ≡ target
stays moved None still = refl
stays moved (Some t) still = ap (λ n. Some n) (still t refl)

pub renumbered_same : (moved : ℕ → ℕ) (s : RelationState) → ((column t : ℕ) → target_at s.targets column ≡ Some t → moved t ≡ t) → renumbered moved s ≡ s
renumbered_same moved s still =
    ap (λ ts. record s { targets = ts }) (map_fixed (option_map moved) s.targets (λ k d l.
    stays moved (get_or s.targets k d) (λ t e. still k t (ap (option_and_then (λ (o : Option ℕ). o)) (slice_get-get_or s.targets k d l) ∙ e))))

-- where those before a number lead where they led, those from there on are all that is told
pub told_whole : (moved : ℕ → ℕ) (n : ℕ) (relations : List RelationState) → ((k : ℕ) (s : RelationState) → k < n → slice_get relations k ≡ Some s → renumbered moved s ≡ s)
    → take n relations ++ map (renumbered moved) (drop n relations) ≡ map (renumbered moved) relations
told_whole moved n relations still =
    ap (λ front. front ++ map (renumbered moved) (drop n relations))
    (sym (map_fixed (renumbered moved) (take n relations) (λ k d l.
    let there = get-taken relations n k (get_or (take n relations) k d) (slice_get-get_or (take n relations) k d l) in
    still k (get_or (take n relations) k d) there.0 there.1)))
    ∙ sym (map-append (renumbered moved) (take n relations) (drop n relations)) ∙ ap (map (renumbered moved)) (take-append-drop n relations)

-- ---- keys

key_of_renumbered : (gone : ℕ) (to : TupleRef) (found : Option RelationState) → option_and_then (λ s. key_at s.rows to) (option_map (renumbered (moved_up gone)) found) ≡ option_and_then (λ s. key_at s.rows to) found
key_of_renumbered gone to None = refl
key_of_renumbered gone to (Some s) = refl

key_moved : (relations : List RelationState) (gone : ℕ) (to : TupleRef) (target : Option ℕ) → ((t : ℕ) → target ≡ Some t → t ≢ gone) → option_and_then (λ s. key_at s.rows to) (option_and_then (slice_get (less_one relations gone)) (option_map (moved_up gone) target)) ≡ option_and_then (λ s. key_at s.rows to) (option_and_then (slice_get relations) target)
key_moved relations gone to None elsewhere = refl
key_moved relations gone to (Some t) elsewhere =
    ap (option_and_then (λ (s : RelationState). key_at s.rows to))
    (slice_get-map (renumbered (moved_up gone)) (remove relations gone) (moved_up gone t) ∙ ap (option_map (renumbered (moved_up gone))) (get-remove relations gone t (elsewhere t refl)))
    ∙ key_of_renumbered gone to (slice_get relations t)

pub keys_renumbered : (relations : List RelationState) (gone : ℕ) (targets : List (Option ℕ)) → LeadElsewhere targets gone → linked_keys (map (option_map (moved_up gone)) targets) (less_one relations gone) ≡ linked_keys targets relations
keys_renumbered relations gone targets elsewhere = λ i column to.
    (ap (λ (t : Option ℕ). option_and_then (λ (s : RelationState). key_at s.rows to) (option_and_then (slice_get (less_one relations gone)) t)) (target_at-map (moved_up gone) targets column)
    ∙ key_moved relations gone to (target_at targets column) (elsewhere column)) i

-- ---- what a relation keeps

pub kept_renumbered : (moved : ℕ → ℕ) (s : RelationState) → IsKept s → IsKept (renumbered moved s)
kept_renumbered moved s kept =
    let wide : length (map (option_map moved) s.targets) ≡ length s.targets = length-map s.targets (option_map moved) in
    record {
      keyed = kept.keyed;
      few = kept.few;
      width = wide ∙ kept.width;
      trees = kept.trees;
      hashes = kept.hashes;
      within = λ k d l. omega (arith, kept.within k d l, wide);
    }

pub current_renumbered : (moved : ℕ → ℕ) (keys : Keys) (s : RelationState) → IsCurrent keys s → IsCurrent keys (renumbered moved s)
current_renumbered moved keys s current = record {
  readable = λ r t e column within. current.readable r t e column (omega (arith, within, length-map s.targets (option_map moved)));
  trees = current.trees;
  hashes = current.hashes;
}

-- ---- how many links there are

-- whether something is there that passes, as a number
abbrev one_if : {A : Type 0} → (A → Bool) → Option A → ℕ
one_if test found = option_map_or (λ x. cond (test x) 1 0) found 0

count-cons_option : {A : Type 0} (test : A → Bool) (found : Option A) (xs : List A) → count_by test (cons_option found xs) ≡ one_if test found + count_by test xs
count-cons_option test None xs = omega arith
count-cons_option test (Some x) xs = omega (arith, sum_by-append (λ y. cond (test y) 1 0) (x ∷ []) xs)

count-filter_map : {A B : Type 0} (f g : A → Option B) (test other : B → Bool) (xs : List A) → ((x : A) → one_if test (f x) ≡ one_if other (g x)) → count_by test (filter_map f xs) ≡ count_by other (filter_map g xs)
count-filter_map f g test other [] same = refl
count-filter_map f g test other (x ∷ xs) same =
    let rest = count-filter_map f g test other xs same in
    let here = count-cons_option test (f x) (filter_map f xs) in
    let there = count-cons_option other (g x) (filter_map g xs) in
    omega (arith, rest, here, there, same x)

count-flat_map : {A B : Type 0} (f g : A → List B) (test other : B → Bool) (xs : List A) → ((k : ℕ) (x : A) → slice_get xs k ≡ Some x → count_by test (f x) ≡ count_by other (g x)) → count_by test (flat_map f xs) ≡ count_by other (flat_map g xs)
count-flat_map f g test other [] same = refl
count-flat_map f g test other (x ∷ xs) same =
    let rest = count-flat_map f g test other xs (λ k. same (suc k)) in
    let here = sum_by-append (λ y. cond (test y) 1 0) (f x) (flat_map f xs) in
    let there = sum_by-append (λ y. cond (other y) 1 0) (g x) (flat_map g xs) in
    omega (arith, rest, here, there, same 0 x refl)

-- what the others have, and what it has
pub count-less_one : {A B : Type 0} (f : A → List B) (test : B → Bool) (xs : List A) (n : ℕ) (x : A) → slice_get xs n ≡ Some x → count_by test (flat_map f xs) ≡ count_by test (flat_map f (remove xs n)) + count_by test (f x)
count-less_one f test [] n x at = absurd (none-some x at)
count-less_one f test (y ∷ ys) zero x at =
    let same : count_by test (f y) ≡ count_by test (f x) = ap (λ z. count_by test (f z)) (same_Some y x at) in
    let here = sum_by-append (λ z. cond (test z) 1 0) (f y) (flat_map f ys) in
    omega (arith, here, same)
count-less_one f test (y ∷ ys) (suc n) x at =
    let rest = count-less_one f test ys n x at in
    let here = sum_by-append (λ z. cond (test z) 1 0) (f y) (flat_map f ys) in
    let there = sum_by-append (λ z. cond (test z) 1 0) (f y) (flat_map f (remove ys n)) in
    omega (arith, rest, here, there)

module _ (gone table : ℕ) (r : TupleRef) (stays : table ≢ gone) where
  abbrev before : Linked → Bool
  before = is_link_to table r

  abbrev now : Linked → Bool
  now = is_link_to (moved_up gone table) r

  link_moved : (target : Option ℕ) (link : Option TupleRef) → ((t : ℕ) → target ≡ Some t → t ≢ gone) → one_if now (option_and_then (λ t. option_map (λ to. (t, to)) link) (option_map (moved_up gone) target)) ≡ one_if before (option_and_then (λ t. option_map (λ to. (t, to)) link) target)
  link_moved None link elsewhere = refl
  link_moved (Some t) None elsewhere = refl
  link_moved (Some t) (Some to) elsewhere =
      ap (λ b. cond (b && is_eq (ref_cmp to r)) 1 0) (moved_up-same gone t table (elsewhere t refl) stays)

  row_moved : (targets : List (Option ℕ)) (row : Row) → LeadElsewhere targets gone → count_by now (row_links (map (option_map (moved_up gone)) targets) row) ≡ count_by before (row_links targets row)
  unfolding row_links
  row_moved targets row elsewhere =
      let later = map (option_map (moved_up gone)) targets in
      ap (λ n. count_by now (filter_map (link_at later row) (range_with_len 0 n))) (length-map targets (option_map (moved_up gone)))
      ∙ count-filter_map (link_at later row) (link_at targets row) now before (range_with_len 0 (length targets))
      (λ column. ap (λ (t : Option ℕ). one_if now (option_and_then (λ (n : ℕ). option_map (λ (to : TupleRef). (n, to)) (link_in column row)) t)) (target_at-map (moved_up gone) targets column)
      ∙ link_moved (target_at targets column) (link_in column row) (elsewhere column))

  found_moved : (targets : List (Option ℕ)) (found : Option Row) → LeadElsewhere targets gone → count_by now (option_map_or (row_links (map (option_map (moved_up gone)) targets)) found []) ≡ count_by before (option_map_or (row_links targets) found [])
  found_moved targets None elsewhere = refl
  found_moved targets (Some row) elsewhere = row_moved targets row elsewhere

  relation_moved : (s : RelationState) → LeadElsewhere s.targets gone → count_by now (relation_links (renumbered (moved_up gone) s)) ≡ count_by before (relation_links s)
  unfolding relation_links
  relation_moved s elsewhere =
      count-flat_map (λ q. option_map_or (row_links (map (option_map (moved_up gone)) s.targets)) (finite.get s.rows q) []) (λ q. option_map_or (row_links s.targets) (finite.get s.rows q) []) now before (tree_list s.by_key)
      (λ k q at. found_moved s.targets (finite.get s.rows q) elsewhere)

  -- as many links as before name a row, but for those of what goes
  pub links_less_one : (relations : List RelationState) (s : RelationState) → slice_get relations gone ≡ Some s → ((k : ℕ) (t : RelationState) → slice_get relations k ≡ Some t → LeadElsewhere t.targets gone) → links_to relations table r ≡ links_to (less_one relations gone) (moved_up gone table) r + count_by before (relation_links s)
  unfolding links_to links
  links_less_one relations s there elsewhere =
      let all = count-less_one relation_links before relations gone s there in
      let moved : count_by now (flat_map relation_links (less_one relations gone)) ≡ count_by before (flat_map relation_links (remove relations gone)) =
      ap (count_by now) (flat_map-map relation_links (renumbered (moved_up gone)) (remove relations gone))
      ∙ count-flat_map (λ t. relation_links (renumbered (moved_up gone) t)) relation_links now before (remove relations gone)
      (λ k t at. relation_moved t (elsewhere (moved_down gone k) t (sym (get-removed relations gone k) ∙ at))) in
      omega (arith, all, moved)

-- ---- the tables

abbrev both : {A B : Type 0} → Option A → Option B → Option (A × B)
both one two = option_and_then (λ a. option_map (λ b. (a, b)) two) one

no_second : {A B : Type 0} (one : Option A) (two : Option B) → None ≡ two → None ≡ both one two
no_second None two e = refl
no_second (Some a) two e = ap (option_map (λ b. (a, b))) e

get-zip-both : {A B : Type 0} (xs : List A) (ys : List B) (k : ℕ) → slice_get (zip xs ys) k ≡ both (slice_get xs k) (slice_get ys k)
get-zip-both [] ys k = refl
get-zip-both (x ∷ xs) [] k = no_second (slice_get (x ∷ xs) k) None refl
get-zip-both (x ∷ xs) (y ∷ ys) zero = refl
get-zip-both (x ∷ xs) (y ∷ ys) (suc k) = get-zip-both xs ys k

module _ (c : CatalogState) (gone : ℕ) (elsewhere : (k : ℕ) (t : RelationState) → slice_get c.relations k ≡ Some t → LeadElsewhere t.targets gone) where
  abbrev pub dropped : CatalogState
  dropped = record c { names = remove c.names gone; relations = less_one c.relations gone }

  table_moved : (k : ℕ) (name : List ℕ) (s : RelationState) → slice_get c.relations k ≡ Some s → table_of dropped.relations name (renumbered (moved_up gone) s) ≡ table_of c.relations name s
  unfolding table_of rows_of
  table_moved k name s at = λ j. record { name = name; columns = s.schema.columns; indexes = map plain_index s.declared; rows = rows_of (keys_renumbered c.relations gone s.targets (elsewhere k s at) j) s }

  abbrev tabled : List RelationState → List ℕ × RelationState → Table
  tabled relations t = table_of relations t.0 t.1

  tables_moved : (k : ℕ) (name : Option (List ℕ)) (found : Option RelationState) → slice_get c.relations k ≡ found → option_map (tabled dropped.relations) (both name (option_map (renumbered (moved_up gone)) found)) ≡ option_map (tabled c.relations) (both name found)
  tables_moved k None found at = refl
  tables_moved k (Some name) None at = refl
  tables_moved k (Some name) (Some s) at = ap (λ t. Some t) (table_moved k name s at)

  -- the table of that number goes, and no other changes
  pub database-dropped : database_of dropped ≡ remove (database_of c) gone
  unfolding database_of
  database-dropped = same_by_get (database_of dropped) (remove (database_of c) gone) (λ k.
      slice_get-map (tabled dropped.relations) (zip dropped.names dropped.relations) k
      ∙ ap (option_map (tabled dropped.relations))
      (get-zip-both dropped.names dropped.relations k
      ∙ ap (λ n. both n (slice_get dropped.relations k)) (get-removed c.names gone k)
      ∙ ap (both (slice_get c.names (moved_down gone k))) (slice_get-map (renumbered (moved_up gone)) (remove c.relations gone) k ∙ ap (option_map (renumbered (moved_up gone))) (get-removed c.relations gone k)))
      ∙ tables_moved (moved_down gone k) (slice_get c.names (moved_down gone k)) (slice_get c.relations (moved_down gone k)) refl
      ∙ sym (get-removed (database_of c) gone k ∙ slice_get-map (tabled c.relations) (zip c.names c.relations) (moved_down gone k)
      ∙ ap (option_map (tabled c.relations)) (get-zip-both c.names c.relations (moved_down gone k))))
