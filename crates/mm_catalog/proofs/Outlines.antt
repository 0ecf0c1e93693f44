-- What keys and links read of relations: where their links lead, their rows, and the order of their keys.
use Rattle.std.proofs.Common.{◌≡◌, ℕ, ◌<◌, List, [], Option, Some, None, refl, sym, ap, ◌∙◌, map, take}
use Rattle.std.specs.List.{slice_get, flat_map}
use Rattle.std.specs.Option.{option_and_then, option_map, option_map_or}
use Rattle.std.specs.FinMap as finite
use Rattle.std.proofs.lemmas.Option.{slice_get-map}
use Rattle.std.proofs.lemmas.List.Folds.{flat_map-map}
use Rattle.part_raw.specs.declared.tuple_ref.TupleRef.{TupleRef}
use Rattle.part_raw.specs.Store.{Tuples}
use Rattle.mm_relation.specs.Rows.{Row}
use Rattle.plain_tables.specs.declared.value.Value.{Value}
use Rattle.mm_relation.specs.Reading.{key_at}
use Rattle.mm_relation.specs.State.{tree_list, RelationState, linked_keys}
use Rattle.mm_catalog.specs.Linked.{Linked, target_at, row_links, relation_links, links}
use Rattle.mm_catalog.proofs.Lists.{get-take}

abbrev pub Outline : Type 0
Outline = List (Option ℕ) × Tuples Row × List TupleRef

abbrev pub outline : RelationState → Outline
outline s = (s.targets, s.rows, (tree_list s.by_key))

abbrev pub outlines : List RelationState → List Outline
outlines relations = map outline relations

-- ---- keys

abbrev key_in : TupleRef → Option Outline → Option Value
key_in to found = option_and_then (λ o. key_at o.1 to) found

key_of_outline : (to : TupleRef) (found : Option RelationState) → option_and_then (λ s. key_at s.rows to) found ≡ key_in to (option_map outline found)
key_of_outline to None = refl
key_of_outline to (Some s) = refl

key_from : (relations : List RelationState) (target : Option ℕ) (to : TupleRef) → option_and_then (λ s. key_at s.rows to) (option_and_then (slice_get relations) target) ≡ key_in to (option_and_then (slice_get (outlines relations)) target)
key_from relations None to = refl
key_from relations (Some n) to =
    key_of_outline to (slice_get relations n) ∙ ap (key_in to) (sym (slice_get-map outline relations n))

-- relations of the same outlines lead to the same keys
pub same_keys : (targets : List (Option ℕ)) (now relations : List RelationState) → outlines now ≡ outlines relations → linked_keys targets now ≡ linked_keys targets relations
same_keys targets now relations e = λ i column to.
    (key_from now (target_at targets column) to
    ∙ ap (λ all. key_in to (option_and_then (slice_get all) (target_at targets column))) e
    ∙ sym (key_from relations (target_at targets column) to)) i

-- links lead into tables before this one
abbrev pub LeadBack : List (Option ℕ) → ℕ → Type 0
LeadBack targets n = (column t : ℕ) → target_at targets column ≡ Some t → t < n

-- so the tables before it are all that its keys are read from
before_at : (relations : List RelationState) (n : ℕ) (target : Option ℕ) → ((t : ℕ) → target ≡ Some t → t < n) → option_and_then (slice_get (take n relations)) target ≡ option_and_then (slice_get relations) target
before_at relations n None back = refl
before_at relations n (Some t) back = get-take relations n t (back t refl)

pub keys_before : (targets : List (Option ℕ)) (relations : List RelationState) (n : ℕ) → LeadBack targets n → linked_keys targets (take n relations) ≡ linked_keys targets relations
keys_before targets relations n back = λ i column to.
    option_and_then (λ s. key_at s.rows to) (before_at relations n (target_at targets column) (back column) i)

-- ---- links

abbrev outline_links : Outline → List Linked
outline_links o = flat_map (λ r. option_map_or (row_links o.0) (finite.get o.1 r) []) o.2

links_from : (relations : List RelationState) → links relations ≡ flat_map outline_links (outlines relations)
unfolding links relation_links
links_from relations = sym (flat_map-map outline_links outline relations)

-- relations of the same outlines have the same links
pub same_links : (now relations : List RelationState) → outlines now ≡ outlines relations → links now ≡ links relations
same_links now relations e = links_from now ∙ ap (flat_map outline_links) e ∙ sym (links_from relations)
