-- A statement without holes: no value of it is to come.
use Rattle.std.proofs.Common.{◌≡◌, List, [], ◌∷◌, ◌++◌, map, Option, Some, None, refl, sym, ◌∙◌}
use Rattle.std.specs.Prelude.{zip}
use Rattle.std.specs.List.{filter_map, cons_option, flat_map}
use Rattle.std.specs.Option.{option_map}
use Rattle.std.proofs.lemmas.Grind.{flat_map-append}
use Rattle.std.proofs.lemmas.List.Elements.{filter_map-append}
use Rattle.plain_tables.specs.declared.schema.Column.{Column}
use Rattle.plain_statements.specs.declared.resolution.Need.{Need}
use Rattle.plain_statements.specs.declared.statement.Slot.{Slot}
use Rattle.plain_statements.specs.declared.statement.Slot.TheVariants.{Given, Hole}
use Rattle.plain_statements.specs.Slots.{Needed, want_of, wants_of}
use Rattle.plain_statements.specs.StatementSpelling.{numbers_of}

-- both parts of an empty list are empty
both-empty : {X : Type 0} (xs ys : List X) → xs ++ ys ≡ [] → (xs ≡ []) × (ys ≡ [])
both-empty [] ys none = (refl, none)
both-empty (x ∷ xs) ys none = absurd (cc)

-- what is no hole wants nothing
no-want : (s : Slot) (need : Need) (rest : List Needed) → numbers_of s ≡ [] → wants_of rest ≡ [] → wants_of ((s, need) ∷ rest) ≡ []
no-want (Given v) need rest none others = others
no-want (Hole n) need rest none others = absurd (cc)

-- Slots of which each is needed where it is found. Where none is a hole, none is wanted.
pub none-wanted : {X J : Type 0} (slot : X → Slot) (found : X → Option J) (need : X → J → Need) (xs : List X) → flat_map numbers_of (map slot xs) ≡ []
    → wants_of (filter_map (λ x. option_map (λ j. (slot x, need x j)) (found x)) xs) ≡ []
none-wanted slot found need [] none = refl
none-wanted {J = J} slot found need (x ∷ xs) none =
    let parts = both-empty (numbers_of (slot x)) (flat_map numbers_of (map slot xs)) none in
    let rest : List Needed = filter_map (λ y. option_map (λ j. (slot y, need y j)) (found y)) xs in
    let others = none-wanted slot found need xs parts.1 in
    elim (found x) as (λ (o : Option J). wants_of (cons_option (option_map (λ j. (slot x, need x j)) o) rest) ≡ []) [
      | None ↦ others
      | Some j ↦ no-want (slot x) (need x j) rest parts.0 others
    ]

-- the same of the slots of a row
pub none-wanted-of-row : (need : Column → Need) (columns : List Column) (slots : List Slot) → flat_map numbers_of slots ≡ []
    → wants_of (map (λ c. (c.1, need c.0)) (zip columns slots)) ≡ []
none-wanted-of-row need [] slots none = refl
none-wanted-of-row need (c ∷ columns) [] none = refl
none-wanted-of-row need (c ∷ columns) (s ∷ slots) none =
    let parts = both-empty (numbers_of s) (flat_map numbers_of slots) none in
    no-want s (need c) (map (λ p. (p.1, need p.0)) (zip columns slots)) parts.0 (none-wanted-of-row need columns slots parts.1)

-- and of two lists of them
pub none-wanted-of-both : (first second : List Slot) (xs ys : List Needed) → (flat_map numbers_of first ≡ [] → wants_of xs ≡ [])
    → (flat_map numbers_of second ≡ [] → wants_of ys ≡ []) → flat_map numbers_of (first ++ second) ≡ [] → wants_of (xs ++ ys) ≡ []
none-wanted-of-both first second xs ys none others all =
    let parts = both-empty (flat_map numbers_of first) (flat_map numbers_of second) (sym (flat_map-append numbers_of first second) ∙ all) in
    filter_map-append want_of xs ys ∙ (λ i. none parts.0 i ++ others parts.1 i)
