-- Rows that rise by the keys of their first source alone.
use Rattle.std.proofs.Common.{◌≡◌, ℕ, ℤ, ◌+◌, ◌-◌, ◌<◌, ◌<ℤ◌, List, [], ◌∷◌, ◌∙◌, ap, Option, Some, inl, inr, eq-zero-or-pos, refl, sym, subst, arith, map, get_or}
use Rattle.std.specs.Prelude.{slice_get}
use Rattle.std.specs.List.Sorted.{IsSorted}
use Rattle.std.specs.Cmp.{int_cmp_is}
use Rattle.std.specs.Ordering.{int_cmp}
use Rattle.std.specs.declared.cmp.Ordering.TheVariants.{Greater}
use Rattle.std.proofs.lemmas.Option.{same_Some}
use Rattle.part_raw.specs.declared.tuple_ref.TupleRef.{TupleRef}
use Rattle.plain_tables.specs.declared.numbers.TableNumber.{TableNumber}
use Rattle.plain_tables.specs.declared.value.Value.{Value}
use Rattle.plain_tables.specs.declared.value.Value.TheVariants.{Int}
use Rattle.smallvec.specs.SmallVec.{SmallVec}
use Rattle.mm_relation.specs.State.{RelationState}
use Rattle.temp_list.specs.Leading.{LeadsWith, AreLedByRising}
use Rattle.temp_list.specs.Lists.{row_keys}
use Rattle.temp_list.specs.Seen.{listed_cmp}

module _ {A : Type 0} (HasKey : A → ℤ → Type 0) where
  -- each element below this place but the last has a lesser key than the one behind it
  abbrev pub RiseBelow : List A → ℕ → Type 0
  RiseBelow xs n = (k : ℕ) (d : A) → k + 1 < n → (a : ℤ) × (b : ℤ) × HasKey (get_or xs k d) a × HasKey (get_or xs (k + 1) d) b × (a <ℤ b)

  -- the key of the element before this place, where there is one
  abbrev pub IsLastOf : List A → ℕ → Option ℤ → Type 0
  IsLastOf xs n last = (k : ℕ) (d : A) → k + 1 ≡ n → (key : ℤ) × (last ≡ Some key) × HasKey (get_or xs k d) key

  -- one more
  pub rise_more : (xs : List A) (n : ℕ) (last after : Option ℤ) (key : ℤ) → RiseBelow xs n → IsLastOf xs n last
      → ((before : ℤ) → last ≡ Some before → before <ℤ key) → ((d : A) → HasKey (get_or xs n d) key) → after ≡ Some key
      → RiseBelow xs (n + 1) × IsLastOf xs (n + 1) after
  rise_more xs n last after key rise was above here is = (
    λ k d l.
        elim (eq-zero-or-pos (n - (k + 1))) [
          | inr less ↦ rise k d (omega (arith, less))
          | inl none ↦
              let same : k + 1 ≡ n = omega (arith, none, l) in
              let before = was k d same in
              (before.0, key, before.2, subst (λ (m : ℕ). HasKey (get_or xs m d) key) (sym same) (here d), above before.0 before.1)
        ],
    λ k d e. let same : k ≡ n = omega (arith, e) in (key, is, subst (λ (m : ℕ). HasKey (get_or xs m d) key) (sym same) (here d)),
  )

-- the keys of a row whose first source leads with one
led_keys : (relations : List RelationState) (s : RelationState) (table : TableNumber) (others : List TableNumber) → slice_get relations table.0 ≡ Some s → (row : List TupleRef) (key : ℤ)
    → LeadsWith s row key → (rest : List (Option Value)) × (row_keys relations (map (λ t. t.0) (table ∷ others)) row ≡ Some (Int key) ∷ rest)
led_keys relations s table others there row key led =
    let rest = row_keys relations (map (λ t. t.0) others) led.rest in
    (rest, rw (led.split, there, led.leads) refl)

pub above_told : (a b : ℤ) → a <ℤ b → int_cmp b a ≡ Greater
above_told a b less = sym (int_cmp_is b a Greater less)

-- rows that rise by the keys of their first source are in the order of all keys
pub led_sorted : (relations : List RelationState) (s : RelationState) (table : TableNumber) (others : List TableNumber) (rows : List (SmallVec TupleRef))
    → slice_get relations table.0 ≡ Some s → AreLedByRising s rows → IsSorted (listed_cmp relations (table ∷ others)) rows
led_sorted relations s table others rows there led = λ k d z l.
    let pair = led k d l in
    let lower = led_keys relations s table others there (get_or rows k d).items pair.0 pair.2 in
    let upper = led_keys relations s table others there (get_or rows (k + 1) d).items pair.1 pair.3 in
    rw (lower.1, upper.1, above_told pair.0 pair.1 pair.4) refl

pub first_sorted : (relations : List RelationState) (s : RelationState) (sources : List TableNumber) (table : TableNumber) (rows : List (SmallVec TupleRef))
    → slice_get sources 0 ≡ Some table → slice_get relations table.0 ≡ Some s → AreLedByRising s rows → IsSorted (listed_cmp relations sources) rows
first_sorted relations s [] table rows first there led = cc
first_sorted relations s (t ∷ others) table rows first there led =
    led_sorted relations s t others rows (ap (λ (u : TableNumber). slice_get relations u.0) (same_Some t table first) ∙ there) led
