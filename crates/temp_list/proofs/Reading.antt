-- What is read of a row of relations that are sound.
use Rattle.std.proofs.Common.{◌≡◌, ℕ, ◌<◌, List, Some, IsSome, length, refl, sym, ap, ◌∙◌, subst, arith, Bool, true, ◌&&◌, [], ◌∷◌, drop, drop-cons, add-one, get_or, suc, ◌+◌}
use Rattle.std.specs.Prelude.{slice_get}
use Rattle.std.specs.Option.{option_and_then}
use Rattle.std.specs.FinMap as finite
use Rattle.common_lemmas.proofs.Elements.{All-at}
use Rattle.part_raw.specs.declared.tuple_ref.TupleRef.{TupleRef}
use Rattle.plain_tables.specs.declared.value.Value.{Value}
use Rattle.plain_tables.specs.declared.resolved.Test.{Test}
use Rattle.plain_tables.specs.Queries.{stands}
use Rattle.mm_relation.specs.Reading.{Keys, row_value}
use Rattle.mm_relation.specs.State.{RelationState, LentRow, IsKept, IsCurrent, linked_keys}
use Rattle.temp_list.specs.Reading.{AreSound, or_null, value_in, row_passes}

-- a relation of sound ones
pub sound_at : (relations : List RelationState) → AreSound relations → (n : ℕ) (s : RelationState) → slice_get relations n ≡ Some s → IsKept s × IsCurrent (linked_keys s.targets relations) s
sound_at relations sound n s at = All-at (λ t. IsKept t × IsCurrent (linked_keys t.targets relations) t) relations n s sound.each at

module _ (relations : List RelationState) (s : RelationState) (r : TupleRef) (row : LentRow) (there : finite.get s.rows r ≡ Some row.row) (aims : row.targets ≡ s.targets) where
  abbrev keys : Keys
  keys = linked_keys s.targets relations

  -- what is read of it is what is read under the keys that the links of the relation lead to
  read : (column : ℕ) → row_value keys column row.row ≡ row_value (linked_keys row.targets relations) column row.row
  read column = ap (λ targets. row_value (linked_keys targets relations) column row.row) (sym aims)

  -- its value in a column that is there can be read
  pub can_read : IsKept s → IsCurrent keys s → (column : ℕ) → column < length s.schema.columns → IsSome (row_value (linked_keys row.targets relations) column row.row)
  can_read kept current column within = subst IsSome (read column) (current.readable r row.row there column (omega (arith, kept.width)))

  -- and this is what the row has there
  pub lent_value : (column : ℕ) (value : Value) → row_value (linked_keys row.targets relations) column row.row ≡ Some value → value ≡ value_in relations s column r
  lent_value column value e = sym (ap (λ o. or_null (option_and_then (row_value keys column) o)) there ∙ ap or_null (read column ∙ e))

  -- whether it passes tests is told by the first of them, and then by the others
  pub passes_from : (tests : List Test) (i : ℕ) (test : Test) (value : Value) (b : Bool) → i < length tests → test ≡ get_or tests i test → row_value (linked_keys row.targets relations) test.column.0 row.row ≡ Some value → b ≡ stands test.op value test.value → row_passes relations s (drop i tests) r ≡ (b && row_passes relations s (drop (i + 1) tests) r)
  passes_from tests i test value b within item read_so told =
      let first : drop i tests ≡ test ∷ drop (i + 1) tests = rw (add-one, drop-cons tests i test within) (ap (λ t. t ∷ drop (suc i) tests) (sym item)) in
      ap (λ ts. row_passes relations s ts r) first
      ∙ ap (λ c. c && row_passes relations s (drop (i + 1) tests) r) (sym (told ∙ ap (λ v. stands test.op v test.value) (lent_value test.column.0 value read_so)))

-- where no test is made each row passes
pub passes_none : (relations : List RelationState) (s : RelationState) (r : TupleRef) (tests : List Test) → length tests ≡ 0 → true ≡ row_passes relations s tests r
passes_none relations s r [] none = refl
passes_none relations s r (test ∷ tests) none = absurd (omega arith)
