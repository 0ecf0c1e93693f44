-- What is read of a row of a list.
use Rattle.std.proofs.Common.{◌≡◌, ℕ, ◌<◌, List, [], Some, length, get_or, ap, ◌∙◌, sym, arith}
use Rattle.std.specs.Prelude.{slice_get}
use Rattle.std.specs.Option.{option_map}
use Rattle.std.proofs.lemmas.List.{length-map}
use Rattle.std.proofs.lemmas.Option.{slice_get-map, slice_get-get_or}
use Rattle.part_raw.specs.declared.tuple_ref.TupleRef.{TupleRef}
use Rattle.plain_tables.specs.declared.numbers.Place.{Place}
use Rattle.plain_tables.specs.declared.value.Value.{Value}
use Rattle.mm_relation.specs.State.{RelationState}
use Rattle.temp_list.specs.Lists.{ListState, value_of}
use Rattle.project_hash.specs.Shown.{state_at}

-- the value that is read in a column is the one that is shown there
pub value_shown : (relations : List RelationState) (list : ListState) (place column : ℕ) (v : Value) → place < length list.rows → column < length (state_at relations list place).values
    → ((row : List TupleRef) (at : Place) → slice_get list.rows place ≡ Some row → slice_get list.columns column ≡ Some at → v ≡ value_of relations list.sources row at)
    → slice_get (state_at relations list place).values column ≡ Some v
value_shown relations list place column v within inside read =
    let row : List TupleRef = get_or list.rows place [] in
    let shows : Place → Value = value_of relations list.sources row in
    let d : Place = record { source = 0; column = record { 0 = 0 } } in
    let there : slice_get list.columns column ≡ Some (get_or list.columns column d) = slice_get-get_or list.columns column d (omega (arith, length-map list.columns shows)) in
    slice_get-map shows list.columns column ∙ ap (option_map shows) there
    ∙ ap (λ (w : Value). Some w) (sym (read row (get_or list.columns column d) (slice_get-get_or list.rows place [] within) there))
