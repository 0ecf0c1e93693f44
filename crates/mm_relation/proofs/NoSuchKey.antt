-- A key that no row of a relation has, beside the list that has them all.
use Rattle.std.proofs.Common.{◌≢◌, List, Option, Some, None, IsSome, is_some, ap, ◌∙◌, IfNone}
use Rattle.std.specs.List.{All}
use Rattle.std.specs.Option.{option_cmp}
use Rattle.std.specs.declared.cmp.Ordering.TheVariants.{Equal}
use Rattle.std.proofs.lemmas.List.Elements.{All-contains}
use Rattle.std.specs.FinMap.{get}
use Rattle.part_raw.specs.declared.tuple_ref.TupleRef.{TupleRef}
use Rattle.part_raw.specs.Store.{Tuples}
use Rattle.plain_tables.specs.declared.value.Value.{Value}
use Rattle.plain_tables.specs.Values.{value_cmp}
use Rattle.mm_relation.specs.Rows.{Row}
use Rattle.mm_relation.specs.Reading.{value_at, key_at}
use Rattle.mm_relation.specs.Order.{held_from_value}
use Rattle.mm_relation.specs.State.{ListsRows, no_keys}
use Rattle.mm_relation.proofs.Placing.{option_cmp-self}

-- where no reference of the list of all rows has this key, no row has it
pub no_row_with_key : (rows : Tuples Row) (list : List TupleRef) (key : Value) (o : Option TupleRef) → ListsRows rows list → IfNone o (All (λ r. option_cmp value_cmp (value_at no_keys 0 rows r) (Some key) ≢ Equal) list) → IfNone o ((r : TupleRef) → key_at rows r ≢ Some key)
no_row_with_key rows list key (Some q) lists h = tt
no_row_with_key rows list key None lists h = λ r e.
    let held : IsSome (get rows r) = held_from_value no_keys 0 rows r (ap is_some e) in
    All-contains (λ q. option_cmp value_cmp (value_at no_keys 0 rows q) (Some key) ≢ Equal) list r h (lists.listed r held)
    (ap (λ v. option_cmp value_cmp v (Some key)) e ∙ option_cmp-self (Some key))
