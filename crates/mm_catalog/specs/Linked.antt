-- The links between the rows of relations.
use Rattle.std.specs.Prelude.{◌≡◌, ℕ, ◌-◌, ◌<◌, ◌==◌, ◌&&◌, Bool, List, [], Option, Some, IsSome, length, slice_get, count_by}
use Rattle.std.specs.List.{range_with_len, filter_map, flat_map, position}
use Rattle.std.specs.Option.{option_and_then, option_map, option_map_or}
use Rattle.std.specs.Ordering.{is_eq}
use Rattle.std.specs.Str.{bytes_eq}
use Rattle.std.specs.FinMap as finite
use Rattle.part_raw.specs.TupleRefs.{ref_cmp}
use Rattle.part_raw.specs.declared.tuple_ref.TupleRef.{TupleRef}
use Rattle.plain_tables.specs.References.{referred}
use Rattle.plain_tables.specs.declared.schema.Column.{Column}
use Rattle.plain_tables.specs.declared.value.Value.{Value}
use Rattle.plain_tables.specs.declared.value.Value.TheVariants.{Null}
use Rattle.mm_relation.specs.Rows.{Row}
use Rattle.mm_relation.specs.declared.row.Cell.TheVariants.{Held}
use Rattle.mm_relation.specs.Reading.{link_in}
use Rattle.mm_relation.specs.State.{tree_list, RelationState}

-- where the links of a column lead: the number of the table that it refers to
abbrev pub target_of : List (List ℕ) → Column → Option ℕ
target_of names column = option_and_then (λ name. position (λ n. bytes_eq n name) names) (referred column.kind)

-- a link: the number of the table that it leads into, and the row that it names
abbrev pub Linked : Type 0
Linked = ℕ × TupleRef

-- the table that the links of a column lead into
abbrev pub target_at : List (Option ℕ) → ℕ → Option ℕ
target_at targets column = option_and_then (λ t. t) (slice_get targets column)

-- the link that a row has in a column
abbrev pub link_at : List (Option ℕ) → Row → ℕ → Option Linked
link_at targets row column = option_and_then (λ table. option_map (λ to. (table, to)) (link_in column row)) (target_at targets column)

-- the links of a row, those of a relation, and those of all
unfoldable pub row_links : List (Option ℕ) → Row → List Linked
row_links targets row = filter_map (link_at targets row) (range_with_len 0 (length targets))

unfoldable pub relation_links : RelationState → List Linked
relation_links s = flat_map (λ r. option_map_or (row_links s.targets) (finite.get s.rows r) []) (tree_list s.by_key)

unfoldable pub links : List RelationState → List Linked
links relations = flat_map relation_links relations

-- whether a link names the row of this table
abbrev pub is_link_to : ℕ → TupleRef → Linked → Bool
is_link_to table r link = (link.0 == table) && is_eq (ref_cmp link.1 r)

-- how many links name a row
unfoldable pub links_to : List RelationState → ℕ → TupleRef → ℕ
links_to relations table r = count_by (is_link_to table r) (links relations)

-- in a column whose links lead somewhere a row has a link, or null
abbrev pub HasLinksOrNulls : List (Option ℕ) → Row → Type 0
HasLinksOrNulls targets row =
    (column : ℕ) (value : Value) → 0 < column → IsSome (target_at targets column) → slice_get row.cells (column - 1) ≡ Some (Held value) → value ≡ Null
