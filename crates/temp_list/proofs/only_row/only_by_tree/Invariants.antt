use Rattle.std.proofs.Common.{◌≡◌, ◌++◌, filter}
use Rattle.std.specs.Option.{option_to_list}
use Rattle.ttree.specs.Held.{rest_of}
use Rattle.mm_index.specs.Range.{from_range}
use Rattle.mm_relation.specs.Changes.{list_of}
use Rattle.plain_tables.specs.declared.condition.Op.TheVariants as op
use Rattle.temp_list.specs.Ranges.{place_of}
use Rattle.temp_list.specs.Reading.{row_passes, value_in}
use Rattle.temp_list.proofs.only_row.only_by_tree.Given as goal

-- of the rows so far this one passes, or none
abbrev pub invariant-loop-r : goal.invariant-loop-r
invariant-loop-r g l = record {
  split : from_range (λ r. place_of op.Eq (value_in (g.R.Relations.tables l.tables) l.relation l.test.column.0 r) l.test.value) (list_of l.relation l.test.column.0) ≡ l.yielded ++ rest_of l.r-iterator;
  only : filter (row_passes (g.R.Relations.tables l.tables) l.relation l.tests) l.yielded ≡ option_to_list l.found;
}
