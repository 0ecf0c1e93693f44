use Rattle.std.proofs.lemmas.List.Filters.{FiltersInPlace}
use Rattle.plain_tables.specs.Queries.{stands}
use Rattle.temp_list.specs.Reading.{value_in}
use Rattle.temp_list.proofs.search.keep_standing.Given as goal

-- those of the rows so far are in front
abbrev pub invariant-loop-i : goal.invariant-loop-i
invariant-loop-i g l =
    FiltersInPlace (λ r. stands l.test.op (value_in (g.R.Relations.tables l.tables) l.relation l.test.column.0 r) l.test.value) l.initial.rows.items l.rows.items l.kept l.i
