use Rattle.std.proofs.Common.{◌≡◌, ◌<◌, ◌++◌, ℕ, List, length}
use Rattle.std.specs.List.{flat_map, slice_index_or}
use Rattle.mm_catalog.specs.Indexes.{TellsIndex}
use Rattle.mm_catalog.specs.declared.indexes.TableIndex.{TableIndex}
use Rattle.mm_session.specs.IndexAnswers.{index_line}
use Rattle.mm_session.proofs.execute.indexes.push_indexes.Given as goal

-- so many indexes were told
abbrev pub invariant-loop-number : goal.invariant-loop-number
invariant-loop-number l =
    (told : List TableIndex) × (length told ≡ l.number) × ((k : ℕ) (d : TableIndex) → k < length told → TellsIndex l.catalog l.table.0 k (slice_index_or told k d)) × (l.answer ≡ l.fn.answer ++ flat_map (index_line l.columns) told)
