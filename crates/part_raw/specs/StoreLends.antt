-- What a store ends as where a `&mut` to the cells of one of its tuples is given out.
use Rattle.std.specs.Prelude.{List}
use Rattle.std.specs.Borrow.{Fml, RattleType, MutBor, Array, Lends}
use Rattle.std.specs.List.{refill}
use Rattle.part_raw.specs.Store.{Store, with_cells}
use Rattle.part_raw.specs.declared.tuple_ref.TupleRef.{TupleRef}
use Rattle.part_raw.specs.contracts.store.Partitions.{the_row}

-- The tuple under the reference ends with the last cells written through the slice, which are as many as they were. All else
-- stays, its count too.
abbrev pub LendsCells : (T : RattleType) → MutBor (Store T.Denot) → TupleRef → MutBor (List T.Denot) → Fml
LendsCells T s r cells = Lends (the_row T) (Array T 0) s cells (λ row. with_cells s.now r (refill s.now.width cells.now row))
