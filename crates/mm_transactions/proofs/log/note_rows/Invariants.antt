use Rattle.std.proofs.Common.{◌≡◌, ◌++◌, take}
use Rattle.std.specs.Prelude.{vec_capacity}
use Rattle.mm_transactions.proofs.log.note_rows.Given as goal

abbrev pub invariant-loop-r : goal.invariant-loop-r
invariant-loop-r l = record {
  items : l.refs.items ≡ l.initial.refs.items ++ take l.r-index l.rows;
  capacity : vec_capacity l.refs ≡ vec_capacity l.initial.refs;
}
