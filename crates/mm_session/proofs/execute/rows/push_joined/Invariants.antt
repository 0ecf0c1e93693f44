use Rattle.std.proofs.Common.{[], take}
use Rattle.std.specs.Prelude.{slice_index_or}
use Rattle.mm_session.specs.Shown.{placed_values}
use Rattle.mm_session.specs.Sinks.{PutsValues}
use Rattle.mm_session.proofs.execute.rows.push_joined.Given as goal

abbrev pub invariant-loop-place : goal.invariant-loop-place
invariant-loop-place g l =
    PutsValues g.S.RowSink.received l.fn.sink l.sink (placed_values l.catalog l.list.sources (take l.place-index l.places) (slice_index_or l.list.rows l.row []))
