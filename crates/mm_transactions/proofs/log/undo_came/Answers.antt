use Rattle.std.proofs.Common.{List, sym, ◌∙◌, ap, subst}
use Rattle.part_raw.specs.declared.tuple_ref.TupleRef.{TupleRef}
use Rattle.mm_catalog.specs.Outline.{HoldsOnce, IsOutline, outline_of, without_rows}
use Rattle.mm_transactions.proofs.Arrivals.{rows_behind}
use Rattle.mm_transactions.proofs.log.undo_came.Goals as goal

pub undo_step-requires-clause-ready : goal.undo_step-requires-clause-ready
undo_step-requires-clause-ready c =
    subst (λ (rows : List TupleRef). HoldsOnce (outline_of c.args.catalog.now) c.args.table.0 rows)
    (sym (rows_behind c.args.start c.args.refs.now.items c.deref_mut.result.now c.deref_mut.ensures.value)) c.requires.holds

pub undo_step-requires-clause-stands : goal.undo_step-requires-clause-stands
undo_step-requires-clause-stands c =
    subst (λ (rows : List TupleRef). IsOutline (without_rows c.args.table.0 rows (outline_of c.args.catalog.now)))
    (sym (rows_behind c.args.start c.args.refs.now.items c.deref_mut.result.now c.deref_mut.ensures.value)) c.requires.stands

pub returns-clause-gone : goal.returns-clause-gone
returns-clause-gone c =
    c.undo_step.ensures
    ∙ ap (λ (rows : List TupleRef). without_rows c.args.table.0 rows (outline_of c.args.catalog.now)) (rows_behind c.args.start c.args.refs.now.items c.deref_mut.result.now c.deref_mut.ensures.value)
