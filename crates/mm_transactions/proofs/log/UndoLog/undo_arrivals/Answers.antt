use Rattle.std.proofs.Common.{◌≡◌, ◌-◌, length, take, drop, ◌∙◌, ap, arith}
use Rattle.mm_catalog.specs.Outline.{outline_of}
use Rattle.mm_transactions.proofs.Arrivals.{arrivals_hold, arrivals_placed, arrivals_stand, arrivals_undone, arrivals_within}
use Rattle.mm_transactions.proofs.log.UndoLog.undo_arrivals.Goals as goal

pub overflow_sub-self : goal.overflow_sub-self
overflow_sub-self c =
    let i = c.self.inside in
    arrivals_within i.steps.items c.take_arrivals.new.steps.items c.in-Some.table.0 c.in-Some.count i.refs.items i.cells.items
    (c.in-Some.ensures.taken.1 (length i.refs.items) (length i.cells.items) c.self.invariant.placed) i.commands c.self.invariant

pub undo_came-requires-clause-within : goal.undo_came-requires-clause-within
undo_came-requires-clause-within c = omega (arith, c.len.ensures, c.self.inside.refs.ok.0)

pub undo_came-requires-clause-holds : goal.undo_came-requires-clause-holds
undo_came-requires-clause-holds c =
    let i = c.self.inside in
    let long : c.len.result ≡ length i.refs.items = omega (arith, c.len.ensures, i.refs.ok.0) in
    arrivals_hold i.steps.items c.take_arrivals.new.steps.items c.in-Some.table.0 c.in-Some.count i.refs.items i.cells.items
    (c.in-Some.ensures.taken.1 (length i.refs.items) (length i.cells.items) c.self.invariant.placed) (outline_of c.args.catalog.now) (rw (← c.self.view_is) at c.requires)
    (drop (c.len.result - c.in-Some.count) i.refs.items) (ap (λ n. drop (n - c.in-Some.count) i.refs.items) long)

pub undo_came-requires-clause-stands : goal.undo_came-requires-clause-stands
undo_came-requires-clause-stands c =
    let i = c.self.inside in
    let long : c.len.result ≡ length i.refs.items = omega (arith, c.len.ensures, i.refs.ok.0) in
    arrivals_stand i.steps.items c.take_arrivals.new.steps.items c.in-Some.table.0 c.in-Some.count i.refs.items i.cells.items
    (c.in-Some.ensures.taken.1 (length i.refs.items) (length i.cells.items) c.self.invariant.placed) (outline_of c.args.catalog.now) (rw (← c.self.view_is) at c.requires)
    (drop (c.len.result - c.in-Some.count) i.refs.items) (ap (λ n. drop (n - c.in-Some.count) i.refs.items) long)

pub invariant_of-self-2 : goal.invariant_of-self-2
invariant_of-self-2 c =
    let i = c.self.inside in
    let long : c.len.result ≡ length i.refs.items = omega (arith, c.len.ensures, i.refs.ok.0) in
    arrivals_placed i.steps.items c.take_arrivals.new.steps.items c.in-Some.table.0 c.in-Some.count i.refs.items i.cells.items
    (c.in-Some.ensures.taken.1 (length i.refs.items) (length i.cells.items) c.self.invariant.placed) i.commands c.self.invariant c.undo_came.new.refs.items
    (c.undo_came.ensures.left ∙ ap (λ n. take (n - c.in-Some.count) i.refs.items) long)

pub returns-clause-undone : goal.returns-clause-undone
returns-clause-undone c _ =
    let i = c.self.inside in
    let long : c.len.result ≡ length i.refs.items = omega (arith, c.len.ensures, i.refs.ok.0) in
    rw (← c.self.view_is) (arrivals_undone i.steps.items c.take_arrivals.new.steps.items c.in-Some.table.0 c.in-Some.count i.refs.items i.cells.items
    (c.in-Some.ensures.taken.1 (length i.refs.items) (length i.cells.items) c.self.invariant.placed) (outline_of c.args.catalog.now) (rw (← c.self.view_is) at c.requires)
    (drop (c.len.result - c.in-Some.count) i.refs.items) (ap (λ n. drop (n - c.in-Some.count) i.refs.items) long)
    (outline_of c.undo_came.new.catalog) c.args.most _ c.undo_came.new.refs.items (c.undo_came.ensures.left ∙ ap (λ n. take (n - c.in-Some.count) i.refs.items) long) c.in-Some.ensures.taken.0 c.undo_came.ensures.gone)
