use Rattle.std.proofs.Common.{◌≡◌, ◌≤◌, ◌-◌, ◌∙◌, List, drop, length, take, sym, ap, subst, arith}
use Rattle.std.specs.Prelude.{IfOk, IfErr}
use Rattle.plain_tables.specs.Doing.{done}
use Rattle.plain_tables.specs.Tables.{Row}
use Rattle.plain_tables.specs.declared.resolved.Resolved.TheVariants as resolved
use Rattle.plain_tables.specs.declared.value.Value.{Value}
use Rattle.mm_catalog.specs.Changes.{IsRefusedFor}
use Rattle.mm_catalog.specs.LoadOrder.{first_row}
use Rattle.mm_catalog.specs.Loaded.{HasCome}
use Rattle.mm_catalog.specs.Seen.{database_of}
use Rattle.mm_catalog.specs.State.{CatalogState}
use Rattle.mm_catalog.proofs.TakenRows.{next_first, next_rest, next_within}
use Rattle.mm_catalog.proofs.load.MovedRowsLoadedRows.put_next.Goals as goal
use Rattle.mm_catalog.proofs.load.MovedRowsLoadedRows.put_next.Goals.{After-deref_mut}

-- where the next row stands
within : (c : After-deref_mut) → (c.self.inside.start ≤ c.index-end.result.now) × (c.index-end.result.now ≤ length c.self.inside.values.items)
within c =
    next_within c.self.inside.start c.self.inside.place c.self.inside.ends.items c.self.inside.values.items c.args.self.now c.index-end.result.now
    c.self.view_is c.requires.some c.self.invariant c.index-end.ensures

pub offset_bounds-deref_mut-start : goal.offset_bounds-deref_mut-start
offset_bounds-deref_mut-start c =
    let long = ap (λ (values : List Value). length values) c.deref_mut.ensures.value in
    omega (arith, within c, long, c.deref_mut.type_inv)

pub slice_bounds-put_moved-end : goal.slice_bounds-put_moved-end
slice_bounds-put_moved-end c =
    let long = ap (λ (values : List Value). length values) c.deref_mut.ensures.value in
    omega (arith, within c, long)

-- the row that came in is the first of those that were left
first : (c : After-deref_mut) → first_row c.args.self.now ≡ take (c.index-end.result.now - c.self.inside.start) (drop c.self.inside.start c.deref_mut.result.now)
first c =
    next_first c.self.inside.start c.self.inside.place c.self.inside.ends.items c.self.inside.values.items c.args.self.now c.index-end.result.now
    c.self.view_is c.requires.some c.self.invariant c.index-end.ensures
    ∙ ap (λ (values : List Value). take (c.index-end.result.now - c.self.inside.start) (drop c.self.inside.start values)) (sym c.deref_mut.ensures.value)

pub returns-clause-came : goal.returns-clause-came
returns-clause-came c =
    subst (λ (row : Row). IfOk c.put_moved.result (HasCome c.args.catalog.now c.put_moved.new.catalog c.args.table.0 row)) (sym (first (goal.at.returns-clause-came c).After-deref_mut)) c.put_moved.ensures.came

pub returns-clause-refused : goal.returns-clause-refused
returns-clause-refused c =
    let old : CatalogState = c.args.catalog.now in
    subst (λ (row : Row). IfErr c.put_moved.result (IsRefusedFor old c.put_moved.new.catalog (done old.limits (database_of old) (resolved.Insert c.args.table row)))) (sym (first (goal.at.returns-clause-refused c).After-deref_mut)) c.put_moved.ensures.refused

pub returns-clause-rest : goal.returns-clause-rest
returns-clause-rest c =
    next_rest c.self.inside.start c.self.inside.place c.self.inside.ends.items c.self.inside.values.items c.args.self.now c.index-end.result.now
    c.self.view_is c.requires.some c.self.invariant c.index-end.ensures c.deref_mut.result.now c.deref_mut.ensures.value c.put_moved.new.values c.put_moved.auto.values
    c.self.inside.values.len (omega (arith, c.self.inside.values.ok.0)) _
