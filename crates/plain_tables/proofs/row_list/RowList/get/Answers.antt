use Rattle.std.proofs.Common.{◌≡◌, ◌-◌, ◌∷◌, Some, None, get_or, drop, take, length, sym, ap, ◌∙◌}
use Rattle.std.specs.List.{slice_get}
use Rattle.std.proofs.lemmas.Option.{slice_get_past, slice_get-get_or}
use Rattle.plain_tables.specs.Tables.{Row}
use Rattle.plain_tables.proofs.RowLists.{no_row, rise-at, row_there}
use Rattle.plain_tables.proofs.row_list.RowList.get.Goals as goal
use Rattle.plain_tables.proofs.row_list.RowList.get.Goals.{After-from_residual, After-deref-3}

-- where no row ends
past : (c : After-from_residual) → slice_get c.self.inside.ends.items c.args.place ≡ None
past c = ap (λ ends. slice_get ends c.args.place) (sym c.deref.ensures.value) ∙ slice_get_past c.deref.result.now c.args.place c.in_err-end.ensures.lookup.3

pub returns-in_err-end : goal.returns-in_err-end
returns-in_err-end c =
    rw (c.from_residual.ensures, ← c.self.view_is) (sym (no_row 0 c.self.inside.ends.items c.self.inside.values.items c.args.place (past c)))

-- where the row ends
there : (c : After-deref-3) → slice_get c.self.inside.ends.items c.args.place ≡ Some c.in_ok-end.field-0.now
there c =
    ap (λ ends. slice_get ends c.args.place) (sym c.deref.ensures.value)
    ∙ slice_get-get_or c.deref.result.now c.args.place 0 c.in_ok-end.ensures.lookup.3.0 ∙ ap Some (sym (c.in_ok-end.ensures.lookup.3.1 0))

start : (c : After-deref-3) → c.start_of-start.result ≡ get_or (0 ∷ c.self.inside.ends.items) c.args.place 0
start c = c.start_of-start.ensures ∙ ap (λ ends. get_or (0 ∷ ends) c.args.place 0) c.deref-2.ensures.value

pub between-requires : goal.between-requires
between-requires c =
    let within = rise-at 0 c.self.inside.ends.items (length c.self.inside.values.items) c.self.invariant c.args.place c.in_ok-end.field-0.now (there c) in
    rw (start c, c.deref-3.ensures.value) within

pub returns : goal.returns
returns c =
    let at = (goal.at.returns c).After-deref-3 in
    rw (← c.self.view_is, row_there 0 c.self.inside.ends.items c.self.inside.values.items c.args.place c.in_ok-end.field-0.now (there at), ← start at)
    (ap (λ (row : Row). Some row) (c.between.ensures ∙ ap (λ values. take (c.in_ok-end.field-0.now - c.start_of-start.result) (drop c.start_of-start.result values)) c.deref-3.ensures.value))
