use Rattle.std.proofs.Common.{◌<◌, length, slice_get, Some, ◌≡◌, subst, sym}
use Rattle.project_hash.specs.Shown.{ShownState}
use Rattle.project_hash.proofs.Reading.{value_shown}
use Rattle.project_hash.proofs.shown.ShownRowShowsValues.value.Goals as goal

pub returns : goal.returns
returns g c =
    let has_column : ShownState → Type 0 = λ s. c.args.column < length s.values in
    let shows : ShownState → Type 0 = λ s. slice_get s.values c.args.column ≡ Some c.value.result.now in
    subst shows c.self.view_is
    (value_shown (g.R.Relations.tables c.self.inside.tables.now) c.self.inside.list.now c.self.inside.place c.args.column c.value.result.now
    c.self.invariant.within (subst has_column (sym c.self.view_is) c.requires) c.value.ensures)
