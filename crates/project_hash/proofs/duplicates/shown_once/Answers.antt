use Rattle.std.proofs.Common.{refl, ◌≡◌, ◌∙◌, sym, subst, ap, ℕ, ◌<◌, ◌+◌, [], arith, List}
use Rattle.std.specs.List.{All, Contains}
use Rattle.std.proofs.lemmas.List.Elements.{Contains-get_or}
use borrow.Author.Count.{below_more}
use Rattle.indexmap.specs.IndexSet.{insert_key}
use Rattle.project_hash.specs.Shown.{ShownState, IsShown, alike, state_at, values_of}
use Rattle.project_hash.proofs.Once.{inserted_all, inserted_keeps, inserted_there, shows_once}
use Rattle.project_hash.proofs.duplicates.shown_once.Goals as goal

pub loop-place-preserved : goal.loop-place-preserved
loop-place-preserved g c =
    let relations = g.R.Relations.tables c.args.tables.now in
    let list = c.args.list.now in
    let row : ShownState = state_at relations list c.loop-place.place in
    let keys : c.insert.new.self.keys ≡ insert_key alike c.loop-place.rows.keys row = c.in_ok-insert.ensures.keys ∙ ap (λ (r : ShownState). insert_key alike c.loop-place.rows.keys r) c.new.ensures in
    let shows : List ShownState → ℕ → Type 0 = λ rows k. Contains (values_of rows) (state_at relations list k).values in
    record {
      some = subst (All (IsShown relations list)) (sym keys)
          (inserted_all (IsShown relations list) c.loop-place.rows.keys row c.loop-place.invariant.some (Contains-get_or list.rows c.loop-place.place [] (omega arith), refl));
      all = subst (λ (rows : List ShownState). (k : ℕ) → k < c.loop-place.place + 1 → shows rows k) (sym keys)
          (below_more (shows (insert_key alike c.loop-place.rows.keys row)) c.loop-place.place
          (λ k below. inserted_keeps c.loop-place.rows.keys row (state_at relations list k).values (c.loop-place.invariant.all k below)) (inserted_there c.loop-place.rows.keys row));
    }

pub returns : goal.returns
returns g c =
    let enough = c.loop-place.invariant.all in
    shows_once (g.R.Relations.tables c.args.tables.now) c.args.list.now c.loop-place.rows.keys c.sort.new.self.keys c.loop-place.invariant.some (λ k within. c.loop-place.invariant.all k (omega arith))
    c.in_ok-sort.ensures.reordered.0 c.in_ok-sort.ensures.sorted c.in_ok-sort.ensures.unique
