use Rattle.std.proofs.Common.{◌∙◌, ◌+◌, IsSome, List, ap, drop, filter, take}
use Rattle.std.specs.FinMap as finite
use Rattle.std.proofs.lemmas.List.{take_rest}
use Rattle.std.proofs.lemmas.List.Elements.{All-filter}
use Rattle.plain_tables.specs.declared.resolved.Test.{Test}
use Rattle.temp_list.specs.Reading.{row_passes}
use Rattle.temp_list.proofs.Keeping.{keep_both}
use Rattle.temp_list.proofs.search.keep_passing_others.Goals as goal

pub keep_passing-requires-2-clause-held : goal.keep_passing-requires-2-clause-held
keep_passing-requires-2-clause-held g c =
    rw c.keep_passing.ensures
    (All-filter (row_passes (g.R.Relations.tables c.args.tables.now) c.args.relation.now (take c.args.n c.args.tests.now)) (λ r. IsSome (finite.get c.args.relation.now.rows r)) c.args.rows.now.items c.requires.held)

pub returns : goal.returns
returns g c =
    let front : List Test = take c.args.n c.args.tests.now in
    let behind : List Test = drop (c.args.n + 1) c.args.tests.now in
    c.keep_passing-2.ensures
    ∙ ap (λ (ts : List Test). filter (row_passes (g.R.Relations.tables c.args.tables.now) c.args.relation.now ts) c.keep_passing.new.rows.items) (take_rest c.args.tests.now (c.args.n + 1))
    ∙ ap (filter (row_passes (g.R.Relations.tables c.args.tables.now) c.args.relation.now behind)) c.keep_passing.ensures
    ∙ keep_both (g.R.Relations.tables c.args.tables.now) c.args.relation.now front behind c.args.rows.now.items
