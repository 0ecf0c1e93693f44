use Rattle.std.proofs.Common.{◌∙◌, ap, length, sym}
use Rattle.std.proofs.lemmas.List.{length-map}
use Rattle.mm_session.specs.Members.{tables_at}
use Rattle.mm_session.specs.Shown.{heading}
use Rattle.mm_session.proofs.execute.ReadExecutor.find_shown.Goals as goal

pub returns-clause-found : goal.returns-clause-found
returns-clause-found c =
    let list = c.in_ok-list.list in
    let shows = c.in_ok-list.ensures in (
      shows.can,
      sym (length-map list.columns (heading (tables_at c.args.catalog.now list.sources))) ∙ ap length shows.names,
      shows.rows,
    )
