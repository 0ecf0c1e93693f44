use Rattle.std.proofs.Common.{rules, tests, ◌≡◌, ◌∙◌, sym, not, position, Bool}
use Rattle.std.proofs.lemmas.Iterator.{YieldsList-from_slice}
use Rattle.std.proofs.lemmas.Iterator.Search.{position_from_yields_List}
use Rattle.std.proofs.lemmas.List.Folds.{list_any_none}
use Rattle.plain_tables.specs.References.{refers_into}
use Rattle.plain_tables.specs.declared.schema.Column.{Column}
use Rattle.mm_resolver.proofs.Columns.{position_none}
use Rattle.mm_resolver.proofs.checks.refers_to_missing.Goals as goal

pub returns-in-None : goal.returns-in-None
returns-in-None g c =
    let columns = c.args.columns.now in
    let missing : Column → Bool = λ k. not (refers_into (g.S.Schemas.database c.args.schemas.now) k) in
    let place : c.position.result ≡ position missing columns =
    position_from_yields_List missing _ _ c.position.result c.position.ensures.ran (YieldsList-from_slice columns cc) (λ x b q k. search (rules, tests)) in
    sym (list_any_none missing columns (position_none missing columns (sym place ∙ c.in-None.is)))
