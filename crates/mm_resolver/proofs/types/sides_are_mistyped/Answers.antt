use Rattle.std.proofs.Common.{rules, tests, ◌≡◌, ◌∙◌, sym, position, Bool}
use Rattle.std.proofs.lemmas.Iterator.{YieldsList-from_slice}
use Rattle.std.proofs.lemmas.Iterator.Search.{position_from_yields_List}
use Rattle.std.proofs.lemmas.List.Folds.{list_any_none}
use Rattle.mm_resolver.specs.Select.{sides_differ}
use Rattle.mm_resolver.specs.declared.scope.Sides.{Sides}
use Rattle.mm_resolver.proofs.Columns.{position_none}
use Rattle.mm_resolver.proofs.types.sides_are_mistyped.Goals as goal

pub returns-in-None : goal.returns-in-None
returns-in-None g c =
    let sides = c.args.sides.now in
    let differ : Sides → Bool = sides_differ (g.S.Schemas.database c.args.schemas.now) in
    let place : c.position.result ≡ position differ sides =
    position_from_yields_List differ _ _ c.position.result c.position.ensures.ran (YieldsList-from_slice sides cc) (λ x b q k. search (rules, tests)) in
    sym (list_any_none differ sides (position_none differ sides (sym place ∙ c.in-None.is)))
