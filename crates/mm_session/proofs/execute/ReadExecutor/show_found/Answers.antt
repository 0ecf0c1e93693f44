use Rattle.std.proofs.Common.{◌≡◌, ◌++◌, ◌∙◌, ◌<◌, List, ap, sym, subst, drop, length, map, refl, take}
use Rattle.std.specs.List.{All, flat_map}
use Rattle.std.specs.List.{drop-map}
use Rattle.std.proofs.lemmas.List.{take-map}
use Rattle.mm_cells.specs.Values.{values_of}
use Rattle.mm_cells.specs.declared.cells.Cells.{Cells}
use Rattle.plain_tables.specs.Tables.{Row}
use Rattle.plain_tables.specs.declared.numbers.Place.{Place}
use Rattle.temp_list.specs.Lists.{HasPlace}
use Rattle.mm_session.specs.Shown.{placed_values}
use Rattle.mm_session.specs.Sinks.{PutsRows}
use Rattle.mm_session.proofs.Sinks.{values_put}
use Rattle.mm_session.proofs.execute.ReadExecutor.show_found.Goals as goal

pub push_page-requires : goal.push_page-requires
push_page-requires c =
    let can = c.requires in
    λ κs. (
      (refl, tt),
      (
        can.over,
        (
          subst (All (HasPlace c.args.catalog.now.relations c.args.found.now.list.sources)) (sym c.columns.ensures) can.over.columns,
          subst (λ (ps : List Place). 0 < length ps) (sym c.columns.ensures) can.some,
        ),
      ),
    )

-- what cells have received
abbrev received : Cells → List Row → Row → Cells → Type 0
received start rows part now = values_of now ≡ values_of start ++ (flat_map (λ row. row) rows ++ part)

pub returns-clause-shown : goal.returns-clause-shown
returns-clause-shown c =
    let catalog = c.args.catalog.now in
    let list = c.args.found.now.list in
    let shown = placed_values catalog list.sources list.columns in
    let page = take c.args.most (drop c.args.from list.rows) in
    let same = ap (take c.args.most) (drop-map shown c.args.from list.rows) ∙ take-map shown c.args.most (drop c.args.from list.rows) in
    values_put values_of c.clear.new.self c.push_page.new.sink (map shown page) c.clear.ensures
    (subst (λ (ps : List Place). PutsRows received c.clear.new.self c.push_page.new.sink (map (placed_values catalog list.sources ps) page)) c.columns.ensures c.in_ok-push_page.ensures.put)
    ∙ ap (flat_map (λ row. row)) (sym same)
