use Rattle.std.proofs.Common.{◌∙◌, ◌<◌, List, ap, sym, subst, length, map, refl, take}
use Rattle.std.specs.List.{All}
use Rattle.std.proofs.lemmas.List.{length-map, take-map}
use Rattle.plain_tables.specs.declared.numbers.Place.{Place}
use Rattle.temp_list.specs.Lists.{HasPlace}
use Rattle.mm_session.specs.Members.{tables_at}
use Rattle.mm_session.specs.Shown.{heading, placed_values}
use Rattle.mm_session.specs.Sinks.{PutsRows}
use Rattle.mm_session.proofs.execute.ReadExecutor.push_front_listed.Goals as goal

pub push_front-requires : goal.push_front-requires
push_front-requires g c =
    let can = c.in_ok-list.ensures.can in
    λ κs. (
      (refl, tt),
      (
        can.over,
        (
          subst (All (HasPlace c.args.catalog.now.relations c.in_ok-list.list.sources)) (sym c.columns.ensures) can.over.columns,
          subst (λ (ps : List Place). 0 < length ps) (sym c.columns.ensures) can.some,
        ),
      ),
    )

pub returns-clause-shown : goal.returns-clause-shown
returns-clause-shown g c =
    let list = c.in_ok-list.list in
    let most = c.args.most in
    subst (PutsRows g.S.RowSink.received c.args.sink.now c.push_front.new.sink)
    (ap (λ (ps : List Place). map (placed_values c.args.catalog.now list.sources ps) (take most list.rows)) c.columns.ensures
    ∙ sym (take-map (placed_values c.args.catalog.now list.sources list.columns) most list.rows) ∙ ap (take most) c.in_ok-list.ensures.rows) c.in_ok-push_front.ensures.put

pub returns-clause-columns : goal.returns-clause-columns
returns-clause-columns g c =
    let list = c.in_ok-list.list in
    ap length c.columns-2.ensures ∙ sym (length-map list.columns (heading (tables_at c.args.catalog.now list.sources))) ∙ ap length c.in_ok-list.ensures.names
