use Rattle.std.proofs.Common.{◌∙◌, ◌<◌, List, ℕ, length, ap, sym, subst}
use Rattle.std.specs.List.{All}
use Rattle.std.proofs.lemmas.Result.{IfOk-weaker}
use Rattle.common_lemmas.proofs.Elements.{All-from_map}
use Rattle.plain_tables.specs.declared.numbers.TableNumber.{TableNumber}
use Rattle.temp_list.specs.Lists.{ListState, IsOver}
use Rattle.mm_session.specs.Members.{tables_at}
use Rattle.mm_session.specs.Shown.{places_shown, IsOrderedOf}
use Rattle.mm_session.proofs.Selects.{described_over, can_show, headed, rowed}
use Rattle.mm_session.proofs.execute.ReadExecutor.as_shown.Goals as goal

pub places_of-requires : goal.places_of-requires
places_of-requires c =
    let there : ℕ → Type 0 = λ n. n < length c.args.catalog.now.relations in
    All-from_map there (λ (t : TableNumber). t.0) c.sources.result.now (subst (All there) (sym c.sources.ensures) c.requires.members.over.sources)

pub ordered-requires : goal.ordered-requires
ordered-requires c =
    let catalog = c.args.catalog.now in
    let query = c.args.query.now in
    let shows = c.in_ok-places.ensures ∙ ap (λ (ns : List ℕ). places_shown (tables_at catalog ns) query.shown) c.sources.ensures in
    subst (IsOver catalog.relations) (sym c.describe.ensures)
    (described_over catalog c.a_catalog_is_consistent.ensures query c.requires.meant c.args.list c.requires.members c.in_ok-places.places.items shows)

pub returns : goal.returns
returns c =
    let catalog = c.args.catalog.now in
    let query = c.args.query.now in
    let shows = c.in_ok-places.ensures ∙ ap (λ (ns : List ℕ). places_shown (tables_at catalog ns) query.shown) c.sources.ensures in
    IfOk-weaker c.ordered.result _ _
    (λ new ordered.
    let is = subst (λ (l : ListState). IsOrderedOf catalog.relations query.distinct l new) c.describe.ensures ordered in
    record {
      can = can_show catalog c.a_catalog_is_consistent.ensures query c.requires.meant c.args.list c.requires.members c.in_ok-places.places.items shows new is;
      names = headed catalog c.a_catalog_is_consistent.ensures query c.requires.meant c.args.list c.requires.members c.in_ok-places.places.items shows new is;
      rows = rowed catalog c.a_catalog_is_consistent.ensures query c.requires.meant c.args.list c.requires.members c.in_ok-places.places.items shows new is;
    })
    c.ordered.ensures
