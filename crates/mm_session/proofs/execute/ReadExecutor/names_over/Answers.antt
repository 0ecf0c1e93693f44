use Rattle.std.proofs.Common.{◌∙◌, ◌<◌, ℕ, List, ap, subst, sym, length, map}
use Rattle.std.specs.List.{All}
use Rattle.std.proofs.lemmas.Result.{IfOk-weaker}
use Rattle.common_lemmas.proofs.Elements.{All-from_map}
use Rattle.plain_tables.specs.declared.numbers.Place.{Place}
use Rattle.plain_tables.specs.declared.numbers.TableNumber.{TableNumber}
use Rattle.temp_list.specs.Lists.{HasPlace}
use Rattle.mm_session.specs.Batched.{source_numbers, ArePlacesOf}
use Rattle.mm_session.specs.Members.{tables_at}
use Rattle.mm_session.specs.Shown.{heading, places_shown}
use Rattle.mm_session.proofs.Placed.{numbers_there, places_there, names_there}
use Rattle.mm_session.proofs.execute.ReadExecutor.names_over.Goals as goal

abbrev numbers : List TableNumber → List ℕ
numbers = map (λ t. t.0)

pub places_of-requires : goal.places_of-requires
places_of-requires c =
    let there : ℕ → Type 0 = λ n. n < length c.args.catalog.now.relations in
    All-from_map there (λ (t : TableNumber). t.0) c.args.sources.now
    (subst (All there) (sym c.requires.sources) (numbers_there c.args.catalog.now c.a_catalog_is_consistent.ensures c.args.query.now c.requires.meant))

pub names_at-requires-clause-sources : goal.names_at-requires-clause-sources
names_at-requires-clause-sources c =
    subst (All (λ n. n < length c.args.catalog.now.relations)) (sym c.requires.sources)
    (numbers_there c.args.catalog.now c.a_catalog_is_consistent.ensures c.args.query.now c.requires.meant)

pub names_at-requires-clause-places : goal.names_at-requires-clause-places
names_at-requires-clause-places c =
    let catalog = c.args.catalog.now in
    let query = c.args.query.now in
    let shows : ArePlacesOf catalog query c.in_ok-places.places.items =
    c.in_ok-places.ensures ∙ ap (λ (ns : List ℕ). places_shown (tables_at catalog ns) query.shown) c.requires.sources in
    subst (λ (ns : List ℕ). All (HasPlace catalog.relations ns) c.deref.result.now) (sym c.requires.sources)
    (subst (All (HasPlace catalog.relations (source_numbers query))) (sym c.deref.ensures.value)
    (places_there catalog c.a_catalog_is_consistent.ensures query c.requires.meant c.in_ok-places.places.items shows))

pub returns : goal.returns
returns c =
    let catalog = c.args.catalog.now in
    let query = c.args.query.now in
    let shows : ArePlacesOf catalog query c.in_ok-places.places.items =
    c.in_ok-places.ensures ∙ ap (λ (ns : List ℕ). places_shown (tables_at catalog ns) query.shown) c.requires.sources in
    IfOk-weaker c.names_at.result _ _
    (λ names are.
    are ∙ ap (λ (ps : List Place). map (heading (tables_at catalog (numbers c.args.sources.now))) ps) c.deref.ensures.value
    ∙ ap (λ (ns : List ℕ). map (heading (tables_at catalog ns)) c.in_ok-places.places.items) c.requires.sources
    ∙ names_there catalog c.a_catalog_is_consistent.ensures query c.requires.meant c.in_ok-places.places.items shows)
    c.names_at.ensures
