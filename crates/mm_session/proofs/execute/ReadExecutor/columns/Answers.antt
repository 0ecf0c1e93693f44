use Rattle.std.proofs.Common.{◌≡◌, ◌∙◌, ◌<◌, ℕ, List, ap, subst, sym, arith, length, map, take}
use Rattle.std.specs.List.{All, flat_map}
use Rattle.std.proofs.lemmas.List.{take_all}
use Rattle.common_lemmas.proofs.Elements.{All-from_map}
use Rattle.plain_tables.specs.Tables.{Table}
use Rattle.plain_tables.specs.declared.numbers.Place.{Place}
use Rattle.plain_tables.specs.declared.numbers.TableNumber.{TableNumber}
use Rattle.plain_tables.specs.declared.value.Value.{Value}
use Rattle.mm_catalog.specs.Seen.{database_of}
use Rattle.temp_list.specs.Lists.{HasPlace}
use Rattle.mm_session.specs.Batched.{source_numbers, ArePlacesOf}
use Rattle.mm_session.specs.Columns.{column_told}
use Rattle.mm_session.specs.Members.{tables_at}
use Rattle.mm_session.specs.Shown.{places_shown}
use Rattle.mm_session.proofs.Placed.{numbers_there, places_there, are_tables}
use Rattle.mm_session.proofs.execute.ReadExecutor.columns.Goals as goal

abbrev numbers : List TableNumber → List ℕ
numbers = map (λ t. t.0)

pub places_of-requires : goal.places_of-requires
places_of-requires c =
    let there : ℕ → Type 0 = λ n. n < length c.args.catalog.now.relations in
    All-from_map there (λ (t : TableNumber). t.0) c.deref.result.now
    (subst (All there) (sym (ap numbers c.deref.ensures.value ∙ c.in_ok-sources.ensures)) (numbers_there c.args.catalog.now c.a_catalog_is_consistent.ensures c.args.query.now c.requires))

pub push_column-requires-clause-sources : goal.push_column-requires-clause-sources
push_column-requires-clause-sources c =
    subst (All (λ n. n < length c.args.catalog.now.relations)) (sym (ap numbers c.deref-in-loop-place.ensures.value ∙ c.in_ok-sources.ensures))
    (numbers_there c.args.catalog.now c.a_catalog_is_consistent.ensures c.args.query.now c.requires)

pub push_column-requires-clause-place : goal.push_column-requires-clause-place
push_column-requires-clause-place c =
    let catalog = c.args.catalog.now in
    let query = c.args.query.now in
    let none : Place = record { source = 0; column = record { 0 = 0 } } in
    let shows : ArePlacesOf catalog query c.deref-place-items.result.now =
    c.deref-place-items.ensures.value ∙ c.in_ok-places.ensures ∙ ap (λ (ns : List ℕ). places_shown (tables_at catalog ns) query.shown) (ap numbers c.deref.ensures.value ∙ c.in_ok-sources.ensures) in
    let there : All (HasPlace catalog.relations (numbers c.deref-in-loop-place.result.now)) c.deref-place-items.result.now =
    subst (λ (ns : List ℕ). All (HasPlace catalog.relations ns) c.deref-place-items.result.now) (sym (ap numbers c.deref-in-loop-place.ensures.value ∙ c.in_ok-sources.ensures))
    (places_there catalog c.a_catalog_is_consistent.ensures query c.requires c.deref-place-items.result.now shows) in
    there c.loop-place.place-index none (omega (arith, c.loop-place-test.true))

pub returns : goal.returns
returns c =
    let catalog = c.args.catalog.now in
    let query = c.args.query.now in
    let places = c.deref-place-items.result.now in
    let told : List Table → Place → List Value = column_told (database_of catalog) in
    let shows : ArePlacesOf catalog query places =
    c.deref-place-items.ensures.value ∙ c.in_ok-places.ensures ∙ ap (λ (ns : List ℕ). places_shown (tables_at catalog ns) query.shown) (ap numbers c.deref.ensures.value ∙ c.in_ok-sources.ensures) in
    let all : take c.loop-place.place-index places ≡ places = take_all c.loop-place.place-index places (omega (arith, c.loop-place-test.false)) in
    c.loop-place.invariant
    ∙ ap (λ (ns : List ℕ). flat_map (told (tables_at catalog ns)) (take c.loop-place.place-index places)) c.in_ok-sources.ensures
    ∙ ap (flat_map (told (tables_at catalog (source_numbers query)))) (all ∙ shows)
    ∙ ap (λ (ts : List Table). flat_map (told ts) (places_shown ts query.shown)) (are_tables catalog c.a_catalog_is_consistent.ensures query c.requires)
