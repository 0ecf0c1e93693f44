use Rattle.std.proofs.Common.{◌+◌, ◌∙◌, ◌<◌, List, ℕ, ap, get_or, length, map, subst, sym, take}
use Rattle.std.specs.List.{All}
use Rattle.plain_tables.specs.ResolvedLaws.{HasPlace}
use Rattle.plain_tables.specs.declared.numbers.TableNumber.{TableNumber}
use Rattle.plain_tables.specs.declared.resolved.Joined.{Joined}
use Rattle.mm_session.specs.Batched.{source_numbers}
use Rattle.mm_session.specs.Members.{IsSourceOf, tables_at}
use Rattle.mm_session.specs.Told.{AreNextJoins, IsNextJoin}
use Rattle.mm_session.proofs.Placed.{numbers_there}
use Rattle.mm_session.proofs.Planned.{IsPlaced, joins_placed}
use Rattle.mm_session.proofs.Told.{next_more}
use Rattle.mm_session.proofs.execute.ReadExecutor.tell_joins.Goals as goal

pub tell_join-requires-clause-sources : goal.tell_join-requires-clause-sources
tell_join-requires-clause-sources c =
    subst (All (λ n. n < length c.args.catalog.now.relations)) (sym (ap (map (λ (t : TableNumber). t.0)) c.deref.ensures.value ∙ c.in_ok-sources.ensures))
    (numbers_there c.args.catalog.now c.a_catalog_is_consistent.ensures c.args.query.now c.requires)

pub tell_join-requires-clause-place : goal.tell_join-requires-clause-place
tell_join-requires-clause-place c =
    let catalog = c.args.catalog.now in
    let numbers : List ℕ = source_numbers c.args.query.now in
    let same = ap (map (λ (t : TableNumber). t.0)) c.deref.ensures.value ∙ c.in_ok-sources.ensures in
    let placed = subst (All (IsPlaced catalog c.a_catalog_is_consistent.ensures numbers)) (sym c.as_slice-join-items.ensures) (joins_placed catalog c.a_catalog_is_consistent.ensures c.args.query.now c.requires.0) in
    subst (λ (ns : List ℕ). HasPlace (tables_at catalog ns) c.join-item.result.outer) (sym same)
    (subst (λ (j : Joined). HasPlace (tables_at catalog numbers) j.outer) (sym c.join-item.is) (placed c.loop-join.join-index c.join-item.result c.loop-join-test.true).0)

pub tell_join-requires-clause-inner : goal.tell_join-requires-clause-inner
tell_join-requires-clause-inner c =
    let catalog = c.args.catalog.now in
    let numbers : List ℕ = source_numbers c.args.query.now in
    let placed = subst (All (IsPlaced catalog c.a_catalog_is_consistent.ensures numbers)) (sym c.as_slice-join-items.ensures) (joins_placed catalog c.a_catalog_is_consistent.ensures c.args.query.now c.requires.0) in
    subst (λ (j : Joined). IsSourceOf catalog j.source j.inner) (sym c.join-item.is) (placed c.loop-join.join-index c.join-item.result c.loop-join-test.true).1

pub loop-join-preserved : goal.loop-join-preserved
loop-join-preserved c =
    let catalog = c.args.catalog.now in
    let joins = c.args.query.now.joins in
    let policy = c.args.self.now.policy in
    let numbers : List ℕ = source_numbers c.args.query.now in
    let join = c.join-item.result in
    let same = ap (map (λ (t : TableNumber). t.0)) c.deref.ensures.value ∙ c.in_ok-sources.ensures in
    let is : IsNextJoin policy catalog numbers join c.tell_join.result = subst (λ (ns : List ℕ). IsNextJoin policy catalog ns join c.tell_join.result) same c.tell_join.ensures in
    let at : ℕ = c.loop-join.join-index in
    let within = subst (λ (js : List Joined). at < length js) c.as_slice-join-items.ensures c.loop-join-test.true in
    let there = ap (λ (js : List Joined). get_or js at join) (sym c.as_slice-join-items.ensures) ∙ sym c.join-item.is in
    subst (AreNextJoins policy catalog numbers (take (at + 1) joins)) (sym c.in_ok-push.ensures.items)
    (next_more policy catalog numbers joins c.loop-join.joins.items at join c.tell_join.result within there c.loop-join.invariant is)
