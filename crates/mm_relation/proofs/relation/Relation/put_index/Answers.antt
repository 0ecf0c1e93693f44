use Rattle.std.proofs.Common.{◌≡◌, ◌≤◌, ◌<◌, ◌∙◌, ap, arith, filter, length, subst, sym, take}
use Rattle.std.specs.List.{insert}
use Rattle.std.specs.Prelude.{vec_capacity}
use Rattle.mm_relation.specs.declared.index.IndexOn.{IndexOn}
use Rattle.mm_relation.specs.declared.numbers.DeclaredIndex.{DeclaredIndex}
use Rattle.mm_relation.specs.Declaring.{is_kind}
use Rattle.mm_relation.specs.Indexes.{Indexes, declaration_of, kind_in}
use Rattle.mm_relation.specs.Owing.{HasOwed}
use Rattle.mm_relation.specs.Seen.{state}
use Rattle.mm_relation.specs.State.{IsCurrent, IsKept, RelationState}
use Rattle.mm_relation.specs.Taken.{DroppedState, HasPlaceFor, count_of, with_index}
use Rattle.mm_relation.proofs.Firsts.{fewer_taken}
use Rattle.mm_relation.proofs.PutBack.{as_long, as_many, current_with, kept_with, owed_with_index, state_with}
use Rattle.mm_relation.proofs.relation.Relation.put_index.Goals as goal
use Rattle.mm_relation.proofs.relation.Relation.put_index.Goals.{After-from_vec}

pub place_behind-at-requires : goal.place_behind-at-requires
place_behind-at-requires c =
    let k = c.declaration-declaration.result.kind in
    let behind : c.count_of-behind.result ≡ count_of k (take c.index.inside.place c.self.inside.declared.items) = rw c.deref.ensures.value at c.count_of-behind.ensures in
    let many = as_many c.self.inside.rows.aside c.self.inside.schema c.self.inside.targets.items c.self.inside.declared.items c.self.inside.rows.tuples c.self.inside.by_key.tree c.self.inside.indexes c.self.invariant.0 k in
    let fewer = fewer_taken (λ (d : DeclaredIndex). is_kind k d.kind) c.self.inside.declared.items c.index.inside.place in
    let few : c.count_of-behind.result ≤ length (filter (λ (on : IndexOn). is_kind k (kind_in on.index)) c.self.inside.indexes) = omega (arith, behind, many, fewer) in
    rw c.as_slice.ensures few

pub put_at-requires-2-clause-enough : goal.put_at-requires-2-clause-enough
put_at-requires-2-clause-enough c =
    let long = as_long c.self.inside.rows.aside c.self.inside.schema c.self.inside.targets.items c.self.inside.declared.items c.self.inside.rows.tuples c.self.inside.by_key.tree c.self.inside.indexes c.self.invariant.0 in
    let places : length c.self.inside.declared.items < vec_capacity c.index.inside.declared = rw (← c.self.view_is, ← c.index.view_is) at c.requires.places in
    let items : length c.into_vec-all.result.items ≡ length c.self.inside.indexes = ap length (c.into_vec-all.ensures ∙ c.replace.ensures.value) in
    omega (arith, long, places, items, c.index.invariant.2)

abbrev old : After-from_vec → RelationState
old c = state c.self.inside.rows.aside c.self.inside.schema c.self.inside.targets.items c.self.inside.declared.items c.self.inside.rows.tuples c.self.inside.by_key.tree c.self.inside.indexes

abbrev back : After-from_vec → DroppedState
back c = record { place = c.index.inside.place; on = c.index.inside.on; places = vec_capacity c.index.inside.declared }

indexes_now : (c : After-from_vec) → c.from_vec.result ≡ insert c.self.inside.indexes c.place_behind-at.result c.index.inside.on
indexes_now c = c.from_vec.ensures ∙ c.put_at-2.ensures ∙ ap (λ (xs : Indexes). insert xs c.place_behind-at.result c.index.inside.on) (c.into_vec-all.ensures ∙ c.replace.ensures.value)

declared_now : (c : After-from_vec) → c.put_at.new.list.items ≡ insert c.self.inside.declared.items c.index.inside.place (declaration_of c.index.inside.on)
declared_now c = c.put_at.ensures ∙ ap (insert c.self.inside.declared.items c.index.inside.place) c.declaration-declaration.ensures

state_now : (c : After-from_vec) → state c.self.inside.rows.aside c.self.inside.schema c.self.inside.targets.items c.put_at.new.list.items c.self.inside.rows.tuples c.self.inside.by_key.tree c.from_vec.result ≡ with_index (old c) (back c)
state_now c =
    let on = c.index.inside.on in
    let count : c.count_of-behind.result ≡ count_of (kind_in on.index) (take c.index.inside.place c.self.inside.declared.items) = rw (c.deref.ensures.value, c.declaration-declaration.ensures) at c.count_of-behind.ensures in
    let behind : length (filter (λ (x : IndexOn). is_kind (kind_in on.index) (kind_in x.index)) (take c.place_behind-at.result c.self.inside.indexes)) ≡ c.count_of-behind.result = rw (c.as_slice.ensures, c.declaration-declaration.ensures) at c.place_behind-at.ensures.behind in
    (λ i. state c.self.inside.rows.aside c.self.inside.schema c.self.inside.targets.items (declared_now c i) c.self.inside.rows.tuples c.self.inside.by_key.tree (indexes_now c i))
    ∙ state_with c.self.inside.rows.aside c.self.inside.schema c.self.inside.targets.items c.self.inside.declared.items c.self.inside.rows.tuples c.self.inside.by_key.tree c.self.inside.indexes
    c.index.inside.place c.place_behind-at.result (vec_capacity c.index.inside.declared) on.column on.index (behind ∙ count)

place : (c : After-from_vec) → HasPlaceFor (old c) (back c)
place c = rw (← c.self.view_is, ← c.index.view_is) at c.requires

pub invariant_of-self : goal.invariant_of-self
invariant_of-self c =
    let a = (goal.at.invariant_of-self c).After-from_vec in
    let on = c.index.inside.on in (
      subst IsKept (sym (state_now a)) (kept_with (old a) c.index.inside.place (vec_capacity c.index.inside.declared) on.column on.index c.self.invariant.0 (place a).column),
      c.self.invariant.1,
      subst (HasOwed c.self.inside.rows.aside.owed c.self.inside.rows.aside.hidden c.self.inside.by_key) (sym (indexes_now a))
          (owed_with_index c.self.inside.rows.aside.owed c.self.inside.rows.aside.hidden c.self.inside.by_key c.self.inside.indexes c.place_behind-at.result on c.self.invariant.2 (place a).ready),
    )

pub returns-clause-put : goal.returns-clause-put
returns-clause-put c = rw (← c.self.view_is, ← c.index.view_is) (state_now (goal.at.returns-clause-put c).After-from_vec)

pub returns-clause-current : goal.returns-clause-current
returns-clause-current c =
    let a = (goal.at.returns-clause-current c).After-from_vec in
    let on = c.index.inside.on in
    rw (← c.self.view_is, ← c.index.view_is)
    (λ keys current served. subst (IsCurrent keys) (sym (state_now a)) (current_with keys (old a) c.index.inside.place (vec_capacity c.index.inside.declared) on.column on.index current served))
