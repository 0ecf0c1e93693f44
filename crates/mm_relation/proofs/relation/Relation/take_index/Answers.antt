use Rattle.std.proofs.Common.{◌≡◌, ◌≤◌, ◌∙◌, ap, arith, length, subst, sym}
use Rattle.std.specs.Prelude.{vec_capacity}
use Rattle.mm_relation.specs.Declaring.{declaration, is_index, without_first, without_index}
use Rattle.mm_relation.specs.Indexes.{declaration_of}
use Rattle.mm_relation.specs.Seen.{state}
use Rattle.mm_relation.specs.State.{IsCurrent, IsKept, RelationState}
use Rattle.mm_relation.specs.Taken.{DroppedState, HasPlaceFor, IsServedBy, with_index}
use Rattle.mm_relation.proofs.Declared.{any_declared, current_without, kept_without, state_without}
use Rattle.mm_relation.proofs.Owed.{owed_fewer}
use Rattle.mm_relation.proofs.PutBack.{declared_stands, fits, is_declaration, serves, taken_back}
use Rattle.mm_relation.proofs.relation.Relation.take_index.Goals as goal

pub take_declared-place-requires : goal.take_declared-place-requires
take_declared-place-requires c =
    declared_stands c.self.inside.rows.aside c.self.inside.schema c.self.inside.targets.items c.self.inside.declared.items c.self.inside.rows.tuples c.self.inside.by_key.tree c.self.inside.indexes c.self.invariant.0 c.args.column c.args.kind
    ∙ (rw (← c.self.view_is) at c.requires)

pub take_first-on-requires : goal.take_first-on-requires
take_first-on-requires c =
    any_declared c.self.inside.rows.aside c.self.inside.schema c.self.inside.targets.items c.self.inside.declared.items c.self.inside.rows.tuples c.self.inside.by_key.tree c.self.inside.indexes c.args.column c.args.kind
    ∙ (rw (← c.self.view_is) at c.requires)

pub invariant_of-self : goal.invariant_of-self
invariant_of-self c = (
  subst IsKept
      (λ i. state c.self.inside.rows.aside c.self.inside.schema c.self.inside.targets.items (sym c.take_declared-place.ensures.rest i) c.self.inside.rows.tuples c.self.inside.by_key.tree (sym c.take_first-on.ensures.rest i))
      (kept_without c.self.inside.rows.aside c.self.inside.schema c.self.inside.targets.items c.self.inside.declared.items c.self.inside.rows.tuples c.self.inside.by_key.tree c.self.inside.indexes c.self.invariant.0 c.args.kind c.args.column),
  c.self.invariant.1,
  rw c.take_first-on.ensures.rest (owed_fewer _ _ c.self.inside.by_key _ c.self.inside.indexes c.self.invariant.2),
)

pub returns-clause-taken : goal.returns-clause-taken
returns-clause-taken c =
    let index = declaration c.args.column c.args.kind in
    let others = without_first (is_index index) c.self.inside.declared.items in
    let on = c.take_first-on.result in
    let places = vec_capacity c.in_ok-declared.declared in
    let d : DroppedState = record { place = c.take_declared-place.result; on = on; places = places } in
    let old : RelationState = state c.self.inside.rows.aside c.self.inside.schema c.self.inside.targets.items c.self.inside.declared.items c.self.inside.rows.tuples c.self.inside.by_key.tree c.self.inside.indexes in
    let now : state c.self.inside.rows.aside c.self.inside.schema c.self.inside.targets.items c.take_declared-place.new.declared.items c.self.inside.rows.tuples c.self.inside.by_key.tree c.take_first-on.new.indexes ≡ without_index old index =
    (λ i. state c.self.inside.rows.aside c.self.inside.schema c.self.inside.targets.items (c.take_declared-place.ensures.rest i) c.self.inside.rows.tuples c.self.inside.by_key.tree (c.take_first-on.ensures.rest i))
    ∙ state_without c.self.inside.rows.aside c.self.inside.schema c.self.inside.targets.items c.self.inside.declared.items c.self.inside.rows.tuples c.self.inside.by_key.tree c.self.inside.indexes c.self.invariant.0 c.args.kind c.args.column others in
    let enough : length c.self.inside.declared.items ≤ places = omega (arith, c.in_ok-declared.ensures.exact, c.len-count.ensures, c.self.inside.declared.ok.0) in
    let first = c.take_declared-place.ensures.first in
    let standing = c.take_first-on.ensures.first in
    rw (← c.self.view_is) (record {
      taken = now;
      declared = is_declaration index (declaration_of on) standing.1.passes;
      back = ap (λ s. with_index s d) now
          ∙ taken_back c.self.inside.rows.aside c.self.inside.schema c.self.inside.targets.items c.self.inside.declared.items c.self.inside.rows.tuples c.self.inside.by_key.tree c.self.inside.indexes c.self.invariant.0 c.args.column
          c.take_declared-place.result standing.0 places on.column c.args.kind on.index first standing.1;
      fits = subst (λ s. HasPlaceFor s d) (sym now)
          (fits c.self.inside.rows.aside c.self.inside.schema c.self.inside.targets.items c.self.inside.declared.items c.self.inside.rows.tuples c.self.inside.by_key.tree c.self.inside.indexes c.self.invariant.0 c.args.column
          c.take_declared-place.result standing.0 places on c.args.kind c.self.inside.by_key first standing.1 enough c.self.invariant.2);
      served = λ keys current. subst (λ s. IsServedBy keys s d) (sym now)
          (serves c.self.inside.rows.aside c.self.inside.schema c.self.inside.targets.items c.self.inside.declared.items c.self.inside.rows.tuples c.self.inside.by_key.tree c.self.inside.indexes c.self.invariant.0 c.args.column
          c.take_declared-place.result standing.0 places on c.args.kind keys first standing.1 current);
      current = λ keys before. subst (IsCurrent keys) (sym now)
          (current_without c.self.inside.rows.aside c.self.inside.schema c.self.inside.targets.items c.self.inside.declared.items c.self.inside.rows.tuples c.self.inside.by_key.tree c.self.inside.indexes c.self.invariant.0 c.args.kind c.args.column others keys before);
    })
