use Rattle.std.proofs.Common.{◌≡◌, ◌≤◌, ◌∙◌, ◌∷◌, ◌++◌, List, [], refl, sym, ap, arith, append_assoc, filter, length}
use Rattle.part_raw.specs.declared.tuple_ref.TupleRef.{TupleRef}
use Rattle.ttree.specs.Held.{rest_of}
use Rattle.temp_list.specs.Reading.{row_passes}
use Rattle.temp_list.proofs.FirstRows.{found_all, found_below, found_enough, next_held}
use Rattle.temp_list.proofs.Searches.{between_in_order}
use Rattle.temp_list.proofs.Walks.{next_fails, next_passes}
use Rattle.temp_list.proofs.first_rows.first_passing.Goals as goal
use Rattle.temp_list.proofs.first_rows.first_passing.Goals.{then-len-most-via-then-len-most, then-len-most-via-else-len-most+then-is_above}

pub walk_column-r-items-requires-clause-in_order : goal.walk_column-r-items-requires-clause-in_order
walk_column-r-items-requires-clause-in_order g c =
    between_in_order (g.R.Relations.tables c.args.tables.now) c.args.relation.now 0 c.a_relation_is_kept.ensures c.requires.current c.requires.key refl c.args.tests.now

pub is_above-requires-clause-held : goal.is_above-requires-clause-held
is_above-requires-clause-held g c =
    next_held (g.R.Relations.tables c.args.tables.now) c.args.relation.now c.args.tests.now c.a_relation_is_kept.ensures c.loop-r.yielded c.in-Some.r (rest_of c.next.new.self)
    (c.loop-r.invariant.split ∙ ap (λ (rs : List TupleRef). c.loop-r.yielded ++ rs) c.in-Some.ensures.steps)

pub passes_all-requires-clause-held : goal.passes_all-requires-clause-held
passes_all-requires-clause-held g c =
    next_held (g.R.Relations.tables c.args.tables.now) c.args.relation.now c.args.tests.now c.a_relation_is_kept.ensures c.loop-r.yielded c.in-Some.r (rest_of c.next.new.self)
    (c.loop-r.invariant.split ∙ ap (λ (rs : List TupleRef). c.loop-r.yielded ++ rs) c.in-Some.ensures.steps)

pub loop-r-preserved-in-Continue-1 : goal.loop-r-preserved-in-Continue-1
loop-r-preserved-in-Continue-1 g c = record {
  split = c.loop-r.invariant.split ∙ ap (λ (rs : List TupleRef). c.loop-r.yielded ++ rs) c.in-Some.ensures.steps
      ∙ sym (append_assoc c.loop-r.yielded (c.in-Some.r ∷ []) (rest_of c.next.new.self));
  found = c.in_ok-push.ensures.items ∙ ap (λ (rs : List TupleRef). rs ++ c.in-Some.r ∷ []) c.loop-r.invariant.found
      ∙ sym (next_passes (row_passes (g.R.Relations.tables c.args.tables.now) c.args.relation.now c.args.tests.now) c.loop-r.yielded c.in-Some.r (sym c.passes_all.ensures ∙ c.if-passes_all.true));
  few = omega (arith, c.if-len-most.false, c.len.ensures, c.in_ok-push.ensures.len);
}

pub loop-r-preserved : goal.loop-r-preserved
loop-r-preserved g c = record {
  split = c.loop-r.invariant.split ∙ ap (λ (rs : List TupleRef). c.loop-r.yielded ++ rs) c.in-Some.ensures.steps
      ∙ sym (append_assoc c.loop-r.yielded (c.in-Some.r ∷ []) (rest_of c.next.new.self));
  found = c.loop-r.invariant.found
      ∙ sym (next_fails (row_passes (g.R.Relations.tables c.args.tables.now) c.args.relation.now c.args.tests.now) c.loop-r.yielded c.in-Some.r (sym c.passes_all.ensures ∙ c.if-passes_all.false));
  few = c.loop-r.invariant.few;
}

pub returns-in-None : goal.returns-in-None
returns-in-None g c =
    let found = c.loop-r.invariant.found in
    let few : length (filter (row_passes (g.R.Relations.tables c.args.tables.now) c.args.relation.now c.args.tests.now) c.loop-r.yielded) ≤ c.args.most = omega (arith, c.loop-r.invariant.few, ap length found) in
    found
    ∙ found_all (g.R.Relations.tables c.args.tables.now) c.args.relation.now c.args.tests.now c.args.most c.loop-r.yielded
    (c.loop-r.invariant.split ∙ ap (λ (rs : List TupleRef). c.loop-r.yielded ++ rs) c.in-None.ensures.steps.0) few

pub returns-then-len-most : goal.returns-then-len-most
returns-then-len-most g c =
    let relations = g.R.Relations.tables c.args.tables.now in
    let s = c.args.relation.now in
    let tests = c.args.tests.now in
    let found = c.loop-r.invariant.found in
    let split = c.loop-r.invariant.split ∙ ap (λ (rs : List TupleRef). c.loop-r.yielded ++ rs) c.in-Some.ensures.steps in
    elim c.then-len-most.branch [
      | then-len-most-via-then-len-most w ↦
          (let full : length (filter (row_passes relations s tests) c.loop-r.yielded) ≡ c.args.most = omega (arith, c.loop-r.invariant.few, ap length found, c.len.ensures, w.if-len-most.true) in
          found ∙ found_enough relations s tests c.args.most c.loop-r.yielded (c.in-Some.r ∷ rest_of c.next.new.self) split full)
      | then-len-most-via-else-len-most+then-is_above w ↦
          (let few : length (filter (row_passes relations s tests) c.loop-r.yielded) ≤ c.args.most = omega (arith, c.loop-r.invariant.few, ap length found) in
          found ∙ found_below relations s tests c.a_relation_is_kept.ensures c.requires.current c.requires.key c.args.most c.loop-r.yielded c.in-Some.r (rest_of c.next.new.self) split
          (sym w.is_above.ensures ∙ w.if-is_above.true) few)
    ]
