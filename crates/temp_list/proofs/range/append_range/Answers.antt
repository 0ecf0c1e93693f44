use Rattle.std.proofs.Common.{◌≡◌, ◌≢◌, ◌∙◌, ◌≤◌, ◌<◌, ◌+◌, ◌-◌, ℕ, false, List, ◌++◌, length, take, drop, sym, ap, subst, arith, Ordering, Result, Ok, Err}
use Rattle.std.specs.List.{All, AllWithin}
use Rattle.std.specs.Result.{OnOk, is_err}
use Rattle.std.specs.declared.cmp.Ordering.TheVariants.{Less, Equal, Greater}
use Rattle.std.specs.Ordering.{is_ge}
use Rattle.std.proofs.lemmas.List.{length-append, length-take, length-take-le, length-drop, drop-drop}
use Rattle.std.proofs.lemmas.List.Elements.{All-filter}
use Rattle.part_raw.specs.declared.tuple_ref.TupleRef.{TupleRef}
use Rattle.mm_index.specs.Range.{NeverFalls, from_range}
use Rattle.mm_index.proofs.Asked.{IsOnlyAsked-trans}
use Rattle.mm_relation.specs.Changes.{list_of}
use Rattle.ttree.specs.Held.{rest_of}
use Rattle.temp_list.proofs.Neighbours.{taken_all, taken_in_order, found_more, range_found, slice_taken, kept_taken, from_begun, from_in_order, in_range_from}
use Rattle.temp_list.proofs.range.append_range.Goals as goal

on_ok : {T E P : Type 0} (r : Result T E) → is_err r ≡ false → OnOk r P → P
on_ok (Ok x) e h = h
on_ok (Err x) e h = cc

pub count_in_range-more-requires-clause-placed : goal.count_in_range-more-requires-clause-placed
count_in_range-more-requires-clause-placed g c =
    let place : TupleRef → Ordering = g.P.Probe.place c.args.probe.now in
    let all : List TupleRef = list_of c.args.relation.now c.args.column.0 in
    let xs : List TupleRef = from_range place all in
    let kept = c.loop-refused.invariant in
    let k = c.loop-refused.found in
    let m = c.clamp-most.result in
    let taken = c.deref.ensures.value ∙ on_ok c.take_some.result (ap is_err c.in_default.is) c.take_some.ensures.taken in
    let slice = slice_taken xs c.loop-refused.out.items c.deref.result.now (rest_of c.loop-refused.walk) k m c.len-start.result (omega arith) taken kept.rest in
    subst (λ (ys : List TupleRef). All (g.P.Probe.can_place c.loop-refused.probe) ys) (sym slice)
    (taken_all place xs (from_in_order place all c.requires.in_order) k m (g.P.Probe.can_place c.loop-refused.probe)
    (λ i d l. kept.only.may_ask _ (All-filter (λ r. is_ge (place r)) (g.P.Probe.can_place c.args.probe.now) all c.requires.placed i d l)))

pub count_in_range-more-requires-clause-in_order : goal.count_in_range-more-requires-clause-in_order
count_in_range-more-requires-clause-in_order g c =
    let place : TupleRef → Ordering = g.P.Probe.place c.args.probe.now in
    let all : List TupleRef = list_of c.args.relation.now c.args.column.0 in
    let xs : List TupleRef = from_range place all in
    let kept = c.loop-refused.invariant in
    let k = c.loop-refused.found in
    let m = c.clamp-most.result in
    let taken = c.deref.ensures.value ∙ on_ok c.take_some.result (ap is_err c.in_default.is) c.take_some.ensures.taken in
    let slice = slice_taken xs c.loop-refused.out.items c.deref.result.now (rest_of c.loop-refused.walk) k m c.len-start.result (omega arith) taken kept.rest in
    subst (λ (ys : List TupleRef). NeverFalls (g.P.Probe.place c.loop-refused.probe) ys) (sym slice)
    (subst (λ (p : TupleRef → Ordering). NeverFalls p (take m (drop k xs))) (sym kept.only.answers) (taken_in_order place xs (from_in_order place all c.requires.in_order) k m))

pub count_in_range-more-requires-clause-begun : goal.count_in_range-more-requires-clause-begun
count_in_range-more-requires-clause-begun g c =
    let place : TupleRef → Ordering = g.P.Probe.place c.args.probe.now in
    let all : List TupleRef = list_of c.args.relation.now c.args.column.0 in
    let xs : List TupleRef = from_range place all in
    let kept = c.loop-refused.invariant in
    let k = c.loop-refused.found in
    let m = c.clamp-most.result in
    let taken = c.deref.ensures.value ∙ on_ok c.take_some.result (ap is_err c.in_default.is) c.take_some.ensures.taken in
    let slice = slice_taken xs c.loop-refused.out.items c.deref.result.now (rest_of c.loop-refused.walk) k m c.len-start.result (omega arith) taken kept.rest in
    subst (λ (ys : List TupleRef). All (λ r. g.P.Probe.place c.loop-refused.probe r ≢ Less) ys) (sym slice)
    (subst (λ (p : TupleRef → Ordering). All (λ r. p r ≢ Less) (take m (drop k xs))) (sym kept.only.answers)
    (taken_all place xs (from_in_order place all c.requires.in_order) k m (λ r. place r ≢ Less) (from_begun place all)))

pub returns-then-more-most-clause-ok : goal.returns-then-more-most-clause-ok
returns-then-more-most-clause-ok g c =
    let place : TupleRef → Ordering = g.P.Probe.place c.args.probe.now in
    let all : List TupleRef = list_of c.args.relation.now c.args.column.0 in
    let xs : List TupleRef = from_range place all in
    let kept = c.loop-refused.invariant in
    let k = c.loop-refused.found in
    let m = c.clamp-most.result in
    let taken = c.deref.ensures.value ∙ on_ok c.take_some.result (ap is_err c.in_default.is) c.take_some.ensures.taken in
    let slice = slice_taken xs c.loop-refused.out.items c.deref.result.now (rest_of c.loop-refused.walk) k m c.len-start.result (omega arith) taken kept.rest in
    let n = c.count_in_range-more.result in
    let few : n ≤ length (take m (drop k xs)) = subst (λ (ys : List TupleRef). n ≤ length ys) slice c.count_in_range-more.ensures.within in
    let found : AllWithin (λ r. place r ≡ Equal) (take m (drop k xs)) 0 n =
    subst (λ (p : TupleRef → Ordering). AllWithin (λ r. p r ≡ Equal) (take m (drop k xs)) 0 n) kept.only.answers
    (subst (λ (ys : List TupleRef). AllWithin (λ r. g.P.Probe.place c.loop-refused.probe r ≡ Equal) ys 0 n) slice c.count_in_range-more.ensures.found)
    in
    let above : AllWithin (λ r. place r ≡ Greater) (take m (drop k xs)) n (length (take m (drop k xs))) =
    subst (λ (p : TupleRef → Ordering). AllWithin (λ r. p r ≡ Greater) (take m (drop k xs)) n (length (take m (drop k xs)))) kept.only.answers
    (subst (λ (ys : List TupleRef). AllWithin (λ r. g.P.Probe.place c.loop-refused.probe r ≡ Greater) ys n (length ys)) slice c.count_in_range-more.ensures.above)
    in
    c.truncate-in-loop-refused.ensures.items ∙ ap (λ (ys : List TupleRef). take (c.len-start.result + n) ys) (sym c.deref.ensures.value)
    ∙ kept_taken xs c.loop-refused.out.items c.deref.result.now (rest_of c.loop-refused.walk) k m c.len-start.result (omega arith) taken kept.rest c.args.out.now.items n kept.within (omega (arith, few, length-take m (drop k xs))) kept.added
    ∙ ap (λ (ys : List TupleRef). c.args.out.now.items ++ ys)
    (sym (range_found place xs (from_in_order place all c.requires.in_order) k m n few kept.equal found above c.if-more-most.true) ∙ in_range_from place all)

pub loop-refused-smaller : goal.loop-refused-smaller
loop-refused-smaller g c =
    let place : TupleRef → Ordering = g.P.Probe.place c.args.probe.now in
    let all : List TupleRef = list_of c.args.relation.now c.args.column.0 in
    let xs : List TupleRef = from_range place all in
    let kept = c.loop-refused.invariant in
    let k = c.loop-refused.found in
    let m = c.clamp-most.result in
    let taken = c.deref.ensures.value ∙ on_ok c.take_some.result (ap is_err c.in_default.is) c.take_some.ensures.taken in
    let slice = slice_taken xs c.loop-refused.out.items c.deref.result.now (rest_of c.loop-refused.walk) k m c.len-start.result (omega arith) taken kept.rest in
    let n = c.count_in_range-more.result in
    let few : n ≤ length (take m (drop k xs)) = subst (λ (ys : List TupleRef). n ≤ length ys) slice c.count_in_range-more.ensures.within in
    let found : AllWithin (λ r. place r ≡ Equal) (take m (drop k xs)) 0 n =
    subst (λ (p : TupleRef → Ordering). AllWithin (λ r. p r ≡ Equal) (take m (drop k xs)) 0 n) kept.only.answers
    (subst (λ (ys : List TupleRef). AllWithin (λ r. g.P.Probe.place c.loop-refused.probe r ≡ Equal) ys 0 n) slice c.count_in_range-more.ensures.found)
    in
    let left = on_ok c.take_some.result (ap is_err c.in_default.is) c.take_some.ensures.rest in
    let some : 1 ≤ m = omega (arith, c.clamp-most.ensures) in
    let long : m ≤ length (drop k xs) = omega (arith, few, c.if-more-most.false, length-take m (drop k xs)) in
    let before : length (rest_of c.loop-refused.walk) ≡ length (drop k xs) = ap (λ (ys : List TupleRef). length ys) kept.rest in
    let after : length (rest_of c.take_some.new.walk) ≡ length (drop k xs) - m = ap (λ (ys : List TupleRef). length ys) left ∙ ap (λ (ys : List TupleRef). length (drop m ys)) kept.rest ∙ length-drop m (drop k xs) in
    let less : length (rest_of c.take_some.new.walk) < length (rest_of c.loop-refused.walk) = omega (arith, some, long, before, after) in
    less

pub loop-refused-preserved : goal.loop-refused-preserved
loop-refused-preserved g c =
    let place : TupleRef → Ordering = g.P.Probe.place c.args.probe.now in
    let all : List TupleRef = list_of c.args.relation.now c.args.column.0 in
    let xs : List TupleRef = from_range place all in
    let kept = c.loop-refused.invariant in
    let k = c.loop-refused.found in
    let m = c.clamp-most.result in
    let taken = c.deref.ensures.value ∙ on_ok c.take_some.result (ap is_err c.in_default.is) c.take_some.ensures.taken in
    let slice = slice_taken xs c.loop-refused.out.items c.deref.result.now (rest_of c.loop-refused.walk) k m c.len-start.result (omega arith) taken kept.rest in
    let n = c.count_in_range-more.result in
    let few : n ≤ length (take m (drop k xs)) = subst (λ (ys : List TupleRef). n ≤ length ys) slice c.count_in_range-more.ensures.within in
    let found : AllWithin (λ r. place r ≡ Equal) (take m (drop k xs)) 0 n =
    subst (λ (p : TupleRef → Ordering). AllWithin (λ r. p r ≡ Equal) (take m (drop k xs)) 0 n) kept.only.answers
    (subst (λ (ys : List TupleRef). AllWithin (λ r. g.P.Probe.place c.loop-refused.probe r ≡ Equal) ys 0 n) slice c.count_in_range-more.ensures.found)
    in
    let left = on_ok c.take_some.result (ap is_err c.in_default.is) c.take_some.ensures.rest in
    let full : n ≡ m = omega (arith, few, c.if-more-most.false, length-take m (drop k xs)) in
    let added = c.truncate-in-loop-refused.ensures.items ∙ ap (λ (ys : List TupleRef). take (c.len-start.result + n) ys) (sym c.deref.ensures.value)
    ∙ kept_taken xs c.loop-refused.out.items c.deref.result.now (rest_of c.loop-refused.walk) k m c.len-start.result (omega arith) taken kept.rest c.args.out.now.items n kept.within (omega (arith, full)) kept.added
    in
    let within : k + n ≤ length xs = omega (arith, few, kept.within, length-take m (drop k xs), length-drop k xs) in
    record {
      added = added;
      rest = left ∙ ap (λ (ys : List TupleRef). drop m ys) kept.rest ∙ drop-drop m k xs ∙ ap (λ (j : ℕ). drop (k + j) xs) (sym full);
      within = within;
      equal = found_more place xs (from_in_order place all c.requires.in_order) k m n few kept.equal found;
      count = omega (arith, ap (λ (ys : List TupleRef). length ys) added, length-append c.args.out.now.items (take (k + n) xs), length-take-le (k + n) xs within);
      only = IsOnlyAsked-trans _ _ _ _ _ _ _ kept.only c.count_in_range-more.ensures.probe;
    }
