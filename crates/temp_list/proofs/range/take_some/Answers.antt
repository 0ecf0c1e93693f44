use Rattle.std.proofs.Common.{◌≡◌, ◌∙◌, ◌<◌, ◌≤◌, ◌+◌, List, [], ◌∷◌, ◌++◌, length, take, drop, get_or, sym, ap, append_assoc, arith}
use Rattle.std.proofs.lemmas.List.{length-drop, take_more, take_all, drop_more, drop_all}
use Rattle.part_raw.specs.declared.tuple_ref.TupleRef.{TupleRef}
use Rattle.ttree.specs.Held.{rest_of}
use Rattle.temp_list.proofs.range.take_some.Goals as goal

pub loop-preserved : goal.loop-preserved
loop-preserved c =
    let i = c.loop.counter in
    let rest : List TupleRef = rest_of c.args.walk.now in
    let r : TupleRef = c.in-Some.r in
    let old : List TupleRef = c.args.out.now.items in
    let kept = c.loop.invariant in
    let left : drop i rest ≡ r ∷ rest_of c.next.new.self = sym kept.rest ∙ c.in-Some.ensures.steps in
    let within : i < length rest = omega (arith, length-drop i rest, ap (λ (xs : List TupleRef). length xs) left) in
    let both : r ∷ rest_of c.next.new.self ≡ get_or rest i r ∷ drop (i + 1) rest = sym left ∙ drop_more rest i r within in
    let first : r ≡ get_or rest i r = cc in
    let others : rest_of c.next.new.self ≡ drop (i + 1) rest = cc in
    record {
      taken = c.push_reserved.ensures.items ∙ ap (λ (xs : List TupleRef). xs ++ r ∷ []) kept.taken ∙ append_assoc old (take i rest) (r ∷ [])
          ∙ ap (λ (xs : List TupleRef). old ++ xs) (ap (λ (x : TupleRef). take i rest ++ x ∷ []) first ∙ sym (take_more rest i r within));
      rest = others;
      within = omega (arith, within);
      count = omega (arith, kept.count, c.push_reserved.ensures.len);
      room = omega (arith, kept.room, c.push_reserved.ensures.capacity);
    }

pub returns-in_default-clause-taken : goal.returns-in_default-clause-taken
returns-in_default-clause-taken c =
    let i = c.loop.counter in
    let rest : List TupleRef = rest_of c.args.walk.now in
    let none : drop i rest ≡ [] = sym c.loop.invariant.rest ∙ c.in_default.ensures.steps.0 in
    let past : length rest ≤ i = omega (arith, length-drop i rest, ap (λ (xs : List TupleRef). length xs) none) in
    c.loop.invariant.taken ∙ ap (λ (xs : List TupleRef). c.args.out.now.items ++ xs) (take_all i rest past ∙ sym (take_all c.args.most rest (omega (arith, past, c.loop-test.true))))

pub returns-in_default-clause-rest : goal.returns-in_default-clause-rest
returns-in_default-clause-rest c =
    let i = c.loop.counter in
    let rest : List TupleRef = rest_of c.args.walk.now in
    let none : drop i rest ≡ [] = sym c.loop.invariant.rest ∙ c.in_default.ensures.steps.0 in
    let past : length rest ≤ i = omega (arith, length-drop i rest, ap (λ (xs : List TupleRef). length xs) none) in
    c.in_default.ensures.steps.1 ∙ sym (drop_all c.args.most rest (omega (arith, past, c.loop-test.true)))
