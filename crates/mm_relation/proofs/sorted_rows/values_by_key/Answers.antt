use Rattle.std.proofs.Common.{◌∙◌, ◌++◌, ◌≡◌, List, [], ◌∷◌, Some, Bor, sym, ap, append_assoc, map}
use Rattle.std.proofs.lemmas.List.{map-append}
use Rattle.std.proofs.lemmas.List.Elements.{All-push}
use Rattle.part_raw.specs.declared.tuple_ref.TupleRef.{TupleRef}
use Rattle.ttree.specs.Held.{items_of_tree, rest_of}
use Rattle.plain_tables.specs.declared.value.Value.{Value}
use Rattle.mm_relation.specs.declared.sorted_rows.SortedRow.{SortedRow}
use Rattle.mm_relation.specs.Reading.{value_at}
use Rattle.mm_relation.proofs.Listing.{next_held}
use Rattle.mm_relation.proofs.sorted_rows.values_by_key.Goals as goal

pub value_in-value-requires : goal.value_in-value-requires
value_in-value-requires g c =
    c.requires.read c.in-Some.r
    (next_held c.args.rows.now.tuples (items_of_tree c.args.by_key.now) c.loop-r.yielded (rest_of c.next.new.self) c.in-Some.r c.requires.keyed
    (c.loop-r.invariant.split ∙ ap (λ (xs : List TupleRef). c.loop-r.yielded ++ xs) c.in-Some.ensures.steps))

pub loop-r-preserved : goal.loop-r-preserved
loop-r-preserved g c =
    let rest : List TupleRef = rest_of c.next.new.self in
    let row : SortedRow (Bor Value) → TupleRef = λ s. s.r in
    let read : SortedRow (Bor Value) = record { value = c.value_in-value.result; r = c.in-Some.r } in
    record {
      split = c.loop-r.invariant.split ∙ ap (λ (xs : List TupleRef). c.loop-r.yielded ++ xs) c.in-Some.ensures.steps ∙ sym (append_assoc c.loop-r.yielded (c.in-Some.r ∷ []) rest);
      refs = ap (map row) c.in_ok-push.ensures.items ∙ map-append row c.loop-r.sorted.items (read ∷ []) ∙ ap (λ (xs : List TupleRef). xs ++ c.in-Some.r ∷ []) c.loop-r.invariant.refs;
      values = rw c.in_ok-push.ensures.items (All-push (λ (s : SortedRow (Bor Value)). value_at (g.R.LinkedKeys.keys c.args.others.now) c.args.column.0 c.args.rows.now.tuples s.r ≡ Some s.value.now) c.loop-r.sorted.items read c.loop-r.invariant.values c.value_in-value.ensures);
    }
