use Rattle.std.proofs.Common.{◌≡◌, ◌∙◌, ap, map, Vec, Global}
use Rattle.std.proofs.lemmas.Result.{IfOk-weaker}
use Rattle.part_raw.specs.declared.tuple_ref.TupleRef.{TupleRef}
use Rattle.mm_relation.specs.Sorting.{AreSorted}
use Rattle.mm_relation.proofs.sorted_rows.sorted_refs.Goals as goal

pub returns : goal.returns
returns g c =
    IfOk-weaker c.refs_of.result (λ (v : Vec TupleRef Global). v.items ≡ map (λ s. s.r) c.as_slice.result.now) (λ (v : Vec TupleRef Global). AreSorted g.V.Ord.cmp c.args.rows.items v.items)
    (λ v e. record {
      sorted_rows = c.sort_by_value.new.rows.items;
      moved = c.in_ok-sort_by_value.ensures.moved;
      sorted = c.in_ok-sort_by_value.ensures.sorted;
      stable = c.in_ok-sort_by_value.ensures.stable;
      listed = e ∙ ap (map (λ s. s.r)) c.as_slice.ensures.value;
    })
    c.refs_of.ensures
