use Rattle.std.proofs.Common.{rules, ◌≡◌, Some, length, refl, sym, ap, ◌∙◌, subst, arith}
use Rattle.std.specs.List.{slice_get}
use Rattle.std.proofs.lemmas.List.{length_push}
use Rattle.mm_catalog.specs.Cells.{cell_for}
use Rattle.mm_catalog.proofs.Lists.{drop-next, drop-some, get-drop}
use Rattle.mm_catalog.proofs.Packed.{AreFirst, first_none, first_more, starts, row_packed, kept_out_by, kept_out_for_memory}
use Rattle.mm_catalog.proofs.insert.pack.Given.{Over}
use Rattle.mm_catalog.proofs.insert.pack.Goals as goal
use Rattle.mm_catalog.proofs.insert.pack.Goals.{After-next}

pub loop-init : goal.loop-init
loop-init g c = record {
  count = ap length c.in_ok-empty_for.ensures.none;
  left = refl;
  first = subst (AreFirst c.args.before.now c.args.relation.now.targets (g.V.RowValues.left c.args.values)) (sym c.in_ok-empty_for.ensures.none) (first_none c.args.before.now c.args.relation.now.targets (g.V.RowValues.left c.args.values));
  room = omega (arith, c.in_ok-empty_for.ensures.room, c.len-count.ensures);
}

pub next-requires : goal.next-requires
next-requires g c = drop-some (g.V.RowValues.left c.args.values) c.loop.counter c.loop.invariant.left (omega (arith, c.loop-test.true, c.len-count.ensures))

-- the value whose turn it is
next : (g : Over) (c : After-next g) → slice_get (g.V.RowValues.left c.args.values) (length c.loop.cells.items) ≡ Some c.next.result.now
next g c =
    let all = g.V.RowValues.left c.args.values in
    ap (slice_get all) c.loop.invariant.count ∙ get-drop all c.loop.counter ∙ sym (ap (λ left. slice_get left 0) c.loop.invariant.left) ∙ c.next.ensures

pub next_named-requires-clause-starts : goal.next_named-requires-clause-starts
next_named-requires-clause-starts g c some =
    rw c.as_slice.ensures.value
    (starts c.args.before.now c.args.relation.now.targets (g.V.RowValues.left c.args.values) c.loop.cells.items c.loop.invariant.first (omega (arith, c.loop-test.true, c.len-count.ensures)) (omega (arith, some, ap length c.as_slice.ensures.value)))

pub loop-preserved : goal.loop-preserved
loop-preserved g c =
    let all = g.V.RowValues.left c.args.values in
    let cells = c.loop.cells.items in
    let there = next g (goal.at.loop-preserved g c).After-next in
    let cell = cell_for c.next.result.now c.in_ok-named.named in
    let put = c.in_ok-put.ensures.put c.next.result.now c.next.ensures in
    record {
      count = ap length put ∙ omega (arith, c.loop.invariant.count, length_push cells cell);
      left = c.in_ok-put.ensures.rest ∙ drop-next all c.loop.counter c.loop.invariant.left;
      first = rw put
          (first_more c.args.before.now c.args.relation.now.targets all cells c.next.result.now _ c.loop.invariant.first there
          (rw c.as_slice.ensures.value at c.in_ok-named.ensures.named));
      room = omega (arith, c.loop.invariant.room, c.in_ok-put.ensures.capacity);
    }

pub returns-in_err-empty_for-clause-refused : goal.returns-in_err-empty_for-clause-refused
returns-in_err-empty_for-clause-refused g c = kept_out_for_memory c.args.before.now c.args.relation.now (g.V.RowValues.left c.args.values) c.from_residual.result (search rules)

pub returns-in_err-put-clause-refused : goal.returns-in_err-put-clause-refused
returns-in_err-put-clause-refused g c = kept_out_for_memory c.args.before.now c.args.relation.now (g.V.RowValues.left c.args.values) c.from_residual-in_err-put.result (search rules)

pub returns-in_err-named-clause-refused : goal.returns-in_err-named-clause-refused
returns-in_err-named-clause-refused g c =
    kept_out_by c.args.before.now c.args.relation.now (g.V.RowValues.left c.args.values) c.from_residual-in_err-named.result c.loop.cells.items c.as_slice.result.now c.next.result.now
    c.loop.invariant.first (next g (goal.at.returns-in_err-named-clause-refused g c).After-next) c.as_slice.ensures.value (search rules)

pub returns-clause-cells : goal.returns-clause-cells
returns-clause-cells g c =
    row_packed c.args.before.now c.args.relation.now.targets (g.V.RowValues.left c.args.values) c.loop.cells.items c.loop.invariant.first (omega (arith, c.loop.invariant.count, c.loop-test.false, c.len-count.ensures))
