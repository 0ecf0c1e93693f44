use Rattle.std.proofs.Common.{◌≡◌, Some, length, ap, sym, ◌∙◌, arith}
use Rattle.lin_hash.specs.RowChains.{row_next_at, row_entry_at}
use Rattle.lin_hash.proofs.Walks.{ends-step, walk-step, walk-smaller, walk-short}
use Rattle.lin_hash.specs.Nodes.{leads_to}
use Rattle.lin_hash.proofs.row_chains.walked.Goals as goal

pub overflow_add-count : goal.overflow_add-count
overflow_add-count c =
    let nodes = c.args.nodes.now.items in
    let i = c.loop-place.invariant in
    let few = c.requires.few in
    let most = walk-short (row_next_at nodes) (row_entry_at nodes) (length nodes) c.args.first in
    let is : leads_to c.loop-place.rest ≡ Some c.in-Some.place = sym c.place.ensures ∙ c.in-Some.is in
    let step = ap length (walk-step (length nodes) (row_next_at nodes) (row_entry_at nodes) (length nodes) c.loop-place.rest c.in-Some.place is i.0) in
    let all = i.1 in
    omega (arith, few, most, all, step)

pub get-requires : goal.get-requires
get-requires c =
    let nodes = c.args.nodes.now.items in
    let is : leads_to c.loop-place.rest ≡ Some c.in-Some.place = sym c.place.ensures ∙ c.in-Some.is in
    (ends-step (length nodes) (row_next_at nodes) (length nodes) c.loop-place.rest c.in-Some.place is c.loop-place.invariant.0).0

pub loop-place-smaller : goal.loop-place-smaller
loop-place-smaller c =
    let nodes = c.args.nodes.now.items in
    let is : leads_to c.loop-place.rest ≡ Some c.in-Some.place = sym c.place.ensures ∙ c.in-Some.is in
    rw c.get.ensures (walk-smaller (length nodes) (row_next_at nodes) (row_entry_at nodes) (length nodes) c.loop-place.rest c.in-Some.place is c.loop-place.invariant.0)

pub loop-place-preserved : goal.loop-place-preserved
loop-place-preserved c =
    let nodes = c.args.nodes.now.items in
    let i = c.loop-place.invariant in
    let is : leads_to c.loop-place.rest ≡ Some c.in-Some.place = sym c.place.ensures ∙ c.in-Some.is in
    let step = ap length (walk-step (length nodes) (row_next_at nodes) (row_entry_at nodes) (length nodes) c.loop-place.rest c.in-Some.place is i.0) in
    let all = i.1 in
    rw c.get.ensures ((ends-step (length nodes) (row_next_at nodes) (length nodes) c.loop-place.rest c.in-Some.place is i.0).1, omega (arith, all, step))
