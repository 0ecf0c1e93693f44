use Rattle.std.proofs.Common.{◌≡◌, ◌∙◌, List, get_or, refl, subst}
use Rattle.std.proofs.lemmas.Bool.{eqb-true}
use Rattle.std.specs.List.{Contains}
use Rattle.part_raw.specs.declared.tuple_ref.TupleRef.{TupleRef}
use Rattle.mm_index.specs.Bag.{with_hash}
use Rattle.mm_index.proofs.Bags.{Contains-from_with_hash}
use Rattle.mm_index.proofs.Refs.{Contains-same_refs}
use Rattle.storage_tests.proofs.hashes.holds.Goals as goal

pub returns-then-contains : goal.returns-then-contains
returns-then-contains g c =
    let entries = g.E.ExactIndex.entries c.args.index.now in
    let xs = c.as_slice.result.now in
    let appended = c.in_ok-matching.ensures.ok in
    let at = c.if-contains.ensures.cases in
    let same : (get_or xs at.0 c.args.r).number ≡ c.args.r.number = eqb-true _ _ (at.2 c.args.r) in
    let here : Contains xs c.args.r = (at.0, at.1, λ i. record { number = same i }) in
    let whole : xs ≡ appended.0 = c.as_slice.ensures.value ∙ appended.1 ∙ rw c.new-found.ensures.items refl in
    let among = subst (λ (ys : List TupleRef). Contains ys c.args.r) whole here in
    Contains-from_with_hash c.args.hash entries c.args.r (Contains-same_refs appended.0 (with_hash c.args.hash entries) c.args.r appended.2 among)
