use Rattle.std.proofs.Common.{◌≡◌, ◌-◌, ℕ, List, Some, IsSome, get_or, sym, ◌∙◌, subst, arith}
use Rattle.std.specs.List.{slice_get}
use Rattle.std.specs.FinMap as finite
use Rattle.std.proofs.lemmas.Option.{same_Some, slice_get-get_or, slice_get_within}
use Rattle.mm_relation.specs.State.{RelationState}
use Rattle.part_raw.specs.declared.tuple_ref.TupleRef.{TupleRef}
use Rattle.mm_catalog.specs.Counted.{IsHeldIn}
use Rattle.mm_relation.specs.Rows.{referrers_at}
use Rattle.mm_catalog.proofs.Counted.{counted_as, counted_one, naming_itself}
use Rattle.mm_catalog.proofs.references.counting.count_down.Goals as goal

named : (relations : List RelationState) (table : ℕ) (d : RelationState) (to : TupleRef) → IsHeldIn relations (table, to) → (slice_get relations table ≡ Some (get_or relations table d)) × IsSome (finite.get (get_or relations table d).rows to)
named relations table d to held =
    let there = slice_get-get_or relations table d (slice_get_within relations table held.0 held.1) in
    (there, subst (λ (t : RelationState). IsSome (finite.get t.rows to)) (same_Some held.0 (get_or relations table d) (sym held.1 ∙ there)) held.2)

pub sub_referrers-requires-clause-enough : goal.sub_referrers-requires-clause-enough
sub_referrers-requires-clause-enough c =
    let n = c.args.link.table.0 in
    let to = c.args.link.to in
    let s : RelationState = get_or c.args.before.now n c.index-before-link.result in
    let its = named c.args.before.now n c.index-before-link.result to c.requires.held in
    omega (arith, naming_itself n to, c.requires.enough n s to its.0 its.1)

pub returns : goal.returns
returns c =
    let n = c.args.link.table.0 in
    let to = c.args.link.to in
    let s : RelationState = get_or c.args.before.now n c.index-before-link.result in
    let its = named c.args.before.now n c.index-before-link.result to c.requires.held in
    let some = c.requires.enough n s to its.0 its.1 in
    counted_as _ _ _ _ _ _ (λ table r. omega arith) (λ table r. omega arith)
    (counted_one c.args.before.now n s c.sub_referrers.new.self to (referrers_at s.referrers to - 1) 0 1 its.0 c.sub_referrers.ensures.taken (omega (arith, some, naming_itself n to)) c.requires.kept c.a_relation_is_kept.ensures)
