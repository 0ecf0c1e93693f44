use Rattle.std.proofs.Common.{◌+◌, get_or, refl, arith}
use Rattle.std.proofs.lemmas.Option.{slice_get-get_or, slice_get_within}
use Rattle.mm_relation.specs.Rows.{referrers_at}
use Rattle.mm_relation.specs.State.{RelationState}
use Rattle.mm_catalog.proofs.Counted.{counted_as, counted_one}
use Rattle.mm_catalog.proofs.references.counting.count_up.Goals as goal

pub returns : goal.returns
returns c =
    let n = c.args.link.table.0 in
    let d = c.index-before-link.result in
    let s : RelationState = get_or c.args.before.now n d in
    let there = slice_get-get_or c.args.before.now n d (slice_get_within c.args.before.now n c.requires.held.0 c.requires.held.1) in
    counted_as _ _ _ _ _ _ (λ table r. refl) (λ table r. omega arith)
    (counted_one c.args.before.now n s c.add_referrers.new.self c.args.link.to (referrers_at s.referrers c.args.link.to + c.args.n) c.args.n 0 there c.add_referrers.ensures.added (omega arith) c.requires.kept c.a_relation_is_kept.ensures)
