use Rattle.std.proofs.Common.{◌<◌, length, get_or, arith}
use Rattle.mm_catalog.specs.Counted.{linked_of}
use Rattle.mm_catalog.proofs.Counted.{counted_none, held_still}
use Rattle.mm_catalog.proofs.SetLinks.{enough_next, lowered_next}
use Rattle.mm_catalog.proofs.references.counting.count_down_all.Goals as goal

pub loop-link-init : goal.loop-link-init
loop-link-init c = counted_none c.args.before.now c.requires.kept

pub count_down-requires-clause-held : goal.count_down-requires-clause-held
count_down-requires-clause-held c =
    let links = c.args.links.now in
    let i = c.loop-link.link-index in
    let within : i < length links = omega (arith, c.loop-link-test.true) in
    held_still c.args.before.now c.loop-link.before (linked_of (get_or links i _)) c.loop-link.invariant.recounted (c.requires.held i _ within)

pub count_down-requires-clause-enough : goal.count_down-requires-clause-enough
count_down-requires-clause-enough c =
    let within : c.loop-link.link-index < length c.args.links.now = omega (arith, c.loop-link-test.true) in
    enough_next c.args.links.now c.args.before.now c.loop-link.before c.loop-link.link-index _ within c.loop-link.invariant c.requires.enough

pub loop-link-preserved : goal.loop-link-preserved
loop-link-preserved c =
    let within : c.loop-link.link-index < length c.args.links.now = omega (arith, c.loop-link-test.true) in
    lowered_next c.args.links.now c.args.before.now c.loop-link.before c.loop-link.link-index _ within c.loop-link.invariant c.count_down.new.before c.count_down.ensures
