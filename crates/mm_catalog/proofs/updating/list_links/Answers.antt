use Rattle.std.proofs.Common.{◌<◌, ◌++◌, List, length, map, get_or, sym, ap, ◌∙◌, arith}
use Rattle.part_raw.proofs.Tuples.{held_tuple}
use Rattle.mm_catalog.specs.Counted.{linked_of}
use Rattle.mm_catalog.specs.Assigned.{row_links_at}
use Rattle.mm_catalog.specs.Linked.{Linked}
use Rattle.mm_catalog.proofs.SetLinks.{links_more, no_links}
use Rattle.mm_catalog.proofs.updating.list_links.Goals as goal

pub loop-r-init : goal.loop-r-init
loop-r-init c = ap (map linked_of) c.clear.ensures.items ∙ sym (no_links c.args.relation.now c.args.sets.now)

pub loop-r-preserved : goal.loop-r-preserved
loop-r-preserved c =
    let s = c.args.relation.now in
    let sets = c.args.sets.now in
    let rs = c.args.rows.now in
    let i = c.loop-r.r-index in
    let within : i < length rs = omega (arith, c.loop-r-test.true) in
    let row = held_tuple s.rows (get_or rs i _) (c.requires.held i _ within) in
    c.in_ok-push_links.ensures row.0 row.1 ∙ ap (λ (ls : List Linked). ls ++ row_links_at s.targets sets row.0) c.loop-r.invariant
    ∙ sym (links_more s sets rs i _ row.0 within row.1)
