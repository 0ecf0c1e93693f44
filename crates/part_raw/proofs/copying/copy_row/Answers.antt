use Rattle.std.proofs.Common.{◌+◌, length, get_or, set, take, Some, None, sym, ap, ◌∙◌, inr, arith}
use Rattle.std.proofs.lemmas.List.{length-take}
use Rattle.part_raw.specs.Rows.{clear_run}
use Rattle.part_raw.proofs.Rows.{length-put_run, put_run-none, put_run-outside}
use Rattle.part_raw.proofs.Copied.{put_run-next, put_run-held, put_run-cleared}
use Rattle.part_raw.proofs.copying.copy_row.Goals as goal

pub loop-i-init : goal.loop-i-init
loop-i-init g c = sym (put_run-none c.args.block.now c.args.from)

pub write-requires-clause-within : goal.write-requires-clause-within
write-requires-clause-within g c =
    let e = ap length c.loop-i.invariant in let p = length-put_run c.args.block.now c.args.from (take c.loop-i.i c.args.row.now) in
    omega (arith, e, p, c.requires.within, c.loop-i-test.true)

pub write-requires-clause-empty : goal.write-requires-clause-empty
write-requires-clause-empty g c =
    ap (λ b. get_or b (c.args.from + c.loop-i.i) None) c.loop-i.invariant
    ∙ put_run-outside c.args.block.now c.args.from (take c.loop-i.i c.args.row.now) (c.args.from + c.loop-i.i) (inr (omega (arith, length-take c.loop-i.i c.args.row.now)))
    ∙ c.requires.empty c.loop-i.i (omega (arith, c.loop-i-test.true))

pub loop-i-preserved : goal.loop-i-preserved
loop-i-preserved g c =
    c.write.ensures ∙ ap (λ b. set b (c.args.from + c.loop-i.i) (Some c.in-Ok.copy)) c.loop-i.invariant
    ∙ put_run-next c.args.block.now c.args.from c.args.row.now c.loop-i.i c.in-Ok.copy c.index-row-i.result (omega (arith, c.loop-i-test.true)) (c.in-Ok.ensures ∙ c.index-row-i.is)

pub drop_row-requires-clause-few : goal.drop_row-requires-clause-few
drop_row-requires-clause-few g c =
    let e = ap length c.loop-i.invariant in omega (arith, e, length-put_run c.args.block.now c.args.from (take c.loop-i.i c.args.row.now), c.requires.few)

pub drop_row-requires-clause-within : goal.drop_row-requires-clause-within
drop_row-requires-clause-within g c =
    let e = ap length c.loop-i.invariant in let p = length-put_run c.args.block.now c.args.from (take c.loop-i.i c.args.row.now) in
    omega (arith, e, p, c.requires.within, c.loop-i-test.true)

pub drop_row-requires-clause-held : goal.drop_row-requires-clause-held
drop_row-requires-clause-held g c =
    let l = length-take c.loop-i.i c.args.row.now in
    rw c.loop-i.invariant (put_run-held c.args.block.now c.args.from (take c.loop-i.i c.args.row.now) c.loop-i.i (omega (arith, l, c.loop-i-test.true)) (omega (arith, l, c.requires.within)))

pub returns-in-Err-clause-err : goal.returns-in-Err-clause-err
returns-in-Err-clause-err g c =
    let l = length-take c.loop-i.i c.args.row.now in
    c.drop_row.ensures ∙ ap (λ b. clear_run b c.args.from c.loop-i.i) c.loop-i.invariant
    ∙ put_run-cleared c.args.block.now c.args.from (take c.loop-i.i c.args.row.now) c.loop-i.i (omega (arith, l, c.loop-i-test.true)) (omega (arith, l, c.requires.within))
    (λ k small. c.requires.empty k (omega (arith, l, small)))
