use Rattle.std.proofs.Common.{rules, arith, ◌≡◌, ◌≤◌, ◌∙◌}
use Rattle.mm_relation.specs.Indexes.{seen, room_in, sure, CoversIn}
use Rattle.mm_relation.proofs.Loops.{keeps_more}
use Rattle.mm_relation.proofs.indexes.cover_each.Goals as goal

pub returns-in_err-cover-clause-kept : goal.returns-in_err-cover-clause-kept
returns-in_err-cover-clause-kept c = λ q. keeps_more (λ was on. CoversIn q was.index → CoversIn q on.index) c.args.indexes.now c.loop-on.indexes c.loop-on.on-index c.on-item.result c.cover.new.self (omega (arith, c.loop-on.auto.indexes)) (omega (arith, c.loop-on.auto.indexes)) (λ before covers. c.cover.ensures.kept q (before covers)) (c.loop-on.invariant.kept q)

pub loop-on-preserved : goal.loop-on-preserved
loop-on-preserved c = record {
  same = keeps_more (λ was on. seen on ≡ seen was) c.args.indexes.now c.loop-on.indexes c.loop-on.on-index c.on-item.result c.cover.new.self (omega (arith, c.loop-on.auto.indexes)) (omega (arith, c.loop-on.auto.indexes)) (λ before. c.cover.ensures.same ∙ before) c.loop-on.invariant.same;
  room = λ t h. keeps_more (λ was on. sure t h was.index ≤ room_in was.index → sure t h on.index ≤ room_in on.index) c.args.indexes.now c.loop-on.indexes c.loop-on.on-index c.on-item.result c.cover.new.self (omega (arith, c.loop-on.auto.indexes)) (omega (arith, c.loop-on.auto.indexes)) (λ before room. c.cover.ensures.room t h (before room)) (c.loop-on.invariant.room t h);
  kept = λ q. keeps_more (λ was on. CoversIn q was.index → CoversIn q on.index) c.args.indexes.now c.loop-on.indexes c.loop-on.on-index c.on-item.result c.cover.new.self (omega (arith, c.loop-on.auto.indexes)) (omega (arith, c.loop-on.auto.indexes)) (λ before covers. c.cover.ensures.kept q (before covers)) (c.loop-on.invariant.kept q);
  covered = search rules;
}
