use Rattle.std.proofs.Common.{rules, arith, ◌≡◌, ◌≤◌, ◌∙◌, max, get_or}
use Rattle.mm_relation.specs.Indexes.{seen, spares_in, room_in, sure, CoversIn}
use Rattle.mm_relation.proofs.Loops.{keeps_more}
use Rattle.mm_relation.proofs.Room.{sure_most}
use Rattle.mm_relation.proofs.indexes.reserve_each.Goals as goal

pub returns-in_err-reserve-clause-kept : goal.returns-in_err-reserve-clause-kept
returns-in_err-reserve-clause-kept c = λ q. keeps_more (λ was on. CoversIn q was.index → CoversIn q on.index) c.args.indexes.now c.loop-on.indexes c.loop-on.on-index c.on-item.result c.reserve.new.self (omega (arith, c.loop-on.auto.indexes)) (omega (arith, c.loop-on.auto.indexes)) (λ before covers. c.reserve.ensures.kept q (before covers)) (c.loop-on.invariant.kept q)

pub loop-on-preserved : goal.loop-on-preserved
loop-on-preserved c = record {
  same = keeps_more (λ was on. seen on ≡ seen was) c.args.indexes.now c.loop-on.indexes c.loop-on.on-index c.on-item.result c.reserve.new.self (omega (arith, c.loop-on.auto.indexes)) (omega (arith, c.loop-on.auto.indexes)) (λ before. c.reserve.ensures.same ∙ before) c.loop-on.invariant.same;
  room = λ t h. keeps_more (λ was on. sure t h was.index ≤ room_in was.index → sure t h on.index ≤ room_in on.index) c.args.indexes.now c.loop-on.indexes c.loop-on.on-index c.on-item.result c.reserve.new.self (omega (arith, c.loop-on.auto.indexes)) (omega (arith, c.loop-on.auto.indexes)) (λ before room. c.reserve.ensures.room t h (before room)) (c.loop-on.invariant.room t h);
  kept = λ q. keeps_more (λ was on. CoversIn q was.index → CoversIn q on.index) c.args.indexes.now c.loop-on.indexes c.loop-on.on-index c.on-item.result c.reserve.new.self (omega (arith, c.loop-on.auto.indexes)) (omega (arith, c.loop-on.auto.indexes)) (λ before covers. c.reserve.ensures.kept q (before covers)) (c.loop-on.invariant.kept q);
  reserved = search rules;
  spares = keeps_more (λ was on. spares_in on.index ≤ max (spares_in was.index) (max c.args.trees c.args.hashes)) c.args.indexes.now c.loop-on.indexes c.loop-on.on-index c.on-item.result c.reserve.new.self (omega (arith, c.loop-on.auto.indexes)) (omega (arith, c.loop-on.auto.indexes))
      (λ before. omega (arith, before, c.reserve.ensures.spares, c.sure_in-wanted.ensures, sure_most c.args.trees c.args.hashes (get_or c.loop-on.indexes c.loop-on.on-index c.on-item.result).index)) c.loop-on.invariant.spares;
}
