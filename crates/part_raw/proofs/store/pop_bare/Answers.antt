use Rattle.std.proofs.Common.{◌≡◌, ◌∙◌, ap, length, arith, refl, take}
use Rattle.std.proofs.lemmas.List.{length_push}
use Rattle.part_raw.proofs.OwnCounts.{own-take, own-front}
use Rattle.part_raw.proofs.Tables.{length-tables}
use Rattle.part_raw.proofs.Spared.{last-bare, front_kept, front_tuples, front_free, front_slots, holds_front}
use Rattle.part_raw.proofs.store.pop_bare.Given.{Over}
use Rattle.part_raw.proofs.store.pop_bare.Goals as goal
use Rattle.part_raw.proofs.store.pop_bare.Goals.{After-shrink_to_fit-3}

pub let_go-requires : goal.let_go-requires
let_go-requires g c =
    let kept = rw (c.in-Some-Some.ensures.items, c.in-Some-Some.ensures'.items) at c.loop-blocks.invariant.kept in
    let bare = rw c.in-Some-Some.ensures'.items at c.ends_bare.ensures.bare c.loop-blocks-test.true in
    last-bare c.args.width c.pop.new.self.items _ c.pop-in-loop-blocks.new.self.items c.in-Some-Some.field-0-1 kept bare

pub loop-blocks-init : goal.loop-blocks-init
loop-blocks-init g c = record {
  kept = c.requires.kept;
  own = λ own. own-take c.args.blocks.now.items c.args.counts.now.items own (length c.args.blocks.now.items);
  as_many = c.requires.kept.mapped.as_many ∙ length-tables c.args.width c.args.blocks.now.items;
  tuples = refl;
  fewer = omega arith;
  free = refl;
  slots = refl;
  held = λ held. held;
}

pub loop-blocks-preserved : goal.loop-blocks-preserved
loop-blocks-preserved g c =
    let kept = rw (c.in-Some-Some.ensures.items, c.in-Some-Some.ensures'.items) at c.loop-blocks.invariant.kept in
    let bare = rw c.in-Some-Some.ensures'.items at c.ends_bare.ensures.bare c.loop-blocks-test.true in
    let own = rw c.in-Some-Some.ensures.items at c.loop-blocks.invariant.own in
    let tuples = rw c.in-Some-Some.ensures.items at c.loop-blocks.invariant.tuples in
    let free = rw c.in-Some-Some.ensures.items at c.loop-blocks.invariant.free in
    let slots = rw c.in-Some-Some.ensures.items at c.loop-blocks.invariant.slots in
    let held = rw c.in-Some-Some.ensures'.items at c.loop-blocks.invariant.held in
    let one = length_push c.pop.new.self.items c.in-Some-Some.block in
    let one' = length_push c.pop-in-loop-blocks.new.self.items c.in-Some-Some.field-0-1 in
    record {
      own = λ all. own-front c.pop.new.self.items c.in-Some-Some.block c.args.counts.now.items (own all);
      kept = front_kept c.args.width c.pop.new.self.items _ c.pop-in-loop-blocks.new.self.items c.in-Some-Some.field-0-1 kept bare;
      as_many = omega (arith, one, one', ap length c.in-Some-Some.ensures.items, ap length c.in-Some-Some.ensures'.items, c.loop-blocks.invariant.as_many);
      tuples = front_tuples c.args.width c.pop.new.self.items _ c.pop-in-loop-blocks.new.self.items c.in-Some-Some.field-0-1 kept bare ∙ tuples;
      fewer = omega (arith, one, ap length c.in-Some-Some.ensures.items, c.loop-blocks.invariant.fewer);
      free = front_free c.args.width c.pop.new.self.items _ c.pop-in-loop-blocks.new.self.items c.in-Some-Some.field-0-1 kept bare ∙ free;
      slots = front_slots c.args.width c.pop.new.self.items _ c.pop-in-loop-blocks.new.self.items c.in-Some-Some.field-0-1 kept bare ∙ slots;
      held = λ all part within.
          holds_front c.pop-in-loop-blocks.new.self.items c.in-Some-Some.field-0-1 part within (held all part (omega (arith, within, one')));
    }

cut : (g : Over) (c : After-shrink_to_fit-3 g) → c.shrink_to_fit-2.new.self.items ≡ take (length c.loop-blocks.blocks.items) c.args.counts.now.items
cut g c = c.shrink_to_fit-2.ensures.items ∙ c.truncate.ensures.items ∙ ap (λ n. take n c.args.counts.now.items) (c.len.ensures ∙ c.loop-blocks.blocks.ok.0)

pub returns-clause-kept : goal.returns-clause-kept
returns-clause-kept g c = rw (c.shrink_to_fit.ensures.items, c.shrink_to_fit-3.ensures.items) c.loop-blocks.invariant.kept

pub returns-clause-own : goal.returns-clause-own
returns-clause-own g c = λ own. rw (c.shrink_to_fit.ensures.items, cut g c) (c.loop-blocks.invariant.own own)
